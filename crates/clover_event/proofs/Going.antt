-- A step of a client whose access was refused, the client's seat, and the numbers of its entries.
use Prim.Native.Nat.{suc}
use Rattle.std.proofs.Common.{◌≡◌, ℕ, List, [], ◌∷◌, ◌++◌, length, true, false, refl, sym, ap, ◌∙◌, arith, append-nil}
use Rattle.std.specs.Prelude.{Some, None}
use Rattle.std.proofs.lemmas.Option.{same_Some}
use Rattle.clover_words.specs.declared.setup.Setup.{Setup}
use Rattle.clover_map.specs.History.{own}
use Rattle.clover_map.specs.declared.call.Entry.{Entry}
use Rattle.clover_script.specs.declared.line.Task.{Task}
use Rattle.clover_rule.specs.declared.access.Access.{Access}
use Rattle.clover_rule.specs.declared.access.Act.{Act}
use Rattle.clover_plain.specs.Plain.{Plain}
use Rattle.clover_event.proofs.Stepping.{own_more}
use Rattle.clover_event.specs.Client.{access}

-- the numbers of a client's entries, with none more and with one more
pub number_same : (n c : ℕ) (h k : List Entry) → n ≡ length (own h c) → k ≡ h ++ [] → n ≡ length (own k c)
number_same n c h k e m = e ∙ ap (λ (l : List Entry). length (own l c)) (sym (append-nil h) ∙ sym m)

pub number_more : (n c : ℕ) (h k : List Entry) (e : Entry) → n ≡ length (own h c) → e.client ≡ c → k ≡ h ++ e ∷ [] → suc n ≡ length (own k c)
number_more n c h k e is mine m = let o = own_more h e c mine in let l = ap (λ (l : List Entry). length (own l c)) m in omega arith

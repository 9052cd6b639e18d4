-- What one access of a client is in a run, and where the client stands behind it.
use Rattle.std.proofs.Common.{◌≡◌, ℕ, suc, ◌+◌, ◌==◌, List, [], ◌∷◌, ◌++◌, length, get_or, Bool, true, false, cond, if◌then◌else◌, refl, sym, ap, ◌∙◌, subst, arith, eq-eqb, option_to_list}
use Rattle.std.specs.Prelude.{Option, Some, None, IfSome, IsSome}
use Rattle.std.proofs.lemmas.List.Elements.{filter-append}
use Rattle.std.proofs.lemmas.Option.{same_Some}
use Rattle.std.proofs.Math.ListN.{length-append}
use Rattle.clover_words.specs.declared.pool.Pool.{Pool}
use Rattle.clover_map.specs.History.{own, is_commit}
use Rattle.clover_map.specs.declared.call.Call.{Call}
use Rattle.clover_map.specs.declared.call.Call.TheVariants.{Get as GetOf, Put as PutOf, Delete as DeleteOf, Swap as SwapOf}
use Rattle.clover_map.specs.declared.call.Entry.{Entry}
use Rattle.clover_map.specs.declared.call.Reply.{Reply}
use Rattle.clover_map.specs.declared.call.Reply.TheVariants.{Stored, Deleted, Found, Absent, Differs}
use Rattle.clover_script.specs.declared.line.Task.{Task}
use Rattle.clover_rule.specs.Accesses.{CameBack}
use Rattle.clover_rule.specs.Rule.{longest}
use Rattle.clover_rule.specs.Steps.{reply_of}
use Rattle.clover_rule.specs.declared.access.Access.{Access}
use Rattle.clover_rule.specs.declared.access.Act.{Act}
use Rattle.clover_rule.specs.declared.view.View.{View}
use Rattle.clover_rule.specs.Moves.{nobody}
use Rattle.clover_plain.specs.Plain.{Plain, Kept, view_at, history}
use Rattle.clover_call.specs.Caller.{CallerHolds, AreCursors, CallHolds, call_under}
use Rattle.clover_event.specs.Client.{access}

-- one entry more of a client
pub own_more : (h : List Entry) (e : Entry) (c : ℕ) → e.client ≡ c → length (own (h ++ e ∷ []) c) ≡ length (own h c) + 1
own_more h e c is =
    let one : own (e ∷ []) c ≡ e ∷ [] = ap (λ (b : Bool). cond b (e ∷ []) []) (eq-eqb e.client c is) in
    ap length (filter-append (λ (z : Entry). z.client == c) h (e ∷ [])) ∙ length-append (own h c) (own (e ∷ []) c) ∙ ap (λ (l : List Entry). length (own h c) + length l) one

-- A load of the count that equals the length of a copy without the key decides that the key is absent.
use Rattle.std.proofs.Common.{◌≡◌, ℕ, zero, suc, List, [], ◌∷◌, ◌++◌, length, length-append, append-nil, Bool, true, false, refl, sym, ap, ◌∙◌, arith, subst}
use mathlib.Core.Logic.{dite}
use Rattle.std.specs.Prelude.{Option, Some, None}
use Rattle.std.specs.FinMap.{get}
use Rattle.clover_map.specs.declared.call.Entry.{Entry}
use Rattle.clover_map.specs.declared.bytes.Held.{Held}
use Rattle.clover_map.specs.Tagged.{Tagged}
use Rattle.clover_rule.specs.History.{Version, commits_at, ends, pair_of}
use Rattle.clover_rule.specs.Lists.{nth, Within, IsPrefix}
use Rattle.clover_rule.specs.Memory.{Mem}
use Rattle.clover_rule.specs.Story.{Story, Tale}
use Rattle.clover_rule.specs.Views.{Naming}
use Rattle.clover_rule.proofs.KeyMaps.{leads, shows}
use Rattle.clover_rule.proofs.Keys.{key_discrete}
use Rattle.clover_rule.proofs.Histories.{leads_commits}
use Rattle.clover_rule.proofs.Histories.{ends_more}

-- an optional key is this one or not
pub same_option : (a : Option (List ℕ)) (k : List ℕ) → Dec (a ≡ Some k)
same_option None k = no (λ e. absurd cc)
same_option (Some j) k = dite (key_discrete j k) (λ e. yes (ap Some e)) (λ n. no (λ e. n cc))

pub whole_prefix : {A : Type 0} (xs ys : List A) → IsPrefix xs ys → length ys ≡ length xs → ys ≡ xs
whole_prefix {A} xs ys p e = p.1 ∙ ap (λ (zs : List A). xs ++ zs) (empty p.0 (let q = ap length p.1 in omega (arith, length-append xs p.0))) ∙ append-nil xs
  where
    empty : (zs : List A) → length zs ≡ 0 → zs ≡ []
    empty [] h = refl
    empty (z ∷ zs) h = absurd (omega arith)

dead_ends : (ws : List Version) → ((i : ℕ) (w : Version) → nth ws i ≡ Some w → w.value ≡ None) → ends None ws ≡ None
dead_ends [] h = refl
dead_ends (w ∷ ws) h = ap (λ (x : Option Held). ends x ws) (dead w (h zero w refl)) ∙ dead_ends ws (λ i. h (suc i))
  where
    dead : (w : Version) → w.value ≡ None → pair_of w ≡ None
    dead w e = rw e refl

pub absent_map : (m : Mem) (st : Story) (f : List ℕ → ℕ) (m0 : Tagged) (used : List ℕ) (h : List Entry) (names : List (ℕ × List ℕ)) (k : List ℕ)
    → Naming m st f → Tale st m0 used h → IsPrefix names st.bindings → m.count ≡ length names → ((s : ℕ) → Within (s, k) names → ⊥) → leads (shows m0) h k ≡ None
absent_map m st f m0 used h names k n t p e away = go (same_option (st.keys (f k)) k)
  where
    all_named : st.bindings ≡ names
    all_named = whole_prefix names st.bindings p (sym n.counted ∙ e)

    go : Dec (st.keys (f k) ≡ Some k) → leads (shows m0) h k ≡ None
    go (no d) = let u = t.unbound k (λ s q. d (ap st.keys (n.found s k q) ∙ q)) in leads_commits (shows m0) h k ∙ ap (ends (get m0 k)) u.1 ∙ u.0
    go (yes q) = named (st.named (f k)) refl
      where
        named : (b : Bool) → st.named (f k) ≡ b → leads (shows m0) h k ≡ None
        named true z = absurd (away (f k) (subst (Within (f k, k)) all_named (n.listed (f k) k q z)))
        named false z = leads_commits (shows m0) h k ∙ ap (λ (x : Option Held). ends x (commits_at k h)) (sym (t.began (f k) k q)) ∙ sym (ends_more None (st.first (f k)) (commits_at k h)) ∙ ap (ends None) (sym (t.told (f k) k q)) ∙ dead_ends (st.log (f k)) (n.waiting (f k) k q z)

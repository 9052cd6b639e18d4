-- What some view of a pool knows to be durable one knows still, behind an access and where the views are the same.
use Prim.Native.Nat.{zero, suc}
use Rattle.std.proofs.Common.{◌≡◌, ℕ, ◌<◌, ◌⊎◌, inl, inr, ⊎_elim, List, [], ◌∷◌, ◌++◌, length, get_or, set, Bool, refl, sym, subst}
use Rattle.clover_rule.specs.Cut.{IsKnownDurable}
use Rattle.clover_rule.specs.Learned.{next_view}
use Rattle.clover_rule.specs.Lists.{Within}
use Rattle.clover_rule.specs.Moves.{nobody}
use Rattle.clover_rule.specs.Steps.{Step}
use Rattle.clover_rule.specs.declared.view.View.{View}
use Rattle.clover_rule.proofs.Bindings.{nth_among}
use Rattle.clover_rule.proofs.Steps.{within_prefix}
use Rattle.clover_plain.specs.Plain.{Plain, Stepped, history, view_at}
use Rattle.clover_plain.proofs.Stepping.{nth_default}
use Rattle.clover_call.proofs.Knowing.{KnowsMore, durable_learned}
use Rattle.clover_run.specs.Client.{KeepsKnown}

-- the views are the same
pub known_same : (p q : Plain) → q.views ≡ p.views → q.absent ≡ p.absent → KeepsKnown p q
known_same p q views absent t k = subst (λ (vs : List View). IsKnownDurable vs t) (sym (λ j. views j ++ absent j)) k

-- a view of a list of which one is renewed stands there still, or is that one
within_renewed : (vs more : List View) (i : ℕ) (w v : View) → Within v (vs ++ more) → Within v (set vs i w ++ more) ⊎ ((get_or vs i nobody ≡ v) × Within w (set vs i w ++ more))
within_renewed [] more i w v here = inl here
within_renewed (x ∷ vs) more zero w v (inl same) = inr (same, inl refl)
within_renewed (x ∷ vs) more zero w v (inr here) = inl (inr here)
within_renewed (x ∷ vs) more (suc i) w v (inl same) = inl (inl same)
within_renewed (x ∷ vs) more (suc i) w v (inr here) = ⊎_elim (λ there. inl (inr there)) (λ h. inr (h.0, inr h.1)) (within_renewed vs more i w v here)

-- one view is renewed, and knows what it knew
pub known_renewed : (vs more : List View) (i : ℕ) (w : View) → KnowsMore (get_or vs i nobody) w → (t : ℕ) → IsKnownDurable (vs ++ more) t → IsKnownDurable (set vs i w ++ more) t
known_renewed vs more i w knows t (v, here, (s, d)) = ⊎_elim
    (λ (there : Within v (set vs i w ++ more)). (v, there, (s, d)))
    (λ (h : (get_or vs i nobody ≡ v) × Within w (set vs i w ++ more)). (w, h.1, (s, knows (s, t) (subst (λ (u : View). Within (s, t) u.pass.durable) (sym h.0) d))))
    (within_renewed vs more i w v here)

-- a view that is renewed and knows as much leaves what the view of any seat knows
pub same_known : (vs : List View) (c i : ℕ) (w : View) → w.pass.durable ≡ (get_or vs c nobody).pass.durable → (get_or (set vs c w) i nobody).pass.durable ≡ (get_or vs i nobody).pass.durable
same_known [] c i w e = refl
same_known (v ∷ vs) zero zero w e = e
same_known (v ∷ vs) zero (suc i) w e = refl
same_known (v ∷ vs) (suc c) zero w e = refl
same_known (v ∷ vs) (suc c) (suc i) w e = same_known vs c i w e

-- an access was made
pub known_stepped : (i : ℕ) (p q : Plain) (a : Step) (b l : Bool) (x : ℕ) → Stepped a b l i x p q → KeepsKnown p q
known_stepped i p q a b l x s t k = subst (λ (vs : List View). IsKnownDurable vs t) (sym (λ j. s.views j ++ s.same.absent j))
    (known_renewed p.views p.absent i (next_view b a (history p) (view_at p i) x) (durable_learned a (history p) (view_at p i) x) t k)

-- what the view of a seat knows
pub known_at : (p : Plain) (i s t : ℕ) → i < length p.views → Within (s, t) (view_at p i).pass.durable → IsKnownDurable (p.views ++ p.absent) t
known_at p i s t inside d = (view_at p i, within_prefix (view_at p i) p.views p.absent (nth_among p.views i (view_at p i) (nth_default p.views i nobody inside)), (s, d))

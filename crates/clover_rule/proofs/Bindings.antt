-- Bindings that have each slot once are at most as many as the pool has slots.
use Rattle.std.proofs.Common.{◌≡◌, ◌≢◌, ℕ, zero, suc, ◌<◌, ◌≤◌, List, [], ◌∷◌, length, Bool, true, false, eqb, refl, sym, ap, ◌∙◌, subst, arith, inl, inr, ne_eqb}
use Rattle.std.specs.Prelude.{Some, map, ◌||◌}
use Rattle.std.specs.List.{AllByRecursion, IsDistinct, list_any}
use Rattle.std.proofs.lemmas.Bool.Decides.{nat_tests}
use Rattle.std.proofs.lemmas.Map.Steps.{length-le_from_distinct_below}
use Rattle.std.proofs.lemmas.List.{length-map}
use Rattle.clover_rule.specs.Lists.{nth, Within}
use Rattle.clover_rule.specs.Views.{SlotsOnce}
use Rattle.clover_rule.proofs.Snocs.{within_nth}

-- a binding at a place is one of them
pub nth_among : {A : Type 0} (l : List A) (i : ℕ) (v : A) → nth l i ≡ Some v → Within v l
nth_among [] i v e = absurd cc
nth_among (x ∷ l) zero v e = inl (let z : Some x ≡ Some v = e in cc)
nth_among (x ∷ l) (suc i) v e = inr (nth_among l i v e)

abbrev slot_of : ℕ × List ℕ → ℕ
slot_of q = q.0

apart : (n : ℕ) (bs : List (ℕ × List ℕ)) → ((q : ℕ × List ℕ) → Within q bs → n ≢ q.0) → AllByRecursion (λ y. eqb n y ≡ false) (map slot_of bs)
apart n [] h = tt
apart n (q ∷ bs) h = (ne_eqb n q.0 (h q (inl refl)), apart n bs (λ y w. h y (inr w)))

distinct : (bs : List (ℕ × List ℕ)) → SlotsOnce bs → IsDistinct eqb (map slot_of bs)
unfolding IsDistinct
distinct [] f = tt
distinct (b ∷ bs) f = (
  apart b.0 bs (λ q w e. let i = within_nth q bs w in let z : zero ≡ suc i.0 = f zero (suc i.0) b.0 b.1 q.1 refl (i.1 ∙ ap (λ (n : ℕ). Some (n, q.1)) (sym e)) in absurd (omega arith)),
  distinct bs (λ i j s k k1 e g. let z = f (suc i) (suc j) s k k1 e g in omega arith),
)

below : (n q : ℕ) (bs : List (ℕ × List ℕ)) → ((b : ℕ × List ℕ) → Within b bs → b.0 < n) → list_any (eqb q) (map slot_of bs) ≡ true → q < n
below n q [] r h = absurd (let e : false ≡ true = h in cc)
below n q (b ∷ bs) r h = go (below n q bs (λ y w. r y (inr w))) (eqb q b.0) refl h
  where
    go : (list_any (eqb q) (map slot_of bs) ≡ true → q < n) → (x : Bool) → eqb q b.0 ≡ x → (x || list_any (eqb q) (map slot_of bs)) ≡ true → q < n
    go rest true e g = let same : q ≡ b.0 = grind (arith, nat_tests) in subst (λ (y : ℕ). y < n) (sym same) (r b (inl refl))
    go rest false e g = rest g

pub few_bindings : (n : ℕ) (bs : List (ℕ × List ℕ)) → SlotsOnce bs → ((b : ℕ × List ℕ) → Within b bs → b.0 < n) → length bs ≤ n
few_bindings n bs f r = let a = length-le_from_distinct_below (map slot_of bs) n (distinct bs f) (λ q h. below n q bs r h) in let e = length-map bs slot_of in omega arith

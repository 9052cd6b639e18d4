-- The slot of a key's first binding, against the bindings with the key; bindings in which neither a slot nor a key stands twice; and bindings that are added behind.
use Prim.Native.Nat.{zero, suc}
use Rattle.std.proofs.Common.{◌≡◌, ℕ, List, [], ◌∷◌, ◌++◌, Bool, true, false, inl, inr, refl, sym, ap, ◌∙◌, eq-eqb}
use Rattle.std.specs.Prelude.{Option, Some, None, if◌then◌else◌, ◌==◌}
use Rattle.std.specs.Str.{bytes_eq}
use Rattle.std.proofs.lemmas.Option.{same_Some}
use Rattle.std.proofs.lemmas.Bool.{eqb-true}
use Rattle.std.proofs.lemmas.Slice.Eq.{bytes_eq-Decides}
use Rattle.clover_rule.specs.Lists.{nth, Within}
use Rattle.clover_rule.specs.Names.{KeysOnce}
use Rattle.clover_rule.specs.Views.{SlotsOnce}
use Rattle.clover_rule.proofs.Keys.{eq_key}
use Rattle.clover_rule.proofs.Snocs.{within_nth}
use Rattle.clover_dir.specs.Names.{IsNew}
use Rattle.clover_walk.specs.Walking.{key_at}
use Rattle.clover_event.proofs.Bound.{AreBindings}
use Rattle.clover_run.specs.Wanting.{slot_for}

-- where the key has a slot, that is bound to it
pub slot_within : (key : List ℕ) (names : List (ℕ × List ℕ)) (s : ℕ) → slot_for key names ≡ Some s → Within (s, key) names
slot_within key [] s e = absurd cc
slot_within key (q ∷ qs) s e = go (bytes_eq q.1 key) refl e (slot_within key qs s)
  where
    go : (b : Bool) → bytes_eq q.1 key ≡ b → (if b then Some q.0 else slot_for key qs) ≡ Some s → (slot_for key qs ≡ Some s → Within (s, key) qs) → Within (s, key) (q ∷ qs)
    go true is e rest = let slot : q.0 ≡ s = same_Some q.0 s e in let same : q.1 ≡ key = (bytes_eq-Decides q.1 key).0 is in inl (λ i. (slot i, same i))
    go false is e rest = inr (rest e)

-- where it has none, no binding has the key
pub slot_new : (key : List ℕ) (names : List (ℕ × List ℕ)) → slot_for key names ≡ None → IsNew key names
slot_new key [] e s w = w
slot_new key (q ∷ qs) e s w = go (bytes_eq q.1 key) refl e w (slot_new key qs)
  where
    go : (b : Bool) → bytes_eq q.1 key ≡ b → (if b then Some q.0 else slot_for key qs) ≡ None → Within (s, key) (q ∷ qs) → (slot_for key qs ≡ None → IsNew key qs) → ⊥
    go true is e w rest = absurd cc
    go false is e (inl here) rest = let yes : bytes_eq q.1 key ≡ true = eq_key q.1 key (ap (λ (z : ℕ × List ℕ). z.1) here) in absurd cc
    go false is e (inr there) rest = rest e s there

pub new_slot : (key : List ℕ) (names : List (ℕ × List ℕ)) → IsNew key names → slot_for key names ≡ None
new_slot key names new = go (slot_for key names) refl
  where
    go : (o : Option ℕ) → slot_for key names ≡ o → slot_for key names ≡ None
    go None e = e
    go (Some s) e = absurd (new s (slot_within key names s e))

-- a key that is bound has a slot
pub slot_some : (key : List ℕ) (names : List (ℕ × List ℕ)) (s : ℕ) → Within (s, key) names → (r : ℕ) × (slot_for key names ≡ Some r)
slot_some key names s w = go (slot_for key names) refl
  where
    go : (o : Option ℕ) → slot_for key names ≡ o → (r : ℕ) × (slot_for key names ≡ Some r)
    go None e = absurd (slot_new key names e s w)
    go (Some r) e = (r, e)

-- a slot that is bound has the key of its first binding
pub key_within : (names : List (ℕ × List ℕ)) (s : ℕ) (k : List ℕ) → Within (s, k) names → Within (s, key_at names s) names
key_within [] s k w = w
key_within (q ∷ qs) s k w = go (q.0 == s) refl w (key_within qs s k)
  where
    go : (b : Bool) → (q.0 == s) ≡ b → Within (s, k) (q ∷ qs) → (Within (s, k) qs → Within (s, key_at qs s) qs) → Within (s, if b then q.1 else key_at qs s) (q ∷ qs)
    go true is w rest = let slot : q.0 ≡ s = eqb-true q.0 s is in inl (λ i. (slot i, q.1))
    go false is (inl here) rest = let yes : (q.0 == s) ≡ true = eq-eqb q.0 s (ap (λ (z : ℕ × List ℕ). z.0) here) in absurd cc
    go false is (inr there) rest = inr (rest there)

-- bindings in which neither a slot nor a key stands twice
pub are_bindings : (names : List (ℕ × List ℕ)) → SlotsOnce names → KeysOnce names → AreBindings names
are_bindings names slots keys = record { slot = one_slot; key = one_key }
  where
    one_slot : (s r : ℕ) (k : List ℕ) → Within (s, k) names → Within (r, k) names → s ≡ r
    one_slot s r k a b =
        let i = within_nth (s, k) names a in let j = within_nth (r, k) names b in
        let same : i.0 ≡ j.0 = keys i.0 j.0 s r k i.1 j.1 in
        ap (λ (q : ℕ × List ℕ). q.0) (same_Some (s, k) (r, k) (sym i.1 ∙ ap (nth names) same ∙ j.1))

    one_key : (s : ℕ) (k : List ℕ) → Within (s, k) names → key_at names s ≡ k
    one_key s k a =
        let i = within_nth (s, k) names a in let j = within_nth (s, key_at names s) names (key_within names s k a) in
        let same : j.0 ≡ i.0 = slots j.0 i.0 s (key_at names s) k j.1 i.1 in
        ap (λ (q : ℕ × List ℕ). q.1) (same_Some (s, key_at names s) (s, k) (sym j.1 ∙ ap (nth names) same ∙ i.1))

-- the key of a slot that is bound stays where bindings are added behind
pub key_more : (names added : List (ℕ × List ℕ)) (s : ℕ) (k : List ℕ) → Within (s, k) names → key_at (names ++ added) s ≡ key_at names s
key_more [] added s k w = absurd w
key_more (q ∷ qs) added s k w = go (q.0 == s) refl w (key_more qs added s k)
  where
    go : (b : Bool) → (q.0 == s) ≡ b → Within (s, k) (q ∷ qs) → (Within (s, k) qs → key_at (qs ++ added) s ≡ key_at qs s) → (if b then q.1 else key_at (qs ++ added) s) ≡ (if b then q.1 else key_at qs s)
    go true is w rest = refl
    go false is (inl here) rest = let yes : (q.0 == s) ≡ true = eq-eqb q.0 s (ap (λ (z : ℕ × List ℕ). z.0) here) in absurd cc
    go false is (inr there) rest = rest there

-- what stands first among bindings has no key twice either
nth_front : (xs ys : List (ℕ × List ℕ)) (i : ℕ) (q : ℕ × List ℕ) → nth xs i ≡ Some q → nth (xs ++ ys) i ≡ Some q
nth_front [] ys i q e = absurd cc
nth_front (x ∷ xs) ys zero q e = e
nth_front (x ∷ xs) ys (suc i) q e = nth_front xs ys i q e

pub keys_front : (xs ys : List (ℕ × List ℕ)) → KeysOnce (xs ++ ys) → KeysOnce xs
keys_front xs ys once i j s s1 k a b = once i j s s1 k (nth_front xs ys i (s, k) a) (nth_front xs ys j (s1, k) b)

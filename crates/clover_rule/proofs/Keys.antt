-- Keys are the same exactly where their test says so, and a function of keys changed at one key.
use Rattle.clover_rule.proofs.KeyMaps.{at_key}
use Rattle.std.proofs.Common.{◌≡◌, ◌≢◌, ℕ, List, Bool, true, false, refl, sym, ◌∙◌, true≢false}
use Rattle.std.specs.Str.{bytes_eq}
use Rattle.std.proofs.lemmas.Slice.Eq.{bytes_eq-Decides}

pub eq_key : (a b : List ℕ) → a ≡ b → bytes_eq a b ≡ true
eq_key a b = (bytes_eq-Decides a b).1

pub ne_key : (a b : List ℕ) → a ≢ b → bytes_eq a b ≡ false
ne_key a b n = go (bytes_eq a b) refl
  where
    go : (t : Bool) → bytes_eq a b ≡ t → bytes_eq a b ≡ false
    go true e = absurd (n ((bytes_eq-Decides a b).0 e))
    go false e = e

pub key_discrete : (a b : List ℕ) → Dec (a ≡ b)
key_discrete a b = go (bytes_eq a b) refl
  where
    go : (t : Bool) → bytes_eq a b ≡ t → Dec (a ≡ b)
    go true e = yes ((bytes_eq-Decides a b).0 e)
    go false e = no (λ q. true≢false (sym (eq_key a b q) ∙ e))

module _ {A : Type 0} where
  pub at_key_same : (f : List ℕ → A) (k : List ℕ) (a : A) → at_key f k a k ≡ a
  at_key_same f k a = rw (eq_key k k refl) refl

  pub at_key_else : (f : List ℕ → A) (k j : List ℕ) (a : A) → j ≢ k → at_key f k a j ≡ f j
  at_key_else f k j a n = rw (ne_key k j (λ e. n (cc))) refl

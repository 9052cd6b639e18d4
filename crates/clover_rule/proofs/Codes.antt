-- The raise on numbers is the raise on next words, where one generation has one link.
use Rattle.std.proofs.Common.{◌≡◌, ℕ, suc, ◌<◌, ◌≤◌, Bool, true, false, cond, ltb, max, sym, ap, ◌∙◌, arith}
use native.Mathlib.Decide.{ℕ_discrete, dec_le}
use mathlib.Core.Logic.{dite}
use Rattle.std.specs.Prelude.{Some, None}
use Rattle.std.proofs.lemmas.Bool.{lt-ltb, le-ltb}
use Rattle.clover_rule.specs.Memory.{Next, word, gen, order, greater}
use Rattle.clover_rule.specs.Words.{next_code}

abbrev pub Small : Next → Type 0
Small (word a None) = Unit {0}
Small (word a (Some t)) = t < 4398046511104

lower : (n o : Next) → Small n → Small o → gen n < gen o → next_code n < next_code o
lower (word a None) (word b None) hn ho h = omega arith
lower (word a None) (word b (Some t)) hn ho h = omega arith
lower (word a (Some u)) (word b None) hn ho h = omega arith
lower (word a (Some u)) (word b (Some t)) hn ho h = omega arith

linked_above : (a t : ℕ) → next_code (word a None) < next_code (word a (Some t))
linked_above a t = omega arith

low_order : (n o : Next) → gen n < gen o → order n < order o
low_order (word a None) (word b None) h = omega arith
low_order (word a None) (word b (Some t)) h = omega arith
low_order (word a (Some u)) (word b None) h = omega arith
low_order (word a (Some u)) (word b (Some t)) h = omega arith

-- two values of one word: one generation has one link
abbrev pub OneLink : Next → Next → Type 0
OneLink (word a (Some u)) (word b (Some t)) = a ≡ b → u ≡ t
OneLink _ _ = Unit {0}

pick : (n o : Next) → (next_code o < next_code n → order o < order n) → (next_code n ≤ next_code o → (order n ≤ order o)) → max (next_code o) (next_code n) ≡ next_code (greater o n)
pick n o f g = dite (dec_le (suc (next_code o)) (next_code n))
    (λ d. let e : ltb (order o) (order n) ≡ true = lt-ltb (order o) (order n) (f d) in max_right (next_code o) (next_code n) d ∙ ap (λ (b : Bool). next_code (cond b n o)) (sym e))
    (λ d. let e : ltb (order o) (order n) ≡ false = le-ltb (order o) (order n) (g (omega arith)) in max_left (next_code o) (next_code n) (omega arith) ∙ ap (λ (b : Bool). next_code (cond b n o)) (sym e))
  where
    max_right : (a b : ℕ) → a < b → max a b ≡ b
    max_right a b h = omega arith

    max_left : (a b : ℕ) → b ≤ a → max a b ≡ a
    max_left a b h = omega arith

-- the comparison of numbers is that of orders
same_order : (n o : Next) → Small n → Small o → OneLink n o → (next_code o < next_code n → order o < order n) × (next_code n ≤ next_code o → order n ≤ order o)
same_order (word a None) (word b None) hn ho l = ((λ h. omega arith), (λ h. omega arith))
same_order (word a None) (word b (Some t)) hn ho l = ((λ h. omega arith), (λ h. omega arith))
same_order (word a (Some u)) (word b None) hn ho l = ((λ h. omega arith), (λ h. omega arith))
same_order (word a (Some u)) (word b (Some t)) hn ho l = dite (ℕ_discrete a b) (λ d. let q = l d in ((λ h. omega arith), (λ h. omega arith))) (λ d. ((λ h. omega arith), (λ h. omega arith)))

pub raise_on_codes : (n o : Next) → Small n → Small o → OneLink n o → max (next_code o) (next_code n) ≡ next_code (greater o n)
raise_on_codes n o hn ho l = let s = same_order n o hn ho l in pick n o s.0 s.1

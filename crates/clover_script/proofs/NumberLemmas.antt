-- numbers at the front of a text
use Rattle.std.proofs.Common.{zero, suc, ◌≡◌, ◌<◌, ◌≤◌, ◌+◌, ◌-◌, ◌%◌, ◌^◌, ℕ, List, [], ◌∷◌, ◌++◌, length, get_or, take, refl, sym, ap, ◌∙◌, arith}
use Rattle.std.specs.Fmt.{decimal}
use Rattle.std.proofs.lemmas.Fmt.{decimal_by_steps, decimal_digit, decimal_injective}
use Rattle.clover_script.specs.Split.{IsDigit, AreDigits, EndsNumber}

digits_push : (ds : List ℕ) (b : ℕ) → AreDigits ds → IsDigit b → AreDigits (ds ++ b ∷ [])
digits_push [] b h k = (k, tt)
digits_push (d ∷ ds) b h k = (h.0, digits_push ds b h.1 k)

pub decimal_digits : (n : ℕ) → n < 2 ^ 64 → AreDigits (decimal n)
decimal_digits n h = decimal_by_steps (λ _ ds. AreDigits ds)
    (λ k lt. ((omega arith, omega arith), tt))
    (λ k ds lt is. digits_push ds (48 + k % 10) is (omega arith, omega arith)) n h

pub digits_front_of : (text : List ℕ) (at : ℕ) → ((k : ℕ) → k < at → IsDigit (get_or text k 0)) → AreDigits (take at text)
digits_front_of text zero all = tt
digits_front_of [] (suc n) all = tt
digits_front_of (x ∷ xs) (suc n) all = (all 0 (omega arith), digits_front_of xs n (λ k l. all (suc k) (omega arith)))

pub digits_all : (text : List ℕ) → ((k : ℕ) → k < length text → IsDigit (get_or text k 0)) → AreDigits text
digits_all [] all = tt
digits_all (x ∷ xs) all = (all 0 (omega arith), digits_all xs (λ k l. all (suc k) (omega arith)))

-- a text is in one way some digits and what no digit begins
pub one_cut : (d e x y : List ℕ) → AreDigits d → AreDigits e → EndsNumber x → EndsNumber y → d ++ x ≡ e ++ y → (d ≡ e) × (x ≡ y)
one_cut [] [] x y dd ee ex ey is = (refl, is)
one_cut [] (c ∷ cs) [] y dd ee ex ey is = absurd (cc)
one_cut [] (c ∷ cs) (b ∷ bs) y dd ee ex ey is = let s : b ≡ c = cc in absurd (ex (omega (arith, s, ee.0), omega (arith, s, ee.0)))
one_cut (b ∷ bs) [] x [] dd ee ex ey is = absurd (cc)
one_cut (b ∷ bs) [] x (c ∷ cs) dd ee ex ey is = let s : b ≡ c = cc in absurd (ey (omega (arith, s, dd.0), omega (arith, s, dd.0)))
one_cut (b ∷ bs) (c ∷ cs) x y dd ee ex ey is =
    let s : b ≡ c = cc in
    let t : bs ++ x ≡ cs ++ y = cc in
    let r = one_cut bs cs x y dd.1 ee.1 ex ey t in
    let q : bs ≡ cs = r.0 in
    (cc, r.1)

-- and so a number
pub one_number : (a b : ℕ) (x y : List ℕ) → a < 2 ^ 64 → b < 2 ^ 64 → EndsNumber x → EndsNumber y → decimal a ++ x ≡ decimal b ++ y → (a ≡ b) × (x ≡ y)
one_number a b x y p q ex ey e =
    let r = one_cut (decimal a) (decimal b) x y (decimal_digits a p) (decimal_digits b q) ex ey e in
    (decimal_injective a b p q r.0, r.1)

-- a text of one digit
pub one_digit : (text : List ℕ) (n : ℕ) → 1 ≤ length text → length text < 2 → 48 ≤ get_or text 0 0 → get_or text 0 0 ≤ 57 → n ≡ get_or text 0 0 - 48 → text ≡ decimal n
one_digit [] n some one low high is = absurd (omega (arith, some))
one_digit (d ∷ []) n some one low high is =
    let digit : d ≡ 48 + n = omega (arith, low, is) in
    ap (λ (b : ℕ). b ∷ []) digit ∙ sym (decimal_digit n (omega (arith, high, is)))
one_digit (d ∷ e ∷ rest) n some one low high is = absurd (omega (arith, one))

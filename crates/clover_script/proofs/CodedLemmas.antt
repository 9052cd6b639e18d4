-- coded texts
use Rattle.std.proofs.Common.{zero, suc, ◌≡◌, ◌/◌, ◌%◌, ◌<◌, ◌≤◌, ℕ, Bool, true, false, List, [], ◌∷◌, ◌++◌, length, refl, ap, subst, sym, ◌∙◌, arith}
use Rattle.std.specs.Prelude.{if◌then◌else◌}
use Rattle.std.proofs.lemmas.Bool.{false≢true}
use Rattle.std.proofs.lemmas.Bool.Decides.{nat_tests}
use Rattle.clover_words.specs.Pack.{AreBytes}
use Rattle.clover_script.specs.Coded.{coded, coded_byte, hex_digit, is_plain}

one_hex : (d e : ℕ) → d < 16 → e < 16 → hex_digit d ≡ hex_digit e → d ≡ e
one_hex d e h k is = grind (arith, nat_tests)

same_byte : (b c : ℕ) → b < 256 → c < 256 → hex_digit (b / 16) ≡ hex_digit (c / 16) → hex_digit (b % 16) ≡ hex_digit (c % 16) → b ≡ c
same_byte b c h k p q =
    let high : b / 16 ≡ c / 16 = one_hex (b / 16) (c / 16) (omega arith) (omega arith) p in
    let low : b % 16 ≡ c % 16 = one_hex (b % 16) (c % 16) (omega arith) (omega arith) q in
    omega arith

abbrev spelled : Bool → ℕ → List ℕ
spelled true b = b ∷ []
spelled false b = 37 ∷ hex_digit (b / 16) ∷ hex_digit (b % 16) ∷ []

is_spelled : (b : ℕ) → coded_byte b ≡ spelled (is_plain b) b
is_spelled b = elim (is_plain b) as (λ p. (if p then b ∷ [] else 37 ∷ hex_digit (b / 16) ∷ hex_digit (b % 16) ∷ []) ≡ spelled p b) [ true ↦ refl | false ↦ refl ]

percent : (b : ℕ) → b ≡ 37 → is_plain b ≡ true → ⊥
percent b e p = absurd (false≢true (subst (λ x. is_plain x ≡ true) e p))

one_spelled : (p q : Bool) (b c : ℕ) (x y : List ℕ) → is_plain b ≡ p → is_plain c ≡ q → b < 256 → c < 256 → spelled p b ++ x ≡ spelled q c ++ y → (b ≡ c) × (x ≡ y)
one_spelled true true b c x y i j h k e = let s : b ≡ c = cc in let t : x ≡ y = cc in (s, t)
one_spelled true false b c x y i j h k e = let s : b ≡ 37 = cc in absurd (percent b s i)
one_spelled false true b c x y i j h k e = let s : c ≡ 37 = cc in absurd (percent c s j)
one_spelled false false b c x y i j h k e =
    let s : hex_digit (b / 16) ≡ hex_digit (c / 16) = cc in
    let t : hex_digit (b % 16) ≡ hex_digit (c % 16) = cc in
    let r : x ≡ y = cc in
    (same_byte b c h k s t, r)

-- a text begins with the spelling of one byte
pub one_byte : (b c : ℕ) (x y : List ℕ) → b < 256 → c < 256 → coded_byte b ++ x ≡ coded_byte c ++ y → (b ≡ c) × (x ≡ y)
one_byte b c x y h k e =
    one_spelled (is_plain b) (is_plain c) b c x y refl refl h k (ap (λ s. s ++ x) (sym (is_spelled b)) ∙ e ∙ ap (λ s. s ++ y) (is_spelled c))

no_front : (p : Bool) (b : ℕ) (after : List ℕ) → spelled p b ++ after ≡ [] → ⊥
no_front true b after e = cc
no_front false b after e = cc

-- where a coded text goes on behind its first byte
pub one_front : (b : ℕ) (after all : List ℕ) → b < 256 → AreBytes all → coded_byte b ++ after ≡ coded all → (more : List ℕ) × AreBytes more × (after ≡ coded more) × (all ≡ b ∷ more)
one_front b after [] h are e = absurd (no_front (is_plain b) b after (ap (λ s. s ++ after) (sym (is_spelled b)) ∙ e))
one_front b after (c ∷ cs) h are e = let r = one_byte b c after (coded cs) h (are 0) e in (cs, (λ i. are (suc i)), r.1, ap (λ (x : ℕ). x ∷ cs) (sym r.0))

-- a coded text that begins with no byte's spelling is that of no bytes
pub nowhere : (rest more : List ℕ) → AreBytes more → rest ≡ coded more → ((b : ℕ) (x : List ℕ) → b < 256 → rest ≡ coded_byte b ++ x → ⊥) → more ≡ []
nowhere rest [] are e none = refl
nowhere rest (b ∷ bs) are e none = absurd (none b (coded bs) (are 0) e)

-- a coded text stands for one list of bytes
pub one_text : (xs ys : List ℕ) → AreBytes xs → AreBytes ys → coded xs ≡ coded ys → xs ≡ ys
one_text [] [] p q e = refl
one_text [] (y ∷ ys) p q e = absurd (no_front (is_plain y) y (coded ys) (ap (λ s. s ++ coded ys) (sym (is_spelled y)) ∙ sym e))
one_text (x ∷ xs) [] p q e = absurd (no_front (is_plain x) x (coded xs) (ap (λ s. s ++ coded xs) (sym (is_spelled x)) ∙ e))
one_text (x ∷ xs) (y ∷ ys) p q e =
    let d = one_byte x y (coded xs) (coded ys) (p 0) (q 0) e in
    let s : x ≡ y = d.0 in
    let r : xs ≡ ys = one_text xs ys (λ i. p (suc i)) (λ i. q (suc i)) d.1 in
    cc

pub are_push : (xs : List ℕ) (b : ℕ) → AreBytes xs → b < 256 → AreBytes (xs ++ b ∷ [])
are_push [] b h k zero = k
are_push [] b h k (suc i) = h i
are_push (x ∷ xs) b h k zero = h 0
are_push (x ∷ xs) b h k (suc i) = are_push xs b (λ j. h (suc j)) k i

long_spelled : (p : Bool) (b : ℕ) (rest bytes : List ℕ) → length bytes ≤ length rest → length (b ∷ bytes) ≤ length (spelled p b ++ rest)
long_spelled true b rest bytes h = omega (arith, h)
long_spelled false b rest bytes h = omega (arith, h)

-- a coded text is at least as long as its bytes
pub as_long : (bytes : List ℕ) → length bytes ≤ length (coded bytes)
as_long [] = omega arith
as_long (b ∷ bs) = subst (λ s. length (b ∷ bs) ≤ length (s ++ coded bs)) (sym (is_spelled b)) (long_spelled (is_plain b) b (coded bs) bs (as_long bs))

short_spelled : (p : Bool) (b : ℕ) (rest bytes : List ℕ) → length bytes ≤ length rest → (length rest ≡ length bytes → rest ≡ bytes) → length (spelled p b ++ rest) ≡ length (b ∷ bytes) → spelled p b ++ rest ≡ b ∷ bytes
short_spelled true b rest bytes h same e = ap (λ (x : List ℕ). b ∷ x) (same (omega (arith, e)))
short_spelled false b rest bytes h same e = absurd (omega (arith, h, e))

-- and where it is no longer, it is those bytes
pub as_short : (bytes : List ℕ) → length (coded bytes) ≡ length bytes → coded bytes ≡ bytes
as_short [] e = refl
as_short (b ∷ bs) e =
    ap (λ s. s ++ coded bs) (is_spelled b) ∙ short_spelled (is_plain b) b (coded bs) bs (as_long bs) (as_short bs) (ap (λ s. length (s ++ coded bs)) (sym (is_spelled b)) ∙ e)

-- Keys in a list, and their words.
use Rattle.std.proofs.Common.{◌≡◌, ℕ, zero, suc, ◌+◌, ◌/◌, ◌<◌, ◌≤◌, List, [], ◌∷◌, length, get_or, refl, sym, ap, arith}
use Rattle.std.specs.Prelude.{Some, None}
use Rattle.clover_words.specs.Pack.{packed, words_of}
use Rattle.clover_rule.specs.Content.{spelling, words_from}
use Rattle.clover_rule.specs.Lists.{nth}
use Rattle.clover_rule.proofs.Spelling.{length_words, nth_all}
use Rattle.clover_rule.proofs.Tools.{nth_none}
use Rattle.clover_plain.specs.Preset.{AreDistinct, or_zero}

pub key_there : (xs : List (List ℕ)) (i : ℕ) (x k : List ℕ) → x ≡ get_or xs i x → nth xs i ≡ Some k → x ≡ k
key_there [] i x k e f = absurd cc
key_there (y ∷ xs) zero x k e f = cc
key_there (y ∷ xs) (suc i) x k e f = key_there xs i x k e f

pub key_nth : (xs : List (List ℕ)) (i : ℕ) (x : List ℕ) → i < length xs → x ≡ get_or xs i x → nth xs i ≡ Some x
key_nth [] i x h e = absurd (omega arith)
key_nth (y ∷ xs) zero x h e = ap Some (sym e)
key_nth (y ∷ xs) (suc i) x h e = key_nth xs i x (omega arith) e

words_past : (bytes : List ℕ) (k n j : ℕ) → n ≤ j → nth (words_from bytes k n) j ≡ None
words_past bytes k n j h = nth_none (words_from bytes k n) j (let z = length_words bytes k n in omega arith)

pub word_there : (key : List ℕ) (k : ℕ) → k < (8 + length key) / 8 → packed (length key ∷ key) k ≡ or_zero (nth (spelling key) k)
unfolding spelling
word_there key k h = sym (ap or_zero (nth_all (length key ∷ key) k (omega arith)))

pub word_past : (key : List ℕ) (k : ℕ) → (8 + length key) / 8 ≤ k → 0 ≡ or_zero (nth (spelling key) k)
unfolding spelling
word_past key k h = sym (ap or_zero (words_past (length key ∷ key) 0 (words_of (length (length key ∷ key))) k (omega arith)))

-- a key alone stands once
pub one_distinct : (k : List ℕ) → AreDistinct (k ∷ [])
one_distinct k zero zero j e f = refl
one_distinct k zero (suc r) j e f = absurd cc
one_distinct k (suc s) r j e f = absurd cc

-- The bytes of a slot's words begin with its key.
use Rattle.std.proofs.Common.{◌≡◌, ℕ, zero, suc, ◌+◌, ◌-◌, ◌<◌, ◌≤◌, List, [], ◌∷◌, length, take, drop, get_or, ap, ◌∙◌, arith}
use Rattle.clover_words.specs.Pack.{AreBytes, packed, words_of}
use Rattle.clover_map.specs.Key.{IsKey}
use Rattle.clover_rule.specs.Content.{Spells, spelling}
use Rattle.clover_rule.proofs.Spelling.{nth_all}

-- whatever has the words of a value begins with it
abbrev pub BeginsWithValue : Type 0
BeginsWithValue = (value bytes : List ℕ) → AreBytes value → AreBytes bytes → length value ≤ length bytes → ((k : ℕ) → k < words_of (length value) → packed bytes k ≡ packed value k) → take (length value) bytes ≡ value

key_bytes : (k : List ℕ) → IsKey k → AreBytes (length k ∷ k)
key_bytes k h zero = let a = h.1 in omega arith
key_bytes k h (suc i) = h.2 i

pub key_front : BeginsWithValue → (f : ℕ → ℕ) (k bytes : List ℕ) → IsKey k → Spells f k → AreBytes bytes → length bytes ≡ 1024 → ((j : ℕ) → j < 32 → packed bytes j ≡ f j) → take (suc (length k)) bytes ≡ length k ∷ k
unfolding spelling
key_front law f k bytes ik sp are long same =
    let most = ik.1 in
    law (length k ∷ k) bytes (key_bytes k ik) are (omega arith) (λ j h. same j (omega arith) ∙ sp j (packed (length k ∷ k) j) (nth_all (length k ∷ k) j h))

-- and the key is what stands behind its length
pub key_slice : (k bytes : List ℕ) → take (suc (length k)) bytes ≡ length k ∷ k → take (1 + get_or bytes 0 0 - 1) (drop 1 bytes) ≡ k
key_slice k [] e = absurd cc
key_slice k (x ∷ xs) e =
    let head : x ≡ length k = cc in let rest : take (length k) xs ≡ k = cc in
    let n : 1 + x - 1 ≡ length k = omega arith in
    ap (λ (m : ℕ). take m xs) n ∙ rest

-- bytes are what their words spell
use Rattle.std.proofs.Common.{◌≡◌, ◌≢◌, ℕ, zero, suc, ◌+◌, ◌-◌, ◌*◌, ◌/◌, ◌^◌, ◌%◌, ◌<◌, ◌≤◌, List, length, take, drop, ◌++◌, ◌⊎◌, inl, inr, refl, ap, sym, ◌∙◌, arith}
use Rattle.std.specs.Prelude.{slice_index, replicate}
use Rattle.std.specs.Int.{w64, to_be_bytes}
use Rattle.std.proofs.lemmas.Bool.{cases_lt}
use Rattle.std.proofs.lemmas.Nat.{be_bytes_8, from_be_bytes-to_be_bytes_8}
use Rattle.std.proofs.lemmas.List.{ext_get_or, get_or-take, get_or-drop, get_or_append_left, get_or-append_right, drop-drop, append_assoc, length-append, length-take-le, length-drop, length-replicate, get_or-replicate, get_or_past}
use borrow.Rule.Slice.PartMut.{put_mid}
use Rattle.clover_words.specs.Pack.{AreBytes, IsRoom, words_of, eight_at, packed, with_eight}

-- the eight bytes of a word are bytes
eight_are_bytes : (bytes : List ℕ) (k : ℕ) → AreBytes bytes → AreBytes (eight_at bytes k)
eight_are_bytes bytes k h zero = h (8 * k)
eight_are_bytes bytes k h (suc zero) = h (8 * k + 1)
eight_are_bytes bytes k h (suc (suc zero)) = h (8 * k + 2)
eight_are_bytes bytes k h (suc (suc (suc zero))) = h (8 * k + 3)
eight_are_bytes bytes k h (suc (suc (suc (suc zero)))) = h (8 * k + 4)
eight_are_bytes bytes k h (suc (suc (suc (suc (suc zero))))) = h (8 * k + 5)
eight_are_bytes bytes k h (suc (suc (suc (suc (suc (suc zero)))))) = h (8 * k + 6)
eight_are_bytes bytes k h (suc (suc (suc (suc (suc (suc (suc zero))))))) = h (8 * k + 7)
eight_are_bytes bytes k h (suc (suc (suc (suc (suc (suc (suc (suc i)))))))) = omega arith

-- each of them is a byte of the list
pub eight_byte : (bytes : List ℕ) (k i : ℕ) → i < 8 → slice_index (eight_at bytes k) i ≡ slice_index bytes (8 * k + i)
eight_byte bytes k zero lt = ap (slice_index bytes) (omega arith)
eight_byte bytes k (suc zero) lt = refl
eight_byte bytes k (suc (suc zero)) lt = refl
eight_byte bytes k (suc (suc (suc zero))) lt = refl
eight_byte bytes k (suc (suc (suc (suc zero)))) lt = refl
eight_byte bytes k (suc (suc (suc (suc (suc zero))))) lt = refl
eight_byte bytes k (suc (suc (suc (suc (suc (suc zero)))))) lt = refl
eight_byte bytes k (suc (suc (suc (suc (suc (suc (suc zero))))))) lt = refl
eight_byte bytes k (suc (suc (suc (suc (suc (suc (suc (suc i)))))))) lt = absurd (omega arith)

-- a word of bytes spells these bytes
pub packed_spells : (bytes : List ℕ) (k : ℕ) → AreBytes bytes → to_be_bytes w64 (packed bytes k) ≡ eight_at bytes k
unfolding packed
packed_spells bytes k h = be_bytes_8 (eight_at bytes k) (packed bytes k) refl (eight_are_bytes bytes k h) refl

-- lists of bytes with one word in common have its bytes in common
pub one_byte : (a b : List ℕ) (i : ℕ) → AreBytes a → AreBytes b → packed a (i / 8) ≡ packed b (i / 8)
    → slice_index a i ≡ slice_index b i
one_byte a b i ha hb e =
    let eight : eight_at a (i / 8) ≡ eight_at b (i / 8) = sym (packed_spells a (i / 8) ha) ∙ ap (to_be_bytes w64) e ∙ packed_spells b (i / 8) hb in
    let place : i ≡ 8 * (i / 8) + i % 8 = omega arith in
    let lt : i % 8 < 8 = omega arith in
    ap (slice_index a) place ∙ sym (eight_byte a (i / 8) (i % 8) lt) ∙ ap (λ l. slice_index l (i % 8)) eight
    ∙ eight_byte b (i / 8) (i % 8) lt ∙ ap (slice_index b) (sym place)

-- what has the words of a value begins with the value
pub unpacked : (value bytes : List ℕ) → AreBytes value → AreBytes bytes → length value ≤ length bytes
    → ((k : ℕ) → k < words_of (length value) → packed bytes k ≡ packed value k)
    → take (length value) bytes ≡ value
unpacked value bytes hv hb fits same =
    let long : length (take (length value) bytes) ≡ length value = length-take-le (length value) bytes fits in
    ext_get_or 0 (take (length value) bytes) value long
    (λ i lt. get_or-take (length value) bytes i 0 (omega arith) ∙ one_byte bytes value i hb hv (same (i / 8) (omega arith)))

-- a byte outside of the eight stays
other_byte : (bytes eight : List ℕ) (k i : ℕ) → length eight ≡ 8 → 8 * k + 8 ≤ length bytes
    → (i < 8 * k) ⊎ (8 * k + 8 ≤ i) → slice_index (take (8 * k) bytes ++ eight ++ drop (8 * k + 8) bytes) i ≡ slice_index bytes i
other_byte bytes eight k i long fits (inl lt) =
    let front : length (take (8 * k) bytes) ≡ 8 * k = length-take-le (8 * k) bytes (omega arith) in
    let both : length (take (8 * k) bytes ++ eight) ≡ 8 * k + 8 = omega (arith, length-append (take (8 * k) bytes) eight) in
    get_or_append_left (take (8 * k) bytes ++ eight) (drop (8 * k + 8) bytes) 0 i (omega arith)
    ∙ get_or_append_left (take (8 * k) bytes) eight 0 i (omega arith)
    ∙ get_or-take (8 * k) bytes i 0 lt
other_byte bytes eight k i long fits (inr le) =
    let front : length (take (8 * k) bytes) ≡ 8 * k = length-take-le (8 * k) bytes (omega arith) in
    let both : length (take (8 * k) bytes ++ eight) ≡ 8 * k + 8 = omega (arith, length-append (take (8 * k) bytes) eight) in
    get_or-append_right (take (8 * k) bytes ++ eight) (drop (8 * k + 8) bytes) (8 * k + 8) i 0 both le
    ∙ get_or-drop (8 * k + 8) bytes (i - (8 * k + 8)) 0
    ∙ ap (slice_index bytes) (omega arith)

-- each of the eight is what was written
written_byte : (bytes eight : List ℕ) (k i : ℕ) → length eight ≡ 8 → 8 * k + 8 ≤ length bytes → i < 8
    → slice_index (take (8 * k) bytes ++ eight ++ drop (8 * k + 8) bytes) (8 * k + i) ≡ slice_index eight i
written_byte bytes eight k i long fits lt =
    let front : length (take (8 * k) bytes) ≡ 8 * k = length-take-le (8 * k) bytes (omega arith) in
    let both : length (take (8 * k) bytes ++ eight) ≡ 8 * k + 8 = omega (arith, length-append (take (8 * k) bytes) eight) in
    get_or_append_left (take (8 * k) bytes ++ eight) (drop (8 * k + 8) bytes) 0 (8 * k + i) (omega arith)
    ∙ get_or-append_right (take (8 * k) bytes) eight (8 * k) (8 * k + i) 0 front (omega arith)
    ∙ ap (slice_index eight) (omega arith)

-- where each byte of two words is the same, the words are
same_word : (a b : List ℕ) (j k : ℕ) → ((i : ℕ) → i < 8 → slice_index a (8 * j + i) ≡ slice_index b (8 * k + i)) → packed a j ≡ packed b k
unfolding packed
same_word a b j k h =
    let zeroth : slice_index a (8 * j) ≡ slice_index b (8 * k) = eight_byte a j 0 (omega arith) ∙ h 0 (omega arith) ∙ sym (eight_byte b k 0 (omega arith)) in
    cc (h 1 (omega arith), h 2 (omega arith), h 3 (omega arith), h 4 (omega arith), h 5 (omega arith), h 6 (omega arith), h 7 (omega arith))

-- the word that was written is there
pub packed_set : (bytes : List ℕ) (k word : ℕ) → 8 * k + 8 ≤ length bytes → word < 2 ^ 64
    → packed (with_eight bytes k word) k ≡ word
unfolding packed
packed_set bytes k word fits small =
    same_word (with_eight bytes k word) (to_be_bytes w64 word) k 0
    (λ i lt. written_byte bytes (to_be_bytes w64 word) k i refl fits lt ∙ ap (slice_index (to_be_bytes w64 word)) (omega arith))
    ∙ from_be_bytes-to_be_bytes_8 word small

-- every other word of the bytes is as before
pub packed_kept : (bytes : List ℕ) (k j word : ℕ) → 8 * k + 8 ≤ length bytes → j ≢ k
    → packed (with_eight bytes k word) j ≡ packed bytes j
packed_kept bytes k j word fits ne =
    same_word (with_eight bytes k word) bytes j j
    (λ i lt. other_byte bytes (to_be_bytes w64 word) k (8 * j + i) refl fits (outside j k i lt ne))
  where
    outside : (j k i : ℕ) → i < 8 → j ≢ k → (8 * j + i < 8 * k) ⊎ (8 * k + 8 ≤ 8 * j + i)
    outside j k i lt ne = grind arith

-- a write to bytes 8k to 8k + 7
pub put_mid-eight : (bytes eight : List ℕ) (k n : ℕ) → n ≡ 8
    → put_mid (8 * k) n bytes eight ≡ take (8 * k) bytes ++ eight ++ drop (8 * k + 8) bytes
put_mid-eight bytes eight k n e =
    rw e (ap (λ rest. take (8 * k) bytes ++ (eight ++ rest)) (drop-drop 8 (8 * k) bytes)
    ∙ sym (append_assoc (take (8 * k) bytes) eight (drop (8 * k + 8) bytes)))

-- what a word spells are bytes
spelled_bytes : (word : ℕ) → AreBytes (to_be_bytes w64 word)
spelled_bytes word zero = omega arith
spelled_bytes word (suc zero) = omega arith
spelled_bytes word (suc (suc zero)) = omega arith
spelled_bytes word (suc (suc (suc zero))) = omega arith
spelled_bytes word (suc (suc (suc (suc zero)))) = omega arith
spelled_bytes word (suc (suc (suc (suc (suc zero))))) = omega arith
spelled_bytes word (suc (suc (suc (suc (suc (suc zero)))))) = omega arith
spelled_bytes word (suc (suc (suc (suc (suc (suc (suc zero))))))) = omega arith
spelled_bytes word (suc (suc (suc (suc (suc (suc (suc (suc i)))))))) = omega arith

-- bytes with other eight are bytes
bytes_kept : (bytes : List ℕ) (k word i : ℕ) → 8 * k + 8 ≤ length bytes → AreBytes bytes
    → (i < 8 * k) ⊎ (8 * k ≤ i) → (i < 8 * k + 8) ⊎ (8 * k + 8 ≤ i) → slice_index (with_eight bytes k word) i < 256
bytes_kept bytes k word i fits h (inl lt) within =
    let same = other_byte bytes (to_be_bytes w64 word) k i refl fits (inl lt) in
    omega (arith, same, h i)
bytes_kept bytes k word i fits h from (inr le) =
    let same = other_byte bytes (to_be_bytes w64 word) k i refl fits (inr le) in
    omega (arith, same, h i)
bytes_kept bytes k word i fits h (inr le) (inl lt) =
    let place : 8 * k + (i - 8 * k) ≡ i = omega arith in
    let same : slice_index (with_eight bytes k word) i ≡ slice_index (to_be_bytes w64 word) (i - 8 * k) =
    ap (slice_index (with_eight bytes k word)) (sym place)
    ∙ written_byte bytes (to_be_bytes w64 word) k (i - 8 * k) refl fits (omega arith) in
    omega (arith, same, spelled_bytes word (i - 8 * k))

-- a buffer with other eight bytes is a buffer
pub room_kept : (bytes : List ℕ) (k word : ℕ) → k < 128 → IsRoom bytes → IsRoom (with_eight bytes k word)
room_kept bytes k word lt room = record {
  size =
      let front : length (take (8 * k) bytes) ≡ 8 * k = length-take-le (8 * k) bytes (omega (arith, room.size)) in
      let both : length (take (8 * k) bytes ++ to_be_bytes w64 word) ≡ 8 * k + 8 = omega (arith, length-append (take (8 * k) bytes) (to_be_bytes w64 word)) in
      omega (arith, room.size, length-append (take (8 * k) bytes ++ to_be_bytes w64 word) (drop (8 * k + 8) bytes), length-drop (8 * k + 8) bytes);
  bytes = λ i. bytes_kept bytes k word i (omega (arith, room.size)) room.bytes (cases_lt i (8 * k)) (cases_lt i (8 * k + 8));
}

-- zeros are bytes
zeros_are_bytes : (n i : ℕ) → (i < n) ⊎ (n ≤ i) → slice_index (replicate n 0) i < 256
zeros_are_bytes n i (inl lt) = let same : slice_index (replicate n 0) i ≡ 0 = get_or-replicate {A = ℕ} n i 0 0 lt in omega arith
zeros_are_bytes n i (inr le) = let same : slice_index (replicate n 0) i ≡ 0 = get_or_past {X = ℕ} (replicate n 0) i 0 (omega (arith, length-replicate {A = ℕ} n 0)) in omega arith

-- so zeros are a buffer
pub room_of_zeros : IsRoom (replicate 1024 0)
room_of_zeros = record { size = length-replicate {A = ℕ} 1024 0; bytes = λ i. zeros_are_bytes 1024 i (cases_lt i 1024) }

-- A buffer into which some bytes were copied.
use Rattle.std.proofs.Common.{◌≡◌, ℕ, ◌+◌, ◌-◌, ◌<◌, ◌≤◌, List, length, drop, ◌++◌, ◌⊎◌, inl, inr, refl, sym, arith, subst}
use Rattle.std.specs.Prelude.{slice_index, replicate}
use Rattle.std.proofs.lemmas.Bool.{cases_lt}
use Rattle.std.proofs.lemmas.List.{get_or-drop, get_or_append_left, get_or-append_right, length-append, length-drop}
use Rattle.clover_words.specs.Pack.{AreBytes, IsRoom}
use Rattle.clover_words.proofs.Packing.{room_of_zeros}

bytes_copied : (xs ys : List ℕ) (i : ℕ) → AreBytes xs → AreBytes ys → (i < length xs) ⊎ (length xs ≤ i) → slice_index (xs ++ drop (length xs) ys) i < 256
bytes_copied xs ys i hx hy (inl lt) = let same : slice_index (xs ++ drop (length xs) ys) i ≡ slice_index xs i = get_or_append_left xs (drop (length xs) ys) 0 i lt in let b = hx i in omega arith
bytes_copied xs ys i hx hy (inr le) =
    let same : slice_index (xs ++ drop (length xs) ys) i ≡ slice_index (drop (length xs) ys) (i - length xs) = get_or-append_right xs (drop (length xs) ys) (length xs) i 0 refl le in
    let back : slice_index (drop (length xs) ys) (i - length xs) ≡ slice_index ys (length xs + (i - length xs)) = get_or-drop (length xs) ys (i - length xs) 0 in
    let b = hy (length xs + (i - length xs)) in omega arith

-- it stays a buffer
pub room_copied : (xs ys : List ℕ) → length xs ≤ 1024 → AreBytes xs → IsRoom ys → IsRoom (xs ++ drop (length xs) ys)
room_copied xs ys l hx r = record {
  size = omega (arith, l, r.size, length-append xs (drop (length xs) ys), length-drop (length xs) ys);
  bytes = λ i. bytes_copied xs ys i hx r.bytes (cases_lt i (length xs));
}

pub room_zeros : (xs bytes : List ℕ) → xs ≡ bytes → length bytes ≤ 1024 → AreBytes bytes → IsRoom (xs ++ drop (length bytes) (replicate 1024 0))
room_zeros xs bytes e l hb = subst (λ (z : List ℕ). IsRoom (z ++ drop (length bytes) (replicate 1024 0))) (sym e) (room_copied bytes (replicate 1024 0) l hb room_of_zeros)

-- A memory node's index of free buffers once one line is another.
use Rattle.std.proofs.Common.{◌≡◌, ◌≢◌, ◌∙◌, ℕ, ◌+◌, ◌*◌, ◌/◌, ◌%◌, ◌<◌, ◌≤◌, List, length, length-set, set, get_or, get_or-set_same, get_or-set_other, refl, sym, ap, subst, ⊎_elim, arith, cond, Bool, true, false, ◌-◌, ◌^◌, suc, [], ◌∷◌}
use Rattle.std.proofs.lemmas.Bool.{cases_eq, cases_lt}
use Rattle.std.proofs.lemmas.List.{get_or_read}
use Rattle.std.proofs.lemmas.List.Sums.{sum_by-set, sum_by-cons, get_or-le-sum_by}
use mir.Val.{bool_byte}
use Rattle.std.proofs.lemmas.Nat.Bits.{bit_at-zero, bit_at-trailing_zeros}
use Rattle.std.specs.Int.{bit_at, trailing_zeros, w64}
use Rattle.std.specs.List.{sum_by}
use Rattle.clover_alloc.specs.declared.line.Place.{Place}
use Rattle.clover_alloc.specs.declared.line.Place.TheVariants.{Free, Worn, Bound, Out}
use Rattle.clover_alloc.specs.declared.line.Line.{Line}
use Rattle.clover_alloc.specs.Lines.{line, same_place, count_in}
use Rattle.clover_alloc.specs.Kept.{IsIndexed, bit_in, line_at, one_at}
use Rattle.clover_alloc.proofs.BitLemmas.{bit_in-set_same, bit_in-set_other}

-- a line less and a line more
pub count_in-set : (p : Place) (lines : List Line) (i : ℕ) (l : Line) → i < length lines → count_in p (set lines i l) + one_at p (line_at lines i) ≡ count_in p lines + one_at p l
count_in-set p lines i l within = sum_by-set (λ m. one_at p m) lines i l (line 0 Worn) within

module _ (lines : List Line) (words : List ℕ) (free low : ℕ) (holds : IsIndexed lines words free low) (at : ℕ) (within : at < length lines) (l : Line) (word : ℕ) where
  -- the index is kept, where the bit and the count are those of the new line
  pub IsIndexed-set : (free' low' : ℕ) → bit_at word (at % 64) ≡ one_at Free l → ((i : ℕ) → i < 64 → i ≢ at % 64 → bit_at word i ≡ bit_at (get_or words (at / 64) 0) i)
      → free' + one_at Free (line_at lines at) ≡ free + one_at Free l → low' ≤ low → (l.place ≡ Free → low' ≤ at / 64)
      → IsIndexed (set lines at l) (set words (at / 64) word) free' low'
  IsIndexed-set free' low' bit others count lower covers =
      let in_words : at < 64 * length words = omega (arith, holds.room) in
      let new_line : line_at (set lines at l) at ≡ l = get_or-set_same lines at l (line 0 Worn) within in
      record {
        few = rw length-set holds.few;
        room = rw (length-set {A = Line}, length-set {A = ℕ}) holds.room;
        bits = λ k. ⊎_elim
            (λ here. subst (λ k. bit_in (set words (at / 64) word) k ≡ one_at Free (line_at (set lines at l) k)) (sym here)
            (bit_in-set_same words at in_words word ∙ bit ∙ ap (one_at Free) (sym new_line)))
            (λ there. bit_in-set_other words at in_words word others k there ∙ holds.bits k ∙ ap (one_at Free) (sym (get_or-set_other lines at k l (line 0 Worn) there)))
            (cases_eq k at);
        count = omega (arith, count_in-set Free lines at l within, holds.count, count);
        none_below = λ k below. ⊎_elim
            (λ here. let place_is : (line_at (set lines at l) k).place ≡ l.place = ap (λ k. (line_at (set lines at l) k).place) here ∙ ap (λ (m : Line). m.place) new_line in
            λ is_free. let none : low' ≤ at / 64 = covers (sym place_is ∙ is_free) in absurd (omega arith))
            (λ there. λ is_free. holds.none_below k (omega arith) (ap (λ (m : Line). m.place) (sym (get_or-set_other lines at k l (line 0 Worn) there)) ∙ is_free))
            (cases_eq k at);
      }

  recount : (was is : Bool) (count : ℕ) → cond was 1 0 ≤ count → count - bool_byte was + bool_byte is + cond was 1 0 ≡ count + cond is 1 0
  recount true true count some = omega arith
  recount true false count some = omega arith
  recount false true count some = omega arith
  recount false false count some = omega arith

  -- so what `set` writes keeps it
  pub IsIndexed-written : (was is : Bool) (m : Line) (w low' : ℕ) → m ≡ get_or lines at m → was ≡ same_place Free m.place → is ≡ same_place Free l.place
      → w ≡ get_or words (at / 64) w → bit_at word (at % 64) ≡ cond is 1 0 → ((i : ℕ) → i < 64 → i ≢ at % 64 → bit_at word i ≡ bit_at w i)
      → low' ≤ low → (is ≡ true → low' ≤ at / 64)
      → IsIndexed (set lines at l) (set words (at / 64) word) (free - bool_byte was + bool_byte is) low'
  IsIndexed-written was is m w low' read was_is is_is read_word bit others lower covers =
      let old : m ≡ line_at lines at = get_or_read lines at m within read (line 0 Worn) in
      let old_word : w ≡ get_or words (at / 64) 0 = get_or_read words (at / 64) w (omega (arith, holds.room)) read_word 0 in
      let old_one : cond was 1 0 ≡ one_at Free (line_at lines at) = ap (λ b. cond b 1 0) (was_is ∙ ap (λ (m : Line). same_place Free m.place) old) in
      let new_one : cond is 1 0 ≡ one_at Free l = ap (λ b. cond b 1 0) is_is in
      let some : one_at Free (line_at lines at) ≤ count_in Free lines = get_or-le-sum_by (λ n. one_at Free n) lines at (line 0 Worn) within in
      IsIndexed-set (free - bool_byte was + bool_byte is) low' (bit ∙ new_one)
      (λ i below other. others i below other ∙ ap (λ v. bit_at v i) old_word)
      (let n = recount was is free (omega (arith, holds.count, some, old_one)) in omega (arith, n, old_one, new_one))
      lower
      (λ is_free. covers (is_is ∙ ap (same_place Free) is_free))

-- a test as a number
abbrev one_if : Bool → ℕ
one_if b = cond b 1 0

is_free : (p : Place) → one_if (same_place Free p) ≡ 1 → p ≡ Free
is_free Free h = refl
is_free Worn h = absurd (omega arith)
is_free Bound h = absurd (omega arith)
is_free Out h = absurd (omega arith)

is_not_free : (p : Place) → one_if (same_place Free p) ≡ 0 → p ≢ Free
is_not_free Free h = λ _. omega arith
is_not_free Worn h = λ same. cc
is_not_free Bound h = λ same. cc
is_not_free Out h = λ same. cc

-- where some lines are counted, there is one
pub found : {X : Type 0} (f : X → ℕ) (xs : List X) (d : X) → 0 < sum_by f xs → (k : ℕ) × (k < length xs) × (0 < f (get_or xs k d))
found f [] d some = absurd (omega arith)
found f (x ∷ xs) d some = ⊎_elim
    (λ here. (0, omega arith, here))
    (λ none. let rest = found f xs d (omega (arith, sum_by-cons f x xs)) in (suc rest.0, omega (arith, rest.1), rest.2))
    (cases_lt 0 (f x))

module _ (lines : List Line) (words : List ℕ) (free low : ℕ) (holds : IsIndexed lines words free low) where
  free_line : 0 < count_in Free lines → (k : ℕ) × (k < length lines) × ((line_at lines k).place ≡ Free)
  free_line some = let k = found (λ m. one_at Free m) lines (line 0 Worn) some in (k.0, k.1, is_free (line_at lines k.0).place (one (same_place Free (line_at lines k.0).place) k.2))
    where
      one : (b : Bool) → 0 < one_if b → one_if b ≡ 1
      one true h = refl
      one false h = absurd (omega arith)

  -- the search ends before the last word does
  pub low_within : 0 < count_in Free lines → (low < length words) × (64 * low < 65536)
  low_within some = let k = free_line some in (
    ⊎_elim
        (λ below. below)
        (λ past. absurd (holds.none_below k.0 (omega (arith, k.1, holds.room)) k.2))
        (cases_lt low (length words)),
    ⊎_elim
        (λ below. below)
        (λ past. absurd (holds.none_below k.0 (omega (arith, k.1, holds.few)) k.2))
        (cases_lt (64 * low) 65536),
  )

  -- a word that is 0 has no free buffer
  pub IsIndexed-next : get_or words low 0 ≡ 0 → IsIndexed lines words free (low + 1)
  IsIndexed-next zero_word = record {
    few = holds.few;
    room = holds.room;
    bits = holds.bits;
    count = holds.count;
    none_below = λ k below. ⊎_elim
        (λ before. holds.none_below k before)
        (λ from. let at_low : k / 64 ≡ low = omega arith in is_not_free (line_at lines k).place
        (sym (holds.bits k) ∙ ap (λ n. bit_at (get_or words n 0) (k % 64)) at_low ∙ ap (λ w. bit_at w (k % 64)) zero_word ∙ bit_at-zero (k % 64)))
        (cases_lt k (64 * low));
  }

  module _ (w : ℕ) (read : w ≡ get_or words low 0) (some : 0 < w) (fits : w < 2 ^ 64) where
    lowest : (trailing_zeros w64 w < 64) × (bit_at w (trailing_zeros w64 w) ≡ 1) × ((i : ℕ) → i < trailing_zeros w64 w → bit_at w i ≡ 0)
    lowest = bit_at-trailing_zeros w64 w some fits

    bit_there : (k : ℕ) → k / 64 ≡ low → bit_in words k ≡ bit_at w (k % 64)
    bit_there k at_low = ap (λ n. bit_at (get_or words n 0) (k % 64)) at_low ∙ ap (λ v. bit_at v (k % 64)) (sym read)

    -- the lowest bit of the first word that has one is the first free buffer's
    pub lowest_is_free : (line_at lines (low * 64 + trailing_zeros w64 w)).place ≡ Free
    lowest_is_free =
        let below = lowest.0 in
        let at_low : (low * 64 + trailing_zeros w64 w) / 64 ≡ low = omega arith in
        let place : (low * 64 + trailing_zeros w64 w) % 64 ≡ trailing_zeros w64 w = omega arith in
        is_free _ (sym (holds.bits (low * 64 + trailing_zeros w64 w)) ∙ bit_there _ at_low ∙ ap (bit_at w) place ∙ lowest.1)

    pub lowest_is_first : (k : ℕ) → k < low * 64 + trailing_zeros w64 w → (line_at lines k).place ≢ Free
    lowest_is_first k before = ⊎_elim
        (λ lower. holds.none_below k (omega arith))
        (λ from.
        let below = lowest.0 in
        let at_low : k / 64 ≡ low = omega arith in
        is_not_free _ (sym (holds.bits k) ∙ bit_there k at_low ∙ lowest.2 (k % 64) (omega arith)))
        (cases_lt k (low * 64))

-- What finding and keeping a cursor makes of a list of cursors, and that the words of the cache say the same.
use Rattle.std.proofs.Common.{◌≡◌, ℕ, zero, suc, ◌<◌, ◌≤◌, Bool, true, false, [], ◌∷◌, length, take, Option, Some, None, refl, sym, ap, subst, arith, nat_eq, eqb-true}
use Rattle.std.specs.Prelude.{option_map}
use Rattle.std.proofs.lemmas.List.{take_all, length-take}
use Rattle.std.specs.List.{AllByRecursion, IsDistinct}
use Rattle.std.specs.Map.{keys_of, lookup_entry, remove_entry}
use Rattle.std.specs.Option.{option_map_or}
use Rattle.clover_words.specs.Tag.{TagParts}
use Rattle.lru.specs.LruCache.{LruCache, promoted, put_entries}
use Rattle.clover_cache.specs.Cursors.{CursorList, IsCursorList, most_cursors, cursor_of, others, after_find, after_keep}

-- either answer of a test
pub by_answer : {P : Type 0} (answer : Bool) → (answer ≡ true → P) → (answer ≡ false → P) → P
by_answer true at_true at_false = at_true refl
by_answer false at_true at_false = at_false refl

module _ (slot : ℕ) where
  others-unmet : (list : CursorList) → AllByRecursion (λ k. nat_eq slot k ≡ false) (keys_of list) → others slot list ≡ list
  others-unmet [] h = refl
  others-unmet (pair ∷ list) h = rw h.0 (ap (λ l. pair ∷ l) (others-unmet list h.1))

  pub others-unfound : (list : CursorList) → cursor_of slot list ≡ None → others slot list ≡ list
  others-unfound [] h = refl
  others-unfound (pair ∷ list) h = by_answer (nat_eq slot pair.0)
      (λ same. let h' = rw same at h in cc)
      (λ other. rw other (ap (λ l. pair ∷ l) (others-unfound list (rw other at h))))

  remove_entry-others : (list : CursorList) → IsDistinct nat_eq (keys_of list) → remove_entry (nat_eq slot) list ≡ others slot list
  unfolding IsDistinct
  remove_entry-others [] d = refl
  remove_entry-others (pair ∷ list) d = by_answer (nat_eq slot pair.0)
      (λ same. let key : slot ≡ pair.0 = eqb-true slot pair.0 same in rw same (sym (others-unmet list (subst (λ k. AllByRecursion (λ y. nat_eq k y ≡ false) (keys_of list)) (sym key) d.0))))
      (λ other. rw other (ap (λ l. pair ∷ l) (remove_entry-others list d.1)))

  lookup_entry-cursor_of : (list : CursorList) → lookup_entry (nat_eq slot) list ≡ option_map (λ tag. (slot, tag)) (cursor_of slot list)
  lookup_entry-cursor_of [] = refl
  lookup_entry-cursor_of (pair ∷ list) = by_answer (nat_eq slot pair.0)
      (λ same. let key : slot ≡ pair.0 = eqb-true slot pair.0 same in rw same (ap (λ k. Some (k, pair.1)) (sym key)))
      (λ other. rw other (lookup_entry-cursor_of list))

  length-others : (list : CursorList) → length (others slot list) ≤ length list
  length-others [] = omega arith
  length-others (pair ∷ list) = by_answer (nat_eq slot pair.0)
      (λ same. rw same (omega (arith, length-others list)))
      (λ other. rw other (omega (arith, length-others list)))

  -- where the slot has a cursor, the others are fewer than the whole
  pub length-others-found : (list : CursorList) (tag : TagParts) → cursor_of slot list ≡ Some tag → length (others slot list) < length list
  length-others-found [] tag h = cc
  length-others-found (pair ∷ list) tag h = by_answer (nat_eq slot pair.0)
      (λ same. rw same (omega (arith, length-others list)))
      (λ other. rw other (omega (arith, length-others-found list tag (rw other at h))))

-- the list with its slot's pair first holds no slot twice
module _ (slot : ℕ) where
  AllByRecursion-others : (P : ℕ → Type 0) (list : CursorList) → AllByRecursion P (keys_of list) → AllByRecursion P (keys_of (others slot list))
  AllByRecursion-others P [] h = tt
  AllByRecursion-others P (pair ∷ list) h = by_answer (nat_eq slot pair.0)
      (λ same. rw same (AllByRecursion-others P list h.1))
      (λ other. rw other (h.0, AllByRecursion-others P list h.1))

  unmet-others : (list : CursorList) → AllByRecursion (λ k. nat_eq slot k ≡ false) (keys_of (others slot list))
  unmet-others [] = tt
  unmet-others (pair ∷ list) = by_answer (nat_eq slot pair.0)
      (λ same. rw same (unmet-others list))
      (λ other. rw other (other, unmet-others list))

  IsDistinct-others : (list : CursorList) → IsDistinct nat_eq (keys_of list) → IsDistinct nat_eq (keys_of (others slot list))
  unfolding IsDistinct
  IsDistinct-others [] d = tt
  IsDistinct-others (pair ∷ list) d = by_answer (nat_eq slot pair.0)
      (λ same. rw same (IsDistinct-others list d.1))
      (λ other. rw other (AllByRecursion-others (λ k. nat_eq pair.0 k ≡ false) list d.0, IsDistinct-others list d.1))

AllByRecursion-take : (P : ℕ → Type 0) (n : ℕ) (list : CursorList) → AllByRecursion P (keys_of list) → AllByRecursion P (keys_of (take n list))
AllByRecursion-take P zero list h = tt
AllByRecursion-take P (suc n) [] h = tt
AllByRecursion-take P (suc n) (pair ∷ list) h = (h.0, AllByRecursion-take P n list h.1)

IsDistinct-take : (n : ℕ) (list : CursorList) → IsDistinct nat_eq (keys_of list) → IsDistinct nat_eq (keys_of (take n list))
unfolding IsDistinct
IsDistinct-take zero list d = tt
IsDistinct-take (suc n) [] d = tt
IsDistinct-take (suc n) (pair ∷ list) d = (AllByRecursion-take (λ k. nat_eq pair.0 k ≡ false) n list d.0, IsDistinct-take n list d.1)

module _ (slot : ℕ) (list : CursorList) (holds : IsCursorList list) where
  found_is_list : (found : Option TagParts) → cursor_of slot list ≡ found → IsCursorList (option_map_or (λ tag. (slot, tag) ∷ others slot list) found list)
  unfolding IsDistinct
  found_is_list None is = holds
  found_is_list (Some tag) is = let fewer = length-others-found slot list tag is in let most = holds.fits in record {
    one_each = (unmet-others slot list, IsDistinct-others slot list holds.one_each);
    fits = omega arith;
  }

  -- finding keeps a list of cursors one
  pub IsCursorList-after_find : IsCursorList (after_find slot list)
  IsCursorList-after_find = found_is_list (cursor_of slot list) refl

  -- keeping keeps a list of cursors one
  pub IsCursorList-after_keep : (tag : TagParts) → IsCursorList (after_keep slot tag list)
  unfolding IsDistinct
  IsCursorList-after_keep tag = record {
    one_each = (AllByRecursion-take (λ k. nat_eq slot k ≡ false) 63 (others slot list) (unmet-others slot list), IsDistinct-take 63 (others slot list) (IsDistinct-others slot list holds.one_each));
    fits = let short : length (take 63 (others slot list)) ≤ 63 = rw length-take (omega arith) in omega arith;
  }

  found_is_promoted : (found : Option TagParts) → option_map_or {T = ℕ × TagParts} (λ pair. pair ∷ others slot list) (option_map (λ tag. (slot, tag)) found) list ≡ option_map_or (λ tag. (slot, tag) ∷ others slot list) found list
  found_is_promoted None = refl
  found_is_promoted (Some tag) = refl

  -- what the cache does at a look-up
  pub promoted-after_find : promoted (nat_eq slot) list ≡ after_find slot list
  promoted-after_find = rw (lookup_entry-cursor_of slot list, remove_entry-others slot list holds.one_each) (found_is_promoted (cursor_of slot list))

  found_is_put : (tag : TagParts) (found : Option TagParts) → cursor_of slot list ≡ found
      → option_map_or {T = ℕ × TagParts} (λ pair. (pair.0, tag) ∷ others slot list) (option_map (λ former. (slot, former)) found) ((slot, tag) ∷ take 63 list) ≡ after_keep slot tag list
  found_is_put tag None is = ap (λ l. (slot, tag) ∷ take 63 l) (sym (others-unfound slot list is))
  found_is_put tag (Some former) is =
      let fewer = length-others-found slot list former is in
      let most = holds.fits in
      ap (λ l. (slot, tag) ∷ l) (sym (take_all 63 (others slot list) (omega arith)))

-- what the cache does at a change
pub put_entries-after_keep : (cache : LruCache ℕ TagParts) (slot : ℕ) (tag : TagParts) → cache.cap ≡ most_cursors → IsCursorList cache.entries
    → put_entries nat_eq cache slot tag ≡ after_keep slot tag cache.entries
put_entries-after_keep cache slot tag full holds =
    rw (full, lookup_entry-cursor_of slot cache.entries, remove_entry-others slot cache.entries holds.one_each)
    (found_is_put slot cache.entries holds tag (cursor_of slot cache.entries) refl)

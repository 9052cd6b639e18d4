-- What callers may conclude about a list of cursors from the words of the contracts.
use Rattle.std.proofs.Common.{◌≡◌, ◌≢◌, ℕ, zero, suc, ◌+◌, ◌<◌, false, not, [], ◌∷◌, ◌++◌, length, take, All, Option, Some, None, refl, sym, ap, ◌∙◌, subst, arith, nat_eq, eqb-true, ne_eqb}
use Rattle.std.specs.Cmp.{nat_eq_equiv}
use Rattle.std.specs.List.{IsDistinct}
use Rattle.std.specs.Option.{option_map_or}
use Rattle.std.proofs.lemmas.List.{take_all, take-append-le, length-append}
use Rattle.std.proofs.lemmas.List.Elements.{All-cons, All-head, All-tail, All-filter, All-take}
use Rattle.clover_words.specs.Tag.{TagParts}
use Rattle.clover_cache.specs.Cursors.{CursorList, IsCursorList, most_cursors, cursor_of, others, after_find, after_keep}
use Rattle.clover_cache.proofs.Keeping.{by_answer, others-unfound, length-others-found}

-- no cursors are a list of cursors
pub IsCursorList-empty : IsCursorList []
unfolding IsDistinct
IsCursorList-empty = record { one_each = tt; fits = omega arith }

module _ (slot asked : ℕ) (apart : nat_eq slot asked ≡ false) where
  cursor_of-others : (list : CursorList) → cursor_of slot (others asked list) ≡ cursor_of slot list
  cursor_of-others [] = refl
  cursor_of-others (pair ∷ list) = by_answer (nat_eq asked pair.0)
      (λ same. let elsewhere : nat_eq slot pair.0 ≡ false = subst (λ k. nat_eq slot k ≡ false) (eqb-true asked pair.0 same) apart in rw (same, elsewhere) (cursor_of-others list))
      (λ other. rw other (by_answer (nat_eq slot pair.0) (λ mine. rw mine refl) (λ else'. rw else' (cursor_of-others list))))

cursor_of-take : (slot n : ℕ) (list : CursorList) (tag : TagParts) → cursor_of slot (take n list) ≡ Some tag → cursor_of slot list ≡ Some tag
cursor_of-take slot zero list tag h = cc
cursor_of-take slot (suc n) [] tag h = cc
cursor_of-take slot (suc n) (pair ∷ list) tag h = by_answer (nat_eq slot pair.0)
    (λ same. rw same (rw same at h))
    (λ other. rw other (cursor_of-take slot n list tag (rw other at h)))

module _ (asked : ℕ) (list : CursorList) where
  after_found : (found : Option TagParts) → cursor_of asked list ≡ found → (slot : ℕ) → cursor_of slot (option_map_or (λ tag. (asked, tag) ∷ others asked list) found list) ≡ cursor_of slot list
  after_found None is slot = refl
  after_found (Some tag) is slot = by_answer (nat_eq slot asked)
      (λ same. rw same (subst (λ k. Some tag ≡ cursor_of k list) (sym (eqb-true slot asked same)) (sym is)))
      (λ apart. rw apart (cursor_of-others slot asked apart list))

  -- finding changes no slot's cursor
  pub cursor_of-after_find : (slot : ℕ) → cursor_of slot (after_find asked list) ≡ cursor_of slot list
  cursor_of-after_find = after_found (cursor_of asked list) refl

-- what was kept is the slot's cursor
pub cursor_of-after_keep : (slot : ℕ) (tag : TagParts) (list : CursorList) → cursor_of slot (after_keep slot tag list) ≡ Some tag
cursor_of-after_keep slot tag list = rw (nat_eq_equiv.refl slot)

-- keeping gives no other slot a cursor: what another slot has then, it had
pub cursor_of-after_keep-other : (slot kept : ℕ) (tag other : TagParts) (list : CursorList) → slot ≢ kept → cursor_of slot (after_keep kept tag list) ≡ Some other → cursor_of slot list ≡ Some other
cursor_of-after_keep-other slot kept tag other list differs h =
    let apart : nat_eq slot kept ≡ false = ne_eqb slot kept differs in
    sym (cursor_of-others slot kept apart list) ∙ cursor_of-take slot 63 (others kept list) other (rw apart at h)

-- a slot whose former cursor is there gets the new one in its place, and no pair is lost
pub after_keep-known : (slot : ℕ) (tag former : TagParts) (list : CursorList) → IsCursorList list → cursor_of slot list ≡ Some former → after_keep slot tag list ≡ (slot, tag) ∷ others slot list
after_keep-known slot tag former list holds is =
    let fewer = length-others-found slot list former is in
    let most = holds.fits in
    ap (λ l. (slot, tag) ∷ l) (take_all 63 (others slot list) (omega arith))

-- a new slot's pair joins a list that is not full
pub after_keep-new : (slot : ℕ) (tag : TagParts) (list : CursorList) → cursor_of slot list ≡ None → length list < most_cursors → after_keep slot tag list ≡ (slot, tag) ∷ list
after_keep-new slot tag list is room = rw (others-unfound slot list is) (ap (λ l. (slot, tag) ∷ l) (take_all 63 list (omega arith)))

-- a new slot's pair takes the place of the last of a full list
pub after_keep-full : (slot : ℕ) (tag : TagParts) (front : CursorList) (last : ℕ × TagParts) → cursor_of slot (front ++ last ∷ []) ≡ None → length (front ++ last ∷ []) ≡ most_cursors
    → after_keep slot tag (front ++ last ∷ []) ≡ (slot, tag) ∷ front
after_keep-full slot tag front last is full =
    let whole : length (front ++ last ∷ []) ≡ length front + 1 = length-append front (last ∷ []) in
    rw (others-unfound slot (front ++ last ∷ []) is)
    (ap (λ l. (slot, tag) ∷ l) (take-append-le 63 front (last ∷ []) (omega arith) ∙ take_all 63 front (omega arith)))

-- what holds of each pair holds of the slot's cursor
pub held : (P : ℕ × TagParts → Type 0) (slot : ℕ) (tag : TagParts) (list : CursorList) → All P list → cursor_of slot list ≡ Some tag → P (slot, tag)
held P slot tag [] each is = cc
held P slot tag (pair ∷ list) each is = by_answer (nat_eq slot pair.0)
    (λ same.
    let is' = rw same at is in
    let found : pair.1 ≡ tag = cc in
    let key : pair.0 ≡ slot = sym (eqb-true slot pair.0 same) in
    subst (λ t. P (slot, t)) found (subst (λ k. P (k, pair.1)) key (All-head P pair list each)))
    (λ other. held P slot tag list (All-tail P pair list each) (rw other at is))

module _ (P : ℕ × TagParts → Type 0) (slot : ℕ) (list : CursorList) (each : All P list) where
  All-found : (found : Option TagParts) → cursor_of slot list ≡ found → All P (option_map_or (λ tag. (slot, tag) ∷ others slot list) found list)
  All-found None is = each
  All-found (Some tag) is = All-cons P (slot, tag) (others slot list) (held P slot tag list each is) (All-filter (λ pair. not (nat_eq slot pair.0)) P list each)

  -- what holds of each pair holds of each after finding
  pub All-after_find : All P (after_find slot list)
  All-after_find = All-found (cursor_of slot list) refl

  -- what holds of each pair and of the one that is kept holds of each after keeping
  pub All-after_keep : (tag : TagParts) → P (slot, tag) → All P (after_keep slot tag list)
  All-after_keep tag new = All-cons P (slot, tag) (take 63 (others slot list)) new (All-take P 63 (others slot list) (All-filter (λ pair. not (nat_eq slot pair.0)) P list each))

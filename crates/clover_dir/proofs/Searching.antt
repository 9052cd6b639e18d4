-- A search in the index of a list, and the index once a binding was put behind the list.
use Prim.Native.Nat.{zero, suc}
use Rattle.std.proofs.Common.{◌≡◌, ℕ, ◌+◌, ◌-◌, ◌<◌, ◌≤◌, List, [], ◌∷◌, ◌++◌, length, length-append, get_or, refl, sym, ap, ◌∙◌, ⊎_elim, arith}
use Rattle.std.specs.Prelude.{Option, Some, Result, Ok, Err, IfOk, IfErr, slice_get}
use Rattle.std.specs.List.{insert}
use Rattle.std.specs.List.Sorted.{IsSearchInRange, IsBinarySearchResult}
use Rattle.std.specs.Ordering.{nat_cmp, ordering_index, ordering_then}
use Rattle.std.specs.declared.cmp.Ordering.TheVariants.{Less}
use Rattle.std.proofs.Math.ListN.{get_or-append}
use Rattle.std.proofs.Math.Seq.{get_or-append_seam}
use Rattle.std.proofs.lemmas.Bool.{cases_lt}
use Rattle.std.proofs.lemmas.List.Edits.{length-insert, get_or-insert_below, get_or-insert_at, get_or-insert_above}
use Rattle.std.proofs.lemmas.List.Sorted.{IsNonDecreasingBy-from_default}
use Rattle.clover_dir.specs.Index.{no_binding, head_of, key_cmp, key_at, head_in, position_in, key_in, IsIndex, cmp_at, compared, IsPlaceOf, IsGapFor}
use Rattle.clover_dir.specs.declared.binding.Binding.{Binding}
use Rattle.clover_dir.proofs.Order.{key_exact, key_self, key_below, key_rises}

got : (list : List Binding) (n : ℕ) → n < length list → slice_get list n ≡ Some (get_or list n no_binding)
got [] n h = absurd (omega arith)
got (b ∷ list) zero h = refl
got (b ∷ list) (suc n) h = got list n (omega arith)

module _ (list : List Binding) (order : List (ℕ × ℕ)) (ix : IsIndex list order) (key : List ℕ) where
  -- an entry of the index compares as its key does
  compared_is : (i : ℕ) → i < length order → compared list key (get_or order i (0, 0)) ≡ key_cmp (key_in list order i) key
  compared_is i h =
      ap (λ (n : ℕ). ordering_then (nat_cmp n (head_of key)) (cmp_at key (slice_get list (position_in order i)))) (ix.heads i h)
      ∙ ap (λ (o : Option Binding). ordering_then (nat_cmp (head_of (key_in list order i)) (head_of key)) (cmp_at key o)) (got list (position_in order i) (ix.inside i h))

  rise : (i j : ℕ) → i ≤ j → j < length order → ordering_index (compared list key (get_or order i (0, 0))) ≤ ordering_index (compared list key (get_or order j (0, 0)))
  rise i j le h =
      let a = ap ordering_index (compared_is i (omega arith)) in
      let b = ap ordering_index (compared_is j h) in
      ⊎_elim
      (λ (l : i < j). let z = key_rises (key_in list order i) (key_in list order j) key (ix.rises i j l h) in omega arith)
      (λ (g : j ≤ i). let e : i ≡ j = omega arith in omega (arith, ap (λ (n : ℕ). ordering_index (compared list key (get_or order n (0, 0)))) e))
      (cases_lt i j)

  -- what a search by halves answers
  pub searched : (r : Result ℕ ℕ) → IsSearchInRange r (length order) → IsBinarySearchResult (compared list key) order r → IfOk r (IsPlaceOf list order key) × IfErr r (IsGapFor list order key)
  searched (Ok i) h e = (record { inside = h; key_is = key_exact (key_in list order i) key (sym (compared_is i h) ∙ e (0, 0)) }, tt)
  searched (Err i) h e =
      let parts = e (IsNonDecreasingBy-from_default (λ q. ordering_index (compared list key q)) order (0, 0) rise) in (
        tt,
        record {
          inside = h;
          before = λ j l. sym (compared_is j (omega arith)) ∙ parts.0 j (0, 0) (omega arith) l;
          behind = λ j l g. key_below (key_in list order j) key (sym (compared_is j g) ∙ parts.1 j (0, 0) l g);
        },
      )

  -- where a key would go it is not
  pub gap_lacks : (i : ℕ) → IsGapFor list order key i → (n : ℕ) → n < length list → key_at list n ≡ key → ⊥
  gap_lacks i gap n h e =
      let there = ix.listed n h in
      let here : key_in list order there.0 ≡ key = ap (key_at list) there.2 ∙ e in
      ⊎_elim
      (λ (l : there.0 < i). key_self (key_in list order there.0) key here (gap.before there.0 l))
      (λ (g : i ≤ there.0). key_self key (key_in list order there.0) (sym here) (gap.behind there.0 g there.1))
      (cases_lt there.0 i)

-- two positions with one key are one
pub one_position : (list : List Binding) (order : List (ℕ × ℕ)) → IsIndex list order → (m n : ℕ) → m < length list → n < length list → key_at list m ≡ key_at list n → m ≡ n
one_position list order ix m n hm hn e =
    let a = ix.listed m hm in
    let b = ix.listed n hn in
    let same : key_in list order a.0 ≡ key_in list order b.0 = ap (key_at list) a.2 ∙ e ∙ ap (key_at list) (sym b.2) in
    ⊎_elim
    (λ (l : a.0 < b.0). absurd (key_self (key_in list order a.0) (key_in list order b.0) same (ix.rises a.0 b.0 l b.1)))
    (λ (g : b.0 ≤ a.0). ⊎_elim
    (λ (l : b.0 < a.0). absurd (key_self (key_in list order b.0) (key_in list order a.0) (sym same) (ix.rises b.0 a.0 l a.1)))
    (λ (h : a.0 ≤ b.0). let z : a.0 ≡ b.0 = omega arith in sym a.2 ∙ ap (position_in order) z ∙ b.2)
    (cases_lt b.0 a.0))
    (cases_lt a.0 b.0)

-- the index once a binding was put behind the list, and an entry for it into the gap
module _ (list : List Binding) (order : List (ℕ × ℕ)) (ix : IsIndex list order) (slot : ℕ) (key : List ℕ) (at : ℕ) (gap : IsGapFor list order key at) where
  abbrev pub more : List Binding
  more = list ++ record { slot = slot; key = key } ∷ []

  abbrev pub new : List (ℕ × ℕ)
  new = insert order at (head_of key, length list)

  old_key : (n : ℕ) → n < length list → key_at more n ≡ key_at list n
  old_key n h = ap (λ (b : Binding). b.key) (get_or-append list (record { slot = slot; key = key } ∷ []) no_binding n h)

  last_key : key_at more (length list) ≡ key
  last_key = ap (λ (b : Binding). b.key) (get_or-append_seam list (record { slot = slot; key = key }) [] no_binding)

  entry_before : (i : ℕ) → i < at → get_or new i (0, 0) ≡ get_or order i (0, 0)
  entry_before i h = get_or-insert_below order at (head_of key, length list) (0, 0) i h gap.inside

  entry_here : (i : ℕ) → i ≡ at → get_or new i (0, 0) ≡ (head_of key, length list)
  entry_here i e = ap (λ (n : ℕ). get_or new n (0, 0)) e ∙ get_or-insert_at order at (head_of key, length list) (0, 0) gap.inside

  entry_behind : (i : ℕ) → at ≤ i → get_or new (i + 1) (0, 0) ≡ get_or order i (0, 0)
  entry_behind i h = get_or-insert_above order at (head_of key, length list) (0, 0) i h gap.inside

  abbrev position : ℕ × ℕ → ℕ
  position q = q.1

  key_before : (i : ℕ) → i < at → key_in more new i ≡ key_in list order i
  key_before i h = ap (λ (q : ℕ × ℕ). key_at more q.1) (entry_before i h) ∙ old_key (position_in order i) (ix.inside i (let z = gap.inside in omega arith))

  key_here : (i : ℕ) → i ≡ at → key_in more new i ≡ key
  key_here i e = ap (λ (q : ℕ × ℕ). key_at more q.1) (entry_here i e) ∙ last_key

  key_behind : (i : ℕ) → at ≤ i → i < length order → key_in more new (i + 1) ≡ key_in list order i
  key_behind i h l = ap (λ (q : ℕ × ℕ). key_at more q.1) (entry_behind i h) ∙ old_key (position_in order i) (ix.inside i l)

  long_new : length new ≡ length order + 1
  long_new = length-insert order at (head_of key, length list) gap.inside

  long_more : length more ≡ length list + 1
  long_more = length-append list (record { slot = slot; key = key } ∷ [])

  -- a place is before the new one, it, or behind it
  data Spot (i : ℕ) : Type 0 where
    Before : i < at → Spot i
    Here : i ≡ at → Spot i
    Behind : (j : ℕ) → i ≡ j + 1 → at ≤ j → j < length order → Spot i

  spot : (i : ℕ) → i < length new → Spot i
  spot i h = ⊎_elim (λ (l : i < at). Before l)
      (λ (g : at ≤ i). ⊎_elim
      (λ (l : at < i). let n = long_new in Behind (i - 1) (omega arith) (omega arith) (omega arith))
      (λ (k : i ≤ at). Here (omega arith))
      (cases_lt at i))
      (cases_lt i at)

  place_inside : (i : ℕ) → Spot i → position_in new i < length more
  place_inside i (Before l) = let e = ap position (entry_before i l) in let z = ix.inside i (let g = gap.inside in omega arith) in let m = long_more in omega arith
  place_inside i (Here e) = let q = ap position (entry_here i e) in let m = long_more in omega arith
  place_inside i (Behind j e g l) = let q = ap (λ (n : ℕ). position_in new n) e ∙ ap position (entry_behind j g) in let z = ix.inside j l in let m = long_more in omega arith

  head_is : (i : ℕ) → Spot i → head_in new i ≡ head_of (key_in more new i)
  head_is i (Before l) = ap (λ (q : ℕ × ℕ). q.0) (entry_before i l) ∙ ix.heads i (let g = gap.inside in omega arith) ∙ ap head_of (sym (key_before i l))
  head_is i (Here e) = ap (λ (q : ℕ × ℕ). q.0) (entry_here i e) ∙ ap head_of (sym (key_here i e))
  head_is i (Behind j e g l) = ap (head_in new) e ∙ ap (λ (q : ℕ × ℕ). q.0) (entry_behind j g) ∙ ix.heads j l ∙ ap head_of (sym (ap (key_in more new) e ∙ key_behind j g l))

  both : (a b x y : List ℕ) → a ≡ x → b ≡ y → key_cmp x y ≡ Less → key_cmp a b ≡ Less
  both a b x y e f h = (λ t. key_cmp (e t) (f t)) ∙ h

  key_after : (i j : ℕ) → i ≡ j + 1 → at ≤ j → j < length order → key_in more new i ≡ key_in list order j
  key_after i j e g l = ap (key_in more new) e ∙ key_behind j g l

  less : (i j : ℕ) → i < j → Spot i → Spot j → key_cmp (key_in more new i) (key_in more new j) ≡ Less
  less i j h (Before l) (Before m) = both _ _ _ _ (key_before i l) (key_before j m) (ix.rises i j h (let g = gap.inside in omega arith))
  less i j h (Before l) (Here e) = both _ _ _ _ (key_before i l) (key_here j e) (gap.before i l)
  less i j h (Before l) (Behind b e g m) = both _ _ _ _ (key_before i l) (key_after j b e g m) (ix.rises i b (omega arith) m)
  less i j h (Here e) (Before m) = absurd (omega arith)
  less i j h (Here e) (Here f) = absurd (omega arith)
  less i j h (Here e) (Behind b f g m) = both _ _ _ _ (key_here i e) (key_after j b f g m) (gap.behind b g m)
  less i j h (Behind a e g l) (Before m) = absurd (omega arith)
  less i j h (Behind a e g l) (Here f) = absurd (omega arith)
  less i j h (Behind a e g l) (Behind b f k m) = both _ _ _ _ (key_after i a e g l) (key_after j b f k m) (ix.rises a b (omega arith) m)

  there : (n : ℕ) → n < length more → (i : ℕ) × (i < length new) × (position_in new i ≡ n)
  there n h = let k = long_new in let m = long_more in ⊎_elim
      (λ (l : n < length list). let z = ix.listed n l in ⊎_elim
      (λ (b : z.0 < at). (z.0, (let y = z.1 in omega arith), ap position (entry_before z.0 b) ∙ z.2))
      (λ (b : at ≤ z.0). (z.0 + 1, (let y = z.1 in omega arith), ap position (entry_behind z.0 b) ∙ z.2))
      (cases_lt z.0 at))
      (λ (g : length list ≤ n). (at, (let y = gap.inside in omega arith), ap position (entry_here at refl) ∙ (let e : length list ≡ n = omega arith in e)))
      (cases_lt n (length list))

  pub index_with : IsIndex more new
  index_with = record {
    size = let k = long_new in let m = long_more in let s = ix.size in omega arith;
    inside = λ i h. place_inside i (spot i h);
    heads = λ i h. head_is i (spot i h);
    rises = λ i j l h. less i j l (spot i (omega arith)) (spot j h);
    listed = there;
  }

-- A directory with another root version, and with one binding more.
use Rattle.std.proofs.Common.{◌≡◌, ◌≢◌, ℕ, ◌+◌, ◌<◌, ◌≤◌, ◌⊎◌, List, [], ◌∷◌, ◌++◌, length, length-append, get_or, set, refl, sym, ap, ◌∙◌, ⊎_elim, inl, inr, arith, subst}
use Rattle.std.specs.Prelude.{sum_by, Option, Some, None, IsSome, is_some}
use Rattle.std.proofs.Math.ListN.{get_or-eq_default}
use Rattle.std.proofs.lemmas.Bool.{cases_lt}
use Rattle.std.proofs.lemmas.List.{get_or-set_same, get_or-set_other, length-set}
use Rattle.std.proofs.lemmas.List.Sums.{sum_by-cons, sum_by-set}
use Rattle.clover_words.specs.declared.pool.Pool.{Pool}
use Rattle.clover_words.specs.Tag.{TagParts}
use Rattle.clover_rule.specs.Lists.{nth, Within}
use Rattle.clover_rule.specs.Names.{KeysOnce}
use Rattle.clover_rule.specs.Views.{SlotsOnce}
use Rattle.clover_rule.proofs.Bindings.{nth_among}
use Rattle.clover_rule.proofs.Tools.{nth_snoc}
use Rattle.clover_dir.specs.Directory.{Bindings, IsBound, IsDirectory}
use Rattle.clover_dir.specs.Kept.{directory_in, one_for, IsDirectoryKept}
use Rattle.clover_dir.specs.Names.{NameList, IsNew}
use Rattle.clover_dir.specs.declared.directory.Directory.TheInside.{Inside}

pub same_or_not : (a b : ℕ) → (a ≡ b) ⊎ (a ≢ b)
same_or_not a b = ⊎_elim
    (λ (l : a < b). inr (λ e. omega arith))
    (λ (g : b ≤ a). ⊎_elim (λ (l : b < a). inr (λ e. omega arith)) (λ (h : a ≤ b). inl (omega arith)) (cases_lt b a))
    (cases_lt a b)

-- a slot with a root version is one of the list
some_inside : (xs : List (Option TagParts)) (s : ℕ) → IsSome (get_or xs s None) → s < length xs
some_inside xs s h = ⊎_elim (λ (l : s < length xs). l) (λ (g : length xs ≤ s). absurd (let e = get_or-eq_default xs None g in cc)) (cases_lt s (length xs))

-- the other slots keep their root versions
set_some : (xs : List (Option TagParts)) (slot s : ℕ) (t : TagParts) → IsSome (get_or xs s None) → IsSome (get_or (set xs slot (Some t)) s None)
set_some xs slot s t h = ⊎_elim
    (λ (e : s ≡ slot). let z = some_inside xs s h in let y = get_or-set_same xs s (Some t) None z in subst (λ (n : ℕ). IsSome (get_or (set xs n (Some t)) s None)) e (ap is_some y))
    (λ (n : s ≢ slot). subst IsSome (sym (get_or-set_other xs slot s (Some t) None n)) h)
    (same_or_not s slot)

some_set : (xs : List (Option TagParts)) (slot s : ℕ) (t : TagParts) → IsSome (get_or (set xs slot (Some t)) s None) → (s ≡ slot) ⊎ IsSome (get_or xs s None)
some_set xs slot s t h = ⊎_elim
    (λ (e : s ≡ slot). inl e)
    (λ (n : s ≢ slot). inr (subst IsSome (get_or-set_other xs slot s (Some t) None n) h))
    (same_or_not s slot)

one_is : (o : Option TagParts) → IsSome o → one_for o ≡ 1
one_is None h = absurd cc
one_is (Some t) h = refl

none_zero : (o : Option TagParts) → o ≡ None → one_for o ≡ 0
none_zero o e = ap one_for e

none_some : (o : Option TagParts) → o ≡ None → IsSome o → ⊥
none_some o e h = let z = ap is_some e in cc

one_most : (xs : List (Option TagParts)) → sum_by one_for xs ≤ length xs
one_most [] = omega arith
one_most (None ∷ xs) = let z = one_most xs in let y = sum_by-cons one_for None xs in omega arith
one_most (Some t ∷ xs) = let z = one_most xs in let y = sum_by-cons one_for (Some t) xs in omega arith

none_is : (o : Option TagParts) → (IsSome o → ⊥) → o ≡ None
none_is None h = refl
none_is (Some t) h = absurd (h refl)

snoc_within : (q : ℕ × List ℕ) (xs : List (ℕ × List ℕ)) (p : ℕ × List ℕ) → Within q (xs ++ p ∷ []) → Within q xs ⊎ (p ≡ q)
snoc_within q [] p w = ⊎_elim (λ e. inr e) (λ z. absurd z) w
snoc_within q (x ∷ xs) p w = ⊎_elim (λ e. inl (inl e)) (λ z. ⊎_elim (λ y. inl (inr y)) (λ e. inr e) (snoc_within q xs p z)) w

within_front : (q : ℕ × List ℕ) (xs ys : List (ℕ × List ℕ)) → Within q xs → Within q (xs ++ ys)
within_front q [] ys w = absurd w
within_front q (x ∷ xs) ys w = ⊎_elim (λ e. inl e) (λ z. inr (within_front q xs ys z)) w

within_last : (q : ℕ × List ℕ) (xs : List (ℕ × List ℕ)) → Within q (xs ++ q ∷ [])
within_last q [] = inl refl
within_last q (x ∷ xs) = inr (within_last q xs)

keys_push : (xs : List (ℕ × List ℕ)) (slot : ℕ) (key : List ℕ) → KeysOnce xs → IsNew key xs → KeysOnce (xs ++ (slot, key) ∷ [])
keys_push xs slot key once new i j s s1 k e f = ⊎_elim
    (λ (a : nth xs i ≡ Some (s, k)). ⊎_elim
    (λ (b : nth xs j ≡ Some (s1, k)). once i j s s1 k a b)
    (λ b. absurd (new s (subst (λ (z : List ℕ). Within (s, z) xs) (sym (ap (λ (q : ℕ × List ℕ). q.1) b.1)) (nth_among xs i (s, k) a))))
    (nth_snoc xs (slot, key) (s1, k) j f))
    (λ a. ⊎_elim
    (λ (b : nth xs j ≡ Some (s1, k)). absurd (new s1 (subst (λ (z : List ℕ). Within (s1, z) xs) (sym (ap (λ (q : ℕ × List ℕ). q.1) a.1)) (nth_among xs j (s1, k) b))))
    (λ b. a.0 ∙ sym b.0)
    (nth_snoc xs (slot, key) (s1, k) j f))
    (nth_snoc xs (slot, key) (s, k) i e)

slots_push : (xs : List (ℕ × List ℕ)) (slot : ℕ) (key : List ℕ) → SlotsOnce xs → ((k : List ℕ) → Within (slot, k) xs → ⊥) → SlotsOnce (xs ++ (slot, key) ∷ [])
slots_push xs slot key once free i j s k k1 e f = ⊎_elim
    (λ (a : nth xs i ≡ Some (s, k)). ⊎_elim
    (λ (b : nth xs j ≡ Some (s, k1)). once i j s k k1 a b)
    (λ b. absurd (free k (subst (λ (z : ℕ). Within (z, k) xs) (sym (ap (λ (q : ℕ × List ℕ). q.0) b.1)) (nth_among xs i (s, k) a))))
    (nth_snoc xs (slot, key) (s, k1) j f))
    (λ a. ⊎_elim
    (λ (b : nth xs j ≡ Some (s, k1)). absurd (free k1 (subst (λ (z : ℕ). Within (z, k1) xs) (sym (ap (λ (q : ℕ × List ℕ). q.0) a.1)) (nth_among xs j (s, k1) b))))
    (λ b. a.0 ∙ sym b.0)
    (nth_snoc xs (slot, key) (s, k1) j f))
    (nth_snoc xs (slot, key) (s, k) i e)

module _ (d : Inside) (k : IsDirectoryKept d) where
  abbrev pub value : Bindings
  value = directory_in d

  pub bound_inside : (slot : ℕ) → IsBound slot value → slot < length d.roots.items
  bound_inside slot b = some_inside d.roots.items slot (k.directory.rooted slot b)

  pub unrooted : (slot : ℕ) → (IsBound slot value → ⊥) → get_or d.roots.items slot None ≡ None
  unrooted slot u = none_is (get_or d.roots.items slot None) (λ h. u (k.directory.bound slot h))

  -- what the first unbound slot says
  pub low_free : d.low < d.pool.slots → IsBound d.low value → ⊥
  low_free l b = none_some (get_or d.roots.items d.low None) (k.free l) (k.directory.rooted d.low b)

  pub low_below : (s : ℕ) → s < d.low → IsBound s value
  low_below s l = k.directory.bound s (k.below s l)

  -- there is room for a binding more where a slot is unbound
  pub room_left : (slot : ℕ) → slot < d.pool.slots → (IsBound slot value → ⊥) → length d.names.list < d.names.most
  room_left slot inside free =
      let t : TagParts = record { node = 0; index = 0; generation = 0 } in
      let there : slot < length d.roots.items = (let z = k.directory.sized in omega arith) in
      let none = none_zero (get_or d.roots.items slot None) (unrooted slot free) in
      let z = sum_by-set one_for d.roots.items slot (Some t) None there in
      let y = k.counted in
      let x = one_most (set d.roots.items slot (Some t)) in
      let w = length-set d.roots.items slot (Some t) in
      let v = k.room in
      let u = k.directory.sized in
      omega arith

  -- another root version of a bound slot
  module _ (slot : ℕ) (t : TagParts) (m : Inside) (pool : m.pool ≡ d.pool) (roots : m.roots.items ≡ set d.roots.items slot (Some t)) where
    some_now : (s : ℕ) → IsSome (get_or d.roots.items s None) → IsSome (get_or m.roots.items s None)
    some_now s h = subst (λ (xs : List (Option TagParts)). IsSome (get_or xs s None)) (sym roots) (set_some d.roots.items slot s t h)

    some_before : (s : ℕ) → IsSome (get_or m.roots.items s None) → (s ≡ slot) ⊎ IsSome (get_or d.roots.items s None)
    some_before s h = some_set d.roots.items slot s t (subst (λ (xs : List (Option TagParts)). IsSome (get_or xs s None)) roots h)

    long : length m.roots.items ≡ length d.roots.items
    long = ap length roots ∙ length-set d.roots.items slot (Some t)

    sized : length m.roots.items ≡ m.pool.slots
    sized = long ∙ k.directory.sized ∙ ap (λ (p : Pool). p.slots) (sym pool)

    sum : slot < length d.roots.items → sum_by one_for m.roots.items + one_for (get_or d.roots.items slot None) ≡ sum_by one_for d.roots.items + 1
    sum h = let z = sum_by-set one_for d.roots.items slot (Some t) None h in let y = ap (sum_by one_for) roots in omega arith

    other : (s : ℕ) → s ≢ slot → get_or m.roots.items s None ≡ get_or d.roots.items s None
    other s n = ap (λ (xs : List (Option TagParts)). get_or xs s None) roots ∙ get_or-set_other d.roots.items slot s (Some t) None n

    -- what was bound below the lowest unbound slot still is
    pub still_below : (s : ℕ) → s < d.low → IsSome (get_or m.roots.items s None)
    still_below s h = some_now s (k.below s h)

    pub moved_kept : IsBound slot value → m.names ≡ d.names → m.low ≡ d.low → IsDirectoryKept m
    moved_kept b names low =
        let slots : m.pool.slots ≡ d.pool.slots = ap (λ (p : Pool). p.slots) pool in
        let list : m.names.list ≡ d.names.list = ap (λ (n : NameList). n.list) names in record {
          directory = record {
            keys = subst KeysOnce (sym list) k.directory.keys;
            slots = subst SlotsOnce (sym list) k.directory.slots;
            sized = sized;
            rooted = λ s h. some_now s (k.directory.rooted s (h.0, subst (Within (s, h.0)) list h.1));
            bound = λ s h. let z : IsBound s value = ⊎_elim (λ (e : s ≡ slot). subst (λ (n : ℕ). IsBound n value) (sym e) b) (λ g. k.directory.bound s g) (some_before s h) in (z.0, subst (Within (s, z.0)) (sym list) z.1);
          };
          room = ap (λ (n : NameList). n.most) names ∙ k.room ∙ sym slots;
          counted =
              let one = one_is (get_or d.roots.items slot None) (k.directory.rooted slot b) in
              let z = sum (bound_inside slot b) in
              let y = k.counted in
              let x = ap length list in
              omega arith;
          low = let z = k.low in omega arith;
          free = λ h.
              let there : d.low < d.pool.slots = omega arith in
              ap (λ (n : ℕ). get_or m.roots.items n None) low ∙ other d.low (λ e. low_free there (subst (λ (n : ℕ). IsBound n value) (sym e) b)) ∙ k.free there;
          below = λ s h. some_now s (k.below s (omega arith));
        }

    -- one binding more
    module _ (key : List ℕ) (inside : slot < d.pool.slots) (free : IsBound slot value → ⊥) (new : IsNew key d.names.list) (list : m.names.list ≡ d.names.list ++ (slot, key) ∷ []) where
      pair_before : (q : ℕ × List ℕ) → Within q m.names.list → Within q d.names.list ⊎ ((slot, key) ≡ q)
      pair_before q w = snoc_within q d.names.list (slot, key) (subst (Within q) list w)

      pair_now : (q : ℕ × List ℕ) → Within q d.names.list → Within q m.names.list
      pair_now q w = subst (Within q) (sym list) (within_front q d.names.list ((slot, key) ∷ []) w)

      pair_new : Within (slot, key) m.names.list
      pair_new = subst (Within (slot, key)) (sym list) (within_last (slot, key) d.names.list)

      there : slot < length d.roots.items
      there = let z = k.directory.sized in omega arith

      directory : IsDirectory (directory_in m)
      directory = record {
        keys = subst KeysOnce (sym list) (keys_push d.names.list slot key k.directory.keys new);
        slots = subst SlotsOnce (sym list) (slots_push d.names.list slot key k.directory.slots (λ n w. free (n, w)));
        sized = sized;
        rooted = λ s h. ⊎_elim
            (λ (w : Within (s, h.0) d.names.list). some_now s (k.directory.rooted s (h.0, w)))
            (λ (e : (slot, key) ≡ (s, h.0)). subst IsSome (sym (ap (λ (n : ℕ). get_or m.roots.items n None) (sym (ap (λ (q : ℕ × List ℕ). q.0) e)) ∙ ap (λ (xs : List (Option TagParts)). get_or xs slot None) roots ∙ get_or-set_same d.roots.items slot (Some t) None there)) refl)
            (pair_before (s, h.0) h.1);
        bound = λ s h. ⊎_elim
            (λ (e : s ≡ slot). subst (λ (n : ℕ). IsBound n (directory_in m)) (sym e) (key, pair_new))
            (λ g. let z = k.directory.bound s g in (z.0, pair_now (s, z.0) z.1))
            (some_before s h);
      }

      counted : sum_by one_for m.roots.items ≡ length m.names.list
      counted =
          let none = none_zero (get_or d.roots.items slot None) (unrooted slot free) in
          let z = sum there in
          let y = k.counted in
          let x = ap length list ∙ length-append d.names.list ((slot, key) ∷ []) in
          omega arith

      pub entered_kept : m.names.most ≡ d.names.most → m.low ≤ length m.roots.items → (m.low < length m.roots.items → get_or m.roots.items m.low None ≡ None) → ((s : ℕ) → s < m.low → IsSome (get_or m.roots.items s None)) → IsDirectoryKept m
      entered_kept most low first below = record {
        directory = directory;
        room = most ∙ k.room ∙ ap (λ (p : Pool). p.slots) (sym pool);
        counted = counted;
        low = let z = sized in omega arith;
        free = λ h. first (let z = sized in omega arith);
        below = below;
      }

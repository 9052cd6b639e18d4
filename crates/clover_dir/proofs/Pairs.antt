-- The bindings of a list as pairs of slot and key.
use Prim.Native.Nat.{zero, suc}
use Rattle.std.proofs.Common.{◌≡◌, ℕ, ◌<◌, List, [], ◌∷◌, ◌++◌, length, length-append, get_or, refl, sym, ap, ◌∙◌, ⊎_elim, inl, inr, arith, subst}
use Rattle.std.specs.Prelude.{◌≤◌, Some, insert, vec_capacity}
use Rattle.std.proofs.lemmas.List.{get_or_default}
use Rattle.clover_rule.specs.Lists.{nth, Within}
use Rattle.clover_rule.specs.Names.{KeysOnce}
use Rattle.clover_dir.specs.Bindings.{pair_of, pairs_of}
use Rattle.clover_dir.specs.Index.{no_binding, head_of, position_in, IsIndex, IsPlaceOf, IsGapFor}
use Rattle.clover_dir.specs.Kept.{names_in, AreNamesKept}
use Rattle.clover_dir.specs.Names.{NameList, IsNameList, IsNew}
use Rattle.clover_dir.specs.declared.names.Names.TheInside.{Inside}
use Rattle.clover_dir.specs.declared.binding.Binding.{Binding}
use Rattle.clover_dir.proofs.Searching.{gap_lacks, one_position, more, index_with}

-- a pair that stands among those of a list is that of some position, and the other way round
pub pair_there : (list : List Binding) (q : ℕ × List ℕ) → Within q (pairs_of list) → (n : ℕ) × (n < length list) × (pair_of (get_or list n no_binding) ≡ q)
pair_there [] q w = absurd w
pair_there (b ∷ list) q w = ⊎_elim
    (λ (e : pair_of b ≡ q). (0, omega arith, e))
    (λ (r : Within q (pairs_of list)). let z = pair_there list q r in (suc z.0, (let y = z.1 in omega arith), z.2))
    w

pub pair_within : (list : List Binding) (n : ℕ) → n < length list → Within (pair_of (get_or list n no_binding)) (pairs_of list)
pair_within [] n h = absurd (omega arith)
pair_within (b ∷ list) zero h = inl refl
pair_within (b ∷ list) (suc n) h = inr (pair_within list n (omega arith))

-- the pair at a place
pair_at : (list : List Binding) (n : ℕ) (q : ℕ × List ℕ) → nth (pairs_of list) n ≡ Some q → (n < length list) × (pair_of (get_or list n no_binding) ≡ q)
pair_at [] n q e = absurd cc
pair_at (b ∷ list) zero q e = (omega arith, cc)
pair_at (b ∷ list) (suc n) q e = let z = pair_at list n q e in ((let y = z.0 in omega arith), z.1)

-- a list with an index has no key twice
pub keys_once : (list : List Binding) (order : List (ℕ × ℕ)) → IsIndex list order → KeysOnce (pairs_of list)
keys_once list order ix i j s s1 k e f =
    let a = pair_at list i (s, k) e in
    let b = pair_at list j (s1, k) f in
    one_position list order ix i j a.0 b.0 (ap (λ (q : ℕ × List ℕ). q.1) a.1 ∙ sym (ap (λ (q : ℕ × List ℕ). q.1) b.1))

pub pairs_push : (list : List Binding) (b : Binding) → pairs_of (list ++ b ∷ []) ≡ pairs_of list ++ pair_of b ∷ []
pairs_push [] b = refl
pairs_push (x ∷ list) b = ap (λ (l : List (ℕ × List ℕ)). pair_of x ∷ l) (pairs_push list b)

pub pairs_long : (list : List Binding) → length (pairs_of list) ≡ length list
pairs_long [] = refl
pairs_long (x ∷ list) = ap suc (pairs_long list)

-- what a list of names keeps is that its pairs are such a list
pub list_kept : (n : Inside) → AreNamesKept n → IsNameList (names_in n)
list_kept n k = record { once = keys_once n.list.items n.order.items k.index; fits = let z = pairs_long n.list.items in let y = k.fits in omega arith }

-- a look-up: the binding at a place of the index that has the key, and the only one with it; none where the key would go
module _ (n : Inside) (k : AreNamesKept n) (v : NameList) (is : names_in n ≡ v) (key : List ℕ) where
  pairs_is : pairs_of n.list.items ≡ v.list
  pairs_is = ap (λ (z : NameList). z.list) is

  -- the entry and the binding that were read
  module _ (i : ℕ) (place : IsPlaceOf n.list.items n.order.items key i) (q : ℕ × ℕ) (entry : q ≡ get_or n.order.items i q) (b : Binding) (read : b ≡ get_or n.list.items q.1 b) where
    inside : position_in n.order.items i < length n.list.items
    inside = k.index.inside i place.inside

    entry_is : q ≡ get_or n.order.items i (0, 0)
    entry_is = entry ∙ get_or_default n.order.items i q (0, 0) place.inside

    read_is : b ≡ get_or n.list.items (position_in n.order.items i) no_binding
    read_is = read ∙ ap (λ (z : ℕ × ℕ). get_or n.list.items z.1 b) entry_is ∙ get_or_default n.list.items (position_in n.order.items i) b no_binding inside

    key_is : b.key ≡ key
    key_is = ap (λ (z : Binding). z.key) read_is ∙ place.key_is

    pub found_there : Within (b.slot, key) v.list
    found_there = subst (Within (b.slot, key)) pairs_is
        (subst (λ (z : ℕ × List ℕ). Within z (pairs_of n.list.items)) (ap pair_of (sym read_is) ∙ ap (λ (z : List ℕ). (b.slot, z)) key_is) (pair_within n.list.items (position_in n.order.items i) inside))

    pub found_only : (slot : ℕ) → Within (slot, key) v.list → b.slot ≡ slot
    found_only slot w =
        let z = pair_there n.list.items (slot, key) (subst (Within (slot, key)) (sym pairs_is) w) in
        let same : z.0 ≡ position_in n.order.items i = one_position n.list.items n.order.items k.index z.0 (position_in n.order.items i) z.1 inside (ap (λ (y : ℕ × List ℕ). y.1) z.2 ∙ sym place.key_is) in
        ap (λ (y : Binding). y.slot) read_is ∙ ap (λ (m : ℕ). (get_or n.list.items m no_binding).slot) (sym same) ∙ ap (λ (y : ℕ × List ℕ). y.0) z.2

  pub gap_new : (i : ℕ) → IsGapFor n.list.items n.order.items key i → IsNew key v.list
  gap_new i gap slot w =
      let z = pair_there n.list.items (slot, key) (subst (Within (slot, key)) (sym pairs_is) w) in
      gap_lacks n.list.items n.order.items k.index key i gap z.0 z.1 (ap (λ (y : ℕ × List ℕ). y.1) z.2)

  -- a key that is new has no place in the index
  pub no_place : IsNew key v.list → (i : ℕ) → IsPlaceOf n.list.items n.order.items key i → ⊥
  no_place new i place =
      let p = position_in n.order.items i in
      new (get_or n.list.items p no_binding).slot (subst (Within ((get_or n.list.items p no_binding).slot, key)) pairs_is
      (subst (λ (z : List ℕ). Within ((get_or n.list.items p no_binding).slot, z) (pairs_of n.list.items)) place.key_is (pair_within n.list.items p (k.index.inside i place.inside))))

-- a list of names with a new binding behind it, whose entry stands in the gap of its key
pub pushed_kept : (n m : Inside) → AreNamesKept n → (v : NameList) → names_in n ≡ v → (slot : ℕ) (key : List ℕ) (i head position : ℕ) → IsGapFor n.list.items n.order.items key i → length v.list < v.most
    → m.list.items ≡ n.list.items ++ record { slot = slot; key = key } ∷ [] → m.order.items ≡ insert n.order.items i (head, position) → head ≡ head_of key → position ≡ length n.list.items
    → m.most ≡ n.most → vec_capacity n.list ≤ vec_capacity m.list → vec_capacity n.order ≤ vec_capacity m.order → AreNamesKept m
pushed_kept n m k v is slot key i head position gap room list order h p most list_room order_room =
    let longer : length v.list ≡ length n.list.items = ap (λ (z : NameList). length z.list) (sym is) ∙ pairs_long n.list.items in
    let least : v.most ≡ n.most = ap (λ (z : NameList). z.most) (sym is) in
    let long = ap length list ∙ length-append n.list.items (record { slot = slot; key = key } ∷ []) in record {
      fits = omega arith;
      list_room = let z = k.list_room in omega arith;
      order_room = let z = k.order_room in omega arith;
      index = subst (λ (l : List Binding). IsIndex l m.order.items) (sym list)
          (subst (IsIndex (more n.list.items n.order.items k.index slot key i gap)) (sym (order ∙ (λ t. insert n.order.items i (h t, p t)))) (index_with n.list.items n.order.items k.index slot key i gap));
    }

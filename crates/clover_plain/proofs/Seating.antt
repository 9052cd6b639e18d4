-- The seats, and the views in them.
use Rattle.std.proofs.Common.{◌≡◌, ◌≢◌, ℕ, zero, suc, ◌+◌, ◌<◌, ◌≤◌, List, [], ◌∷◌, length, set, get_or, replicate, take, ◌++◌, ◌⊎◌, inl, inr, refl, sym, ap, ◌∙◌, ⊎_elim, arith}
use Rattle.std.specs.Prelude.{Some}
use mathlib.Core.Option.{some, some-injective}
use lib.ListN.{get_elem?}
use Rattle.atomic_table.proofs.Lists.{at_set, at_index}
use Rattle.atomic_table.specs.declared.shared.Seat.{Seat}
use Rattle.atomic_table.specs.Seated.{TableId}
use Rattle.clover_map.specs.Tagged.{Tagged}
use Rattle.clover_rule.specs.Lists.{nth}
use Rattle.clover_rule.specs.declared.view.View.{View}
use Rattle.clover_plain.specs.Kept.{view_of, views_of, AllFit}
use Rattle.clover_plain.specs.Plain.{first_of, used_of}

abbrev pub S : Type 0
S = Seat (Unit {0}) View

pub views_of-set : (seats : List S) (i : ℕ) (s : S) → views_of (set seats i s) ≡ set (views_of seats) i (view_of s)
views_of-set [] i s = refl
views_of-set (x ∷ xs) zero s = refl
views_of-set (x ∷ xs) (suc i) s = ap (λ l. view_of x ∷ l) (views_of-set xs i s)

-- the view of the seat at a place
pub view_here : (seats : List S) (i : ℕ) (s : S) → i < length seats → s ≡ get_or seats i s → nth (views_of seats) i ≡ Some (view_of s)
view_here [] i s below is = absurd (omega arith)
view_here (x ∷ xs) zero s below is = ap (λ (z : S). Some (view_of z)) (sym is)
view_here (x ∷ xs) (suc i) s below is = view_here xs i s (omega arith) is

pub fit_set : (z : TableId) (seats : List S) (i : ℕ) (s : S) → AllFit z seats → s.table_id ≡ z → AllFit z (set seats i s)
fit_set z seats i s all fits j u e = ⊎_elim (λ (x : (j ≡ i) × (s ≡ u)). ap (λ (y : S). y.table_id) (sym x.1) ∙ fits) (λ (x : (j ≢ i) × (get_elem? seats j ≡ some u)). all j u x.1) (at_set seats i j s u e)

pub fit_at : (z : TableId) (seats : List S) (i : ℕ) (s : S) → AllFit z seats → i < length seats → s ≡ get_or seats i s → s.table_id ≡ z
fit_at z seats i s all below is = all i s (at_index seats i s below is)

pub length_views : (seats : List S) → length (views_of seats) ≡ length seats
length_views [] = refl
length_views (x ∷ xs) = ap suc (length_views xs)

-- one more seat
pub views_more : (seats : List S) (s : S) → views_of (seats ++ s ∷ []) ≡ views_of seats ++ view_of s ∷ []
views_more [] s = refl
views_more (x ∷ xs) s = ap (λ (l : List View). view_of x ∷ l) (views_more xs s)

pub replicate_more : (n : ℕ) (v : View) → replicate n v ++ v ∷ [] ≡ replicate (suc n) v
replicate_more zero v = refl
replicate_more (suc n) v = ap (λ (l : List View). v ∷ l) (replicate_more n v)

at_more : (seats : List S) (s u : S) (i : ℕ) → get_elem? (seats ++ s ∷ []) i ≡ some u → (get_elem? seats i ≡ some u) ⊎ (s ≡ u)
at_more [] s u zero e = inr (some-injective s u e)
at_more [] s u (suc i) e = inl e
at_more (x ∷ xs) s u zero e = inl e
at_more (x ∷ xs) s u (suc i) e = at_more xs s u i e

pub fit_more : (z : TableId) (seats : List S) (s : S) → AllFit z seats → s.table_id ≡ z → AllFit z (seats ++ s ∷ [])
fit_more z seats s all fits i u e = ⊎_elim (λ q. all i u q) (λ q. ap (λ (y : S). y.table_id) (sym q) ∙ fits) (at_more seats s u i e)

pub nth_replicate : (n i : ℕ) (v w : View) → nth (replicate n v) i ≡ Some w → w ≡ v
nth_replicate zero i v w e = absurd cc
nth_replicate (suc n) zero v w e = cc
nth_replicate (suc n) (suc i) v w e = nth_replicate n i v w e

pub zero_replicate : (n i : ℕ) → get_or {A = ℕ} (replicate n 0) i 0 ≡ 0
zero_replicate zero i = refl
zero_replicate (suc n) zero = refl
zero_replicate (suc n) (suc i) = zero_replicate n i

pub length_seats : (seats : List S) (n : ℕ) (v : View) → views_of seats ≡ replicate n v → length seats ≡ n
length_seats seats n v e = sym (length_views seats) ∙ ap length e ∙ length_copies n v
  where
    length_copies : (n : ℕ) (v : View) → length (replicate n v) ≡ n
    length_copies zero v = refl
    length_copies (suc n) v = ap suc (length_copies n v)

pub length_more : (seats : List S) (s : S) → length (seats ++ s ∷ []) ≡ length seats + 1
length_more [] s = refl
length_more (x ∷ xs) s = let z = length_more xs s in omega arith

-- the last of a list
pub at_end : {A : Type 0} (xs : List A) (x : A) → nth (xs ++ x ∷ []) (length xs) ≡ Some x
at_end [] x = refl
at_end (y ∷ xs) x = at_end xs x

-- a list with others behind it
pub at_front : {A : Type 0} (xs ys : List A) (i : ℕ) (x : A) → nth xs i ≡ Some x → nth (xs ++ ys) i ≡ Some x
at_front [] ys i x e = absurd cc
at_front (y ∷ xs) ys zero x e = e
at_front (y ∷ xs) ys (suc i) x e = at_front xs ys i x e

pub set_front : {A : Type 0} (xs ys : List A) (i : ℕ) (x : A) → i < length xs → set (xs ++ ys) i x ≡ set xs i x ++ ys
set_front [] ys i x h = absurd (omega arith)
set_front (y ∷ xs) ys zero x h = refl
set_front (y ∷ xs) ys (suc i) x h = ap (λ (l : List _). y ∷ l) (set_front xs ys i x (omega arith))

-- a renewed view of the same run
pub first_set : (vs : List View) (i : ℕ) (w : View) → ((v : View) → nth vs i ≡ Some v → w.pass.map ≡ v.pass.map) → first_of (set vs i w) ≡ first_of vs
first_set [] i w h = refl
first_set (v ∷ vs) zero w h = h v refl
first_set (v ∷ vs) (suc i) w h = refl

pub used_set : (vs : List View) (i : ℕ) (w : View) → ((v : View) → nth vs i ≡ Some v → w.pass.used ≡ v.pass.used) → used_of (set vs i w) ≡ used_of vs
used_set [] i w h = refl
used_set (v ∷ vs) zero w h = h v refl
used_set (v ∷ vs) (suc i) w h = refl

-- views of one run, of which there is one
pub first_there : (vs : List View) (f : Tagged) → 0 < length vs → ((i : ℕ) (v : View) → nth vs i ≡ Some v → v.pass.map ≡ f) → first_of vs ≡ f
first_there [] f h e = absurd (omega arith)
first_there (v ∷ vs) f h e = e 0 v refl

pub used_there : (vs : List View) (u : List ℕ) → 0 < length vs → ((i : ℕ) (v : View) → nth vs i ≡ Some v → v.pass.used ≡ u) → used_of vs ≡ u
used_there [] u h e = absurd (omega arith)
used_there (v ∷ vs) u h e = e 0 v refl

-- seats of which those behind some place were given up
pub fit_take : (z : TableId) (seats : List S) (n : ℕ) → AllFit z seats → AllFit z (take n seats)
fit_take z seats n all i s e = all i s (at_take seats n i s e)
  where
    at_take : (seats : List S) (n i : ℕ) (s : S) → get_elem? (take n seats) i ≡ some s → get_elem? seats i ≡ some s
    at_take seats zero i s e = absurd cc
    at_take [] (suc n) i s e = e
    at_take (x ∷ xs) (suc n) zero s e = e
    at_take (x ∷ xs) (suc n) (suc i) s e = at_take xs n i s e

pub length_take : (seats : List S) (n : ℕ) → n ≤ length seats → length (take n seats) ≡ n
length_take seats zero h = refl
length_take [] (suc n) h = absurd (omega arith)
length_take (x ∷ xs) (suc n) h = ap suc (length_take xs n (omega arith))

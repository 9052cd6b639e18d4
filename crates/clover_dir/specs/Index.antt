-- The index of a list of bindings: the positions of its bindings in the order of their keys, each with the head of its key.
use Rattle.std.specs.Prelude.{◌≡◌, ℕ, ◌<◌, ◌≤◌, List, [], length, slice_get, slice_index_or, Option, Some, None}
use Rattle.std.specs.Ordering.{nat_cmp, ordering_then}
use Rattle.std.specs.Cmp.Lexicographic.{slice_cmp}
use Rattle.std.specs.declared.cmp.Ordering.{Ordering}
use Rattle.std.specs.declared.cmp.Ordering.TheVariants.{Less, Greater}
use Rattle.clover_words.specs.Pack.{packed}
use Rattle.clover_dir.specs.declared.binding.Binding.{Binding}

-- a binding for places past a list's end
abbrev pub no_binding : Binding
no_binding = record { slot = 0; key = [] }

-- the first eight bytes of a key as a number, and the order of keys: by their heads, and then by their bytes
abbrev pub head_of : List ℕ → ℕ
head_of key = packed key 0

abbrev pub key_cmp : List ℕ → List ℕ → Ordering
key_cmp a b = ordering_then (nat_cmp (head_of a) (head_of b)) (slice_cmp nat_cmp a b)

-- the key of the binding at a position of the list
abbrev pub key_at : List Binding → ℕ → List ℕ
key_at list n = let b = slice_index_or list n no_binding in b.key

-- the head and the position at a place of the index, and the key there
abbrev pub head_in : List (ℕ × ℕ) → ℕ → ℕ
head_in order i = let q = slice_index_or order i (0, 0) in q.0

abbrev pub position_in : List (ℕ × ℕ) → ℕ → ℕ
position_in order i = let q = slice_index_or order i (0, 0) in q.1

abbrev pub key_in : List Binding → List (ℕ × ℕ) → ℕ → List ℕ
key_in list order i = key_at list (position_in order i)

-- each position of the list stands in the index once, with the head of its key, and the keys rise
pub record IsIndex (list : List Binding) (order : List (ℕ × ℕ)) : Type 0 where
  pub size : length order ≡ length list
  pub inside : (i : ℕ) → i < length order → position_in order i < length list
  pub heads : (i : ℕ) → i < length order → head_in order i ≡ head_of (key_in list order i)
  pub rises : (i j : ℕ) → i < j → j < length order → key_cmp (key_in list order i) (key_in list order j) ≡ Less
  pub listed : (n : ℕ) → n < length list → (i : ℕ) × (i < length order) × (position_in order i ≡ n)

-- how the key of an entry of the index compares with a key; a position past the list's end comes behind
abbrev pub cmp_at : List ℕ → Option Binding → Ordering
cmp_at key None = Greater
cmp_at key (Some b) = slice_cmp nat_cmp b.key key

abbrev pub compared : List Binding → List ℕ → ℕ × ℕ → Ordering
compared list key q = ordering_then (nat_cmp q.0 (head_of key)) (cmp_at key (slice_get list q.1))

-- the key is that of a place of the index; or it would go there: the keys before the place are below it, and those from it on above it
pub record IsPlaceOf (list : List Binding) (order : List (ℕ × ℕ)) (key : List ℕ) (i : ℕ) : Type 0 where
  pub inside : i < length order
  pub key_is : key_in list order i ≡ key

pub record IsGapFor (list : List Binding) (order : List (ℕ × ℕ)) (key : List ℕ) (i : ℕ) : Type 0 where
  pub inside : i ≤ length order
  pub before : (j : ℕ) → j < i → key_cmp (key_in list order j) key ≡ Less
  pub behind : (j : ℕ) → i ≤ j → j < length order → key_cmp key (key_in list order j) ≡ Less

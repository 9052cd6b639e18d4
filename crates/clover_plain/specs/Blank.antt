-- The numbers of a list that begins with zeros, from its banks.
use Rattle.std.specs.Prelude.{ℕ, ◌/◌, ◌%◌, List, [], map, slice_index, slice_index_or}
use Rattle.std.specs.List.{range_with_len}

-- the number at a place; what no bank has is 0
abbrev pub number_at : List (List ℕ) → ℕ → ℕ
number_at banks i = slice_index (slice_index_or banks (i / 32768) []) (i % 32768)

-- so many of them
abbrev pub numbers_of : List (List ℕ) → ℕ → List ℕ
numbers_of banks size = map (number_at banks) (range_with_len 0 size)

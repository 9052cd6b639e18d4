-- what reading takes from a source
use Rattle.std.specs.Prelude.{◌≡◌, ℕ, ◌+◌, ◌≤◌, List, ◌++◌, length, Option}
use Rattle.std.specs.Io.KnownBytes.{Consumes, IsAtEnd}

-- the most bytes that an input may have
abbrev pub input_limit : ℕ
input_limit = 16777216

-- The source was read to its end; this is what it gave.
pub record Reads (left after : Option (List ℕ)) (text : List ℕ) : Type 0 where
  pub taken : Consumes left after text
  pub ended : IsAtEnd after
  pub short : length text ≤ input_limit

-- At most one byte more than an input may have was taken.
pub record TakesFew (left after : Option (List ℕ)) : Type 0 where
  pub bytes : List ℕ
  pub few : length bytes ≤ input_limit + 1
  pub taken : Consumes left after bytes

-- As many bytes as an input may have were taken, and one more.
pub record TakesMore (left after : Option (List ℕ)) : Type 0 where
  pub bytes : List ℕ
  pub many : length bytes ≡ input_limit + 1
  pub taken : Consumes left after bytes

-- As many bytes as the call said were moved behind those that were there, none only at the end.
pub record Gets (left after : Option (List ℕ)) (old new : List ℕ) (count : ℕ) : Type 0 where
  pub got : List ℕ
  pub many : length got ≡ count
  pub grown : new ≡ old ++ got
  pub taken : Consumes left after got
  pub ended : count ≡ 0 → IsAtEnd after

-- which texts are scripts, and which line of a text that is none is the first that is not built
use Rattle.std.specs.Prelude.{◌≡◌, ℕ, ◌+◌, ◌⊎◌, List, [], ◌∷◌, ◌++◌, length, All}
use Rattle.clover_words.specs.declared.setup.Setup.{Setup}
use Rattle.clover_script.specs.Line.{lines_of, pool_line, numbers_of, IsPoolLine, IsBadPool, IsIgnored, Spoken, IsSpoken, line_text}

-- The lines say this, where those that are passed over say nothing.
abbrev pub Say : List (List ℕ) → List Spoken → Type 0
Say [] said = said ≡ []
Say (line ∷ lines) said =
    (IsIgnored line × Say lines said)
    ⊎ ((s : Spoken) × (rest : List Spoken) × IsSpoken s × (line ≡ line_text s) × (said ≡ s ∷ rest) × Say lines rest)

-- The lines are some that are passed over, a pool line, and then lines that say this.
pub record Opens (lines : List (List ℕ)) (s : Setup) (said : List Spoken) : Type 0 where
  pub over : List (List ℕ)
  pub rest : List (List ℕ)
  pub parts : lines ≡ over ++ pool_line (numbers_of s) ∷ rest
  pub ignored : All IsIgnored over
  pub say : Say rest said

-- a line behind the pool line is built: it is passed over, or says something
abbrev pub IsBuilt : List ℕ → Type 0
IsBuilt line = IsIgnored line ⊎ ((s : Spoken) × IsSpoken s × (line ≡ line_text s))

-- what stands before a line: no pool line so far, or a pool line and what the lines behind it say
pub data Before : Type 0 where
  unopened : Before
  begun : Setup → List Spoken → Before

-- The lines are what stands before: all are passed over, or they open and go on so.
abbrev pub IsBefore : List (List ℕ) → Before → Type 0
IsBefore lines unopened = All IsIgnored lines
IsBefore lines (begun s said) = Opens lines s said

-- The text is a script of this setup, and its lines say this.
abbrev pub IsLinesOf : List ℕ → Setup → List Spoken → Type 0
IsLinesOf text s said = IsBefore (lines_of text) (begun s said)

-- The four things that make a line one that is not built.

-- it says something
abbrev pub IsSaidLine : List ℕ → Type 0
IsSaidLine line = (s : Spoken) × IsSpoken s × (line ≡ line_text s)

-- it has none of the forms
pub record HasNoShape (line : List ℕ) : Type 0 where
  pub over : IsIgnored line → ⊥
  pub pool : IsPoolLine line → ⊥
  pub said : IsSaidLine line → ⊥

-- it says something, with no pool line before it
abbrev pub IsTooEarly : Before → List ℕ → Type 0
IsTooEarly unopened line = IsSaidLine line
IsTooEarly (begun s said) line = ⊥

-- it is the first pool line, and a number is out of range
abbrev pub OpensBadly : Before → List ℕ → Type 0
OpensBadly unopened line = IsBadPool line
OpensBadly (begun s said) line = ⊥

-- it is a second pool line
abbrev pub OpensAgain : Before → List ℕ → Type 0
OpensAgain unopened line = ⊥
OpensAgain (begun s said) line = IsPoolLine line

-- The line is not built behind what stands before it, for one of the four.
pub data IsUnbuiltLine (before : Before) (line : List ℕ) : Type 0 where
  without_shape : HasNoShape line → IsUnbuiltLine before line
  too_early : IsTooEarly before line → IsUnbuiltLine before line
  bad_opening : OpensBadly before line → IsUnbuiltLine before line
  second_opening : OpensAgain before line → IsUnbuiltLine before line

-- Line n of the text, where lines that are passed over count, is the first that is not built.
pub record IsFirstUnbuiltLine (text : List ℕ) (n : ℕ) : Type 0 where
  pub before : Before
  pub lines : List (List ℕ)
  pub line : List ℕ
  pub more : List (List ℕ)
  pub parts : lines_of text ≡ lines ++ line ∷ more
  pub so_far : IsBefore lines before
  pub bad : IsUnbuiltLine before line
  pub number : n ≡ length lines + 1

-- Line n is refused: it is the first that is not built, or there is no pool line in a text of n - 1 lines
-- that are passed over.
abbrev pub IsRefusedLine : List ℕ → ℕ → Type 0
IsRefusedLine text n = IsFirstUnbuiltLine text n ⊎ (All IsIgnored (lines_of text) × (n ≡ length (lines_of text) + 1))

-- which scripts are not run, since no run has power cuts yet
use Rattle.std.specs.Prelude.{◌≡◌, ℕ, ◌+◌, ◌≤◌, ◌⊎◌, List, ◌∷◌, ◌++◌, length, All}
use Rattle.clover_script.specs.Line.{lines_of, IsLineOfCuts}
use Rattle.clover_script.specs.Lines.{IsRefusedLine}

-- the line asks for no power cut, and for no image of one
abbrev pub IsUncut : List ℕ → Type 0
IsUncut line = IsLineOfCuts line → ⊥

-- no line of the text does
abbrev pub HasNoCuts : List ℕ → Type 0
HasNoCuts text = All IsUncut (lines_of text)

-- Line n of the text, where all lines count, does.
pub record CutsAt (text : List ℕ) (n : ℕ) : Type 0 where
  pub before : List (List ℕ)
  pub line : List ℕ
  pub more : List (List ℕ)
  pub parts : lines_of text ≡ before ++ line ∷ more
  pub cuts : IsLineOfCuts line
  pub number : n ≡ length before + 1

-- line n stands against a run of the text: the text is refused there, or asks there for a power cut or the image of one
abbrev pub StandsAgainst : List ℕ → ℕ → Type 0
StandsAgainst text n = IsRefusedLine text n ⊎ CutsAt text n

-- line n is the first that does
abbrev pub IsTurnedDown : List ℕ → ℕ → Type 0
IsTurnedDown text n = StandsAgainst text n × ((m : ℕ) → StandsAgainst text m → n ≤ m)

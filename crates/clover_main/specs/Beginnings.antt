-- the records of a beginning of a run of some lines
use Rattle.std.specs.Prelude.{◌≡◌, ◌⊎◌, List, [], ◌∷◌, ◌++◌}
use Rattle.clover_script.specs.declared.line.Line.{Line}
use Rattle.clover_run.specs.Lines.{Covers}
use Rattle.clover_run.specs.Record.{Record}
use Rattle.clover_run.specs.Running.{IsPartOrAll}

-- nothing, or a part of what the first line stands for
abbrev pub IsBegun : List Line → List Record → List Record → Type 0
IsBegun [] before rs = rs ≡ []
IsBegun (l ∷ ls) before rs = (rs ≡ []) ⊎ IsPartOrAll l before rs

-- The lines stand for these records, and maybe for more behind them.
pub record CoversFront (lines : List Line) (rs : List Record) : Type 0 where
  pub done : List Line
  pub rest : List Line
  pub before : List Record
  pub part : List Record
  pub split : lines ≡ done ++ rest
  pub all : rs ≡ before ++ part
  pub covers : Covers done [] before
  pub begun : IsBegun rest before part

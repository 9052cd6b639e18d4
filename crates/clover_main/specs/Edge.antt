-- standard input and output, as their callers see them
use Rattle.std.specs.Prelude.{ℕ}

-- a reader or a writer, and how often a call of it has failed
pub record Counted (A : Type 0) : Type 0 where
  pub inner : A
  pub faults : ℕ

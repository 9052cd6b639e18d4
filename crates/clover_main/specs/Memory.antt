-- a source and a sink in memory, as their callers see them
use Rattle.std.specs.Prelude.{ℕ, ◌+◌, ◌-◌, ◌^◌, min, List}

-- a count after one more: at its last value it stands still
abbrev pub raised : ℕ → ℕ
raised n = min (n + 1) (2 ^ 64 - 1)

-- the bytes left, the numbers of the calls that fail, and how many calls and faults there were
pub record MemoryInput : Type 0 where
  pub left : List ℕ
  pub failing : List ℕ
  pub calls : ℕ
  pub faults : ℕ

-- the bytes taken, how many more there is room for, the numbers of the calls that fail, and how many calls and faults there were
pub record MemoryOutput : Type 0 where
  pub taken : List ℕ
  pub room : ℕ
  pub failing : List ℕ
  pub calls : ℕ
  pub faults : ℕ

-- counts of faults, and what a failed call did to the bytes that a sink took
use Rattle.std.specs.Prelude.{◌≡◌, ℕ, ◌≤◌, ◌⊎◌, List, ◌++◌, Option, Result, OnOk, OnErr, IsErrOf}
use Rattle.std.specs.Io.KnownBytes.{Appends}
use Rattle.clover_port.specs.Told.{Rose}
use Rattle.clover_main.specs.declared.output.Stop.{Stop}
use Rattle.clover_main.specs.declared.output.Stop.TheVariants.{Write}

-- a count never falls, rises where a call fails, and stays where none does
pub record HasCause {T E : Type 0} (before now : ℕ) (result : Result T E) : Type 0 where
  pub later : before ≤ now
  pub failed : OnErr result (Rose before now)
  pub kept : OnOk result (now ≡ before)

-- a count never falls, rises where a run is cut short at a failed write, and stays where it goes on
pub record HasStopCause {T : Type 0} (before now : ℕ) (result : Result T Stop) : Type 0 where
  pub later : before ≤ now
  pub failed : IsErrOf result Write → Rose before now
  pub kept : OnOk result (now ≡ before)

-- the known bytes grew by a front of these
abbrev pub AppendsFront : Option (List ℕ) → Option (List ℕ) → List ℕ → Type 0
AppendsFront old new piece = (front rest : List ℕ) × (piece ≡ front ++ rest) × Appends old new front

-- the sink took the whole line, or a front of it where its count rose
abbrev pub Writes : Option (List ℕ) → Option (List ℕ) → ℕ → ℕ → List ℕ → Type 0
Writes taken now before faults line = Appends taken now line ⊎ (AppendsFront taken now line × Rose before faults)

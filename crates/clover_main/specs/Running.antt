-- output that goes to a sink in pieces, and what a part of a script made and said
use Prim.Native.Nat.{suc}
use Rattle.std.specs.Prelude.{◌≡◌, ◌⊎◌, ℕ, Bool, List, [], ◌++◌, flat_map, Option, Some, None}
use Rattle.std.specs.Io.KnownBytes.{Appends}
use Rattle.clover_script.specs.Line.{IsLineOf, IsNoLine}
use Rattle.clover_script.specs.declared.line.Line.{Line}
use Rattle.clover_run.specs.Lines.{CoversLine, Covers}
use Rattle.clover_run.specs.Machine.{Parts, Continues, IsAt}
use Rattle.clover_run.specs.Record.{Record}
use Rattle.clover_run.specs.Run.{Opening}
use Rattle.clover_run.specs.Text.{said}
use Rattle.clover_run.specs.declared.runner.Advance.{Advance}
use Rattle.clover_run.specs.declared.runner.Work.{Work}
use Rattle.clover_run.specs.Running.{IsPartOrAll, steps_left}
use Rattle.clover_main.specs.Causes.{AppendsFront}
use Rattle.clover_main.specs.Hearing.{Heard}
use Rattle.clover_run.specs.Lawful.{IsLawful}
use Rattle.clover_main.specs.declared.output.Stop.{Stop}
use Rattle.clover_main.specs.declared.output.Stop.TheVariants.{Memory, Write}

-- The text was put behind what waits; a front of both went to the sink, and the rest waits.
pub record Says (taken now : Option (List ℕ)) (wait waits text : List ℕ) : Type 0 where
  pub piece : List ℕ
  pub put : Appends taken now piece
  pub all : wait ++ text ≡ piece ++ waits

-- how much of a text was put where a run stopped: at a failed write a front, for want of memory all that was said
abbrev pub Puts : Stop → Option (List ℕ) → Option (List ℕ) → List ℕ → Type 0
Puts Write taken now text = AppendsFront taken now text
Puts Memory taken now text = Appends taken now text

-- how much of what waits and of the end of a run's text was put where the run stopped there: for want of memory all that waits
abbrev pub PutsEnding : Stop → Option (List ℕ) → Option (List ℕ) → List ℕ → List ℕ → Type 0
PutsEnding Write taken now wait end = AppendsFront taken now (wait ++ end)
PutsEnding Memory taken now wait end = Appends taken now wait

-- Behind the records rs more were made, of this kind, and what they print was said; the machine stands behind them.
pub record Ran (o : Opening) (t : Bool) (rs : List Record) (n : Parts) (taken now : Option (List ℕ)) (wait waits : List ℕ) (Is : List Record → Type 0) : Type 0 where
  pub more : List Record
  pub kind : Is more
  pub at : IsAt o n (rs ++ more)
  pub says : Says taken now wait waits (flat_map (said t) more)

-- Behind the records rs more were made, of this kind, and then the run stopped, and of what waits and what they print as much was put as the stop says.
pub record Fails (o : Opening) (t : Bool) (rs : List Record) (stop : Stop) (taken now : Option (List ℕ)) (wait : List ℕ) (Is : List Record → Type 0) : Type 0 where
  pub more : List Record
  pub kind : Is more
  pub lawful : IsLawful o (rs ++ more)
  pub puts : Puts stop taken now (wait ++ flat_map (said t) more)

-- The machine went on so: behind any records behind which it stood more were made, which with those before are of this kind, and what they print was said.
pub record Runs (m n : Parts) (taken now : Option (List ℕ)) (wait waits : List ℕ) (Is : List Record → List Record → Type 0) : Type 0 where
  pub goes_on : Continues m n
  pub ran : (o : Opening) (rs : List Record) → IsAt o m rs → Ran o m.pool.traced rs n taken now wait waits (Is rs)

-- the machine stopped so, behind any records behind which it stood
abbrev pub Stops : Parts → Stop → Option (List ℕ) → Option (List ℕ) → List ℕ → (List Record → List Record → Type 0) → Type 0
Stops m stop taken now wait Is = (o : Opening) (rs : List Record) → IsAt o m rs → Fails o m.pool.traced rs stop taken now wait (Is rs)

-- the steps that an event left, if there was one
abbrev pub left_of : Option Advance → Option Work
left_of None = None
left_of (Some x) = Some x.left

-- more than the steps that may still be made, or nothing
abbrev pub most_steps : Parts → Option Work → ℕ
most_steps m None = 0
most_steps m (Some w) = suc (steps_left m w)

-- a text that is no line stands for no records, and one that is for those of its line
abbrev pub IsSaidBy : List ℕ → List Record → List Record → Type 0
IsSaidBy text before more = (IsNoLine text × (more ≡ [])) ⊎ ((line : Line) × IsLineOf text line × CoversLine line before more)

-- no records, or a part or all of those of the text's line
abbrev pub IsPartOfSaid : List ℕ → List Record → List Record → Type 0
IsPartOfSaid text before more = (more ≡ []) ⊎ ((line : Line) × IsLineOf text line × IsPartOrAll line before more)

-- The first of the lines were run, and the rest is what these texts say.
pub record Reaches (o : Opening) (t : Bool) (lines : List Line) (texts : List (List ℕ)) (n : Parts) (taken now : Option (List ℕ)) (wait waits : List ℕ) : Type 0 where
  pub done : List Line
  pub todo : List Line
  pub split : lines ≡ done ++ todo
  pub heard : Heard texts todo
  pub ran : Ran o t [] n taken now wait waits (Covers done [])

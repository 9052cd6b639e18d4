-- Running a line over a machine, one event at a time: what is left of a line behind some records, and what it came to next.
use Rattle.std.specs.Prelude.{◌≡◌, ◌≤◌, ◌⊎◌, ℕ, List, [], ◌∷◌, ◌++◌, length, All, Option, Some, None}
use Rattle.clover_script.specs.declared.line.Line.{Line}
use Rattle.clover_script.specs.declared.line.Line.TheVariants as line
use Rattle.clover_script.specs.declared.line.Task.{Task}
use Rattle.clover_event.specs.declared.event.Event.TheVariants.{Begin, Step}
use Rattle.clover_run.specs.declared.event.Note.{Note}
use Rattle.clover_run.specs.declared.event.Note.TheVariants.{Quiet, Waits}
use Rattle.clover_run.specs.declared.runner.Advance.{Advance}
use Rattle.clover_run.specs.declared.runner.Work.{Work}
use Rattle.clover_run.specs.declared.runner.Work.TheVariants.{Steps, Finish}
use Rattle.clover_run.specs.Lines.{Works, CoversLine}
use Rattle.clover_run.specs.Machine.{Parts, Continues, MayCome, IsAt}
use Rattle.clover_run.specs.Record.{Record}
use Rattle.clover_run.specs.Left.{left}
use Rattle.clover_run.specs.Run.{Opening}

-- nothing, or a begin and then steps of an actor that has a task, of which one that only waits is the last
abbrev pub BeginsCall : ℕ → Task → List Record → List Record → Type 0
BeginsCall a t before rs = (rs ≡ []) ⊎ ((first : Record) × (more : List Record) × (rs ≡ first ∷ more) × (first.event ≡ Begin a t) × Works a (before ++ first ∷ []) more)

-- these records begin those for which the line stands
abbrev pub IsPartOf : Line → List Record → List Record → Type 0
IsPartOf (line.Begin a t) before rs = rs ≡ []
IsPartOf (line.Step a n) before rs = All (λ (r : Record). r.event ≡ Step a) rs × (length rs ≤ n)
IsPartOf (line.Finish a) before rs = Works a before rs
IsPartOf (line.Call a t) before rs = BeginsCall a t before rs
IsPartOf (line.Refuse a) before rs = rs ≡ []
IsPartOf (line.Cut choice more) before rs = rs ≡ []
IsPartOf (line.Image choice) before rs = rs ≡ []

abbrev pub IsPartOrAll : Line → List Record → List Record → Type 0
IsPartOrAll l before rs = IsPartOf l before rs ⊎ CoversLine l before rs

-- the line that asks for these steps
abbrev pub steps_line : Work → Line
steps_line (Steps a n) = line.Step a n
steps_line (Finish a) = line.Finish a

-- how many steps may still be made
abbrev pub steps_left : Parts → Work → ℕ
steps_left m (Steps a n) = n
steps_left m (Finish a) = left m a

-- Behind these records this is left of the line: with what that stands for, or with a part of it, they are what the line stands for, or a part.
pub record Leaves (l : Line) (w : Work) (before more : List Record) : Type 0 where
  pub all : (rs : List Record) → CoversLine (steps_line w) (before ++ more) rs → CoversLine l before (more ++ rs)
  pub part : (rs : List Record) → IsPartOf (steps_line w) (before ++ more) rs → IsPartOrAll l before (more ++ rs)

-- these steps of the line are left, or nothing
abbrev pub IsLeft : Line → Option Work → List Record → List Record → Type 0
IsLeft l None before more = CoversLine l before more
IsLeft l (Some w) before more = Leaves l w before more

-- an event of no access, entry, or line to print: nothing happens, or it only waits
abbrev pub IsUnsaid : Note → Type 0
IsUnsaid Quiet = Unit {0}
IsUnsaid Waits = Unit {0}
IsUnsaid note = ⊥

pub record IsSilent (r : Record) : Type 0 where
  pub access : r.access ≡ None
  pub entry : r.entry ≡ None
  pub unsaid : IsUnsaid r.note

-- an event that came to this note, behind which these steps of the line are left; or all that was left of it, without an access or a line to print
abbrev pub Comes : Line → Option Advance → List Record → List Record → Type 0
Comes l None before more = CoversLine l before more × All IsSilent more
Comes l (Some x) before more = (r : Record) × (more ≡ r ∷ []) × (r.note ≡ x.note) × Leaves l x.left before more

-- the first event of the line may come: it asks something of an actor, and a task that is begun is one of its actor's
abbrev pub MayRun : Line → Type 0
MayRun (line.Begin a t) = MayCome (Begin a t)
MayRun (line.Call a t) = MayCome (Begin a t)
MayRun (line.Cut choice more) = ⊥
MayRun (line.Image choice) = ⊥
MayRun l = Unit {0}

-- The machine went on by the next event of the line, or by all that was left of it: behind any records behind which it stood it stands behind these too.
pub record Advances (m n : Parts) (l : Line) (came : Option Advance) : Type 0 where
  pub ran : (o : Opening) (rs : List Record) → IsAt o m rs → (more : List Record) × IsAt o n (rs ++ more) × Comes l came rs more
  pub goes_on : Continues m n

-- For which records the lines of a script stand: to each line belongs a piece of the run.
use Rattle.std.specs.Prelude.{◌≡◌, ◌≢◌, ◌⊎◌, ℕ, List, [], ◌∷◌, ◌++◌, length, All, None}
use Rattle.clover_script.specs.declared.line.Line.{Line}
use Rattle.clover_script.specs.declared.line.Line.TheVariants as line
use Rattle.clover_script.specs.declared.line.Task.{Task}
use Rattle.clover_event.specs.declared.event.Event.TheVariants.{Begin, Step, Refuse}
use Rattle.clover_run.specs.declared.event.Note.{Note}
use Rattle.clover_run.specs.declared.event.Note.TheVariants.{Waits, Busy, Missing}
use Rattle.clover_run.specs.Folds.{doing}
use Rattle.clover_run.specs.Record.{Record}

-- each record is a step of the actor, which had a task; one that only waits is the last
abbrev pub Works : ℕ → List Record → List Record → Type 0
Works a before [] = Unit {0}
Works a before (r ∷ rs) = (r.event ≡ Step a) × ((doing a before).task ≢ None) × (r.note ≡ Waits → rs ≡ []) × Works a (before ++ r ∷ []) rs

-- the last of some records only waits
abbrev pub WaitsLast : List Record → Type 0
WaitsLast rs = (front : List Record) × (r : Record) × (rs ≡ front ++ r ∷ []) × (r.note ≡ Waits)

-- steps of the actor until it has no task, or until one only waits
pub record Finishes (a : ℕ) (before rs : List Record) : Type 0 where
  pub works : Works a before rs
  pub ends : ((doing a (before ++ rs)).task ≡ None) ⊎ WaitsLast rs

-- a begin that was answered busy or none
abbrev pub IsTurnedAway : Note → Type 0
IsTurnedAway (Busy a) = Unit {0}
IsTurnedAway (Missing a) = Unit {0}
IsTurnedAway note = ⊥

-- a begin, and then steps until there is no task or one only waits, unless the begin was turned away
pub record Calls (a : ℕ) (t : Task) (before rs : List Record) : Type 0 where
  pub first : Record
  pub more : List Record
  pub all : rs ≡ first ∷ more
  pub begins : first.event ≡ Begin a t
  pub away : IsTurnedAway first.note → more ≡ []
  pub on : (IsTurnedAway first.note → ⊥) → Finishes a (before ++ first ∷ []) more

-- the line stands for these records, behind those before; one of power cuts stands for no part of a run
abbrev pub CoversLine : Line → List Record → List Record → Type 0
CoversLine (line.Begin a t) before rs = (r : Record) × (rs ≡ r ∷ []) × (r.event ≡ Begin a t)
CoversLine (line.Step a n) before rs = All (λ (r : Record). r.event ≡ Step a) rs × (length rs ≡ n)
CoversLine (line.Finish a) before rs = Finishes a before rs
CoversLine (line.Call a t) before rs = Calls a t before rs
CoversLine (line.Refuse a) before rs = (r : Record) × (rs ≡ r ∷ []) × (r.event ≡ Refuse a)
CoversLine (line.Cut choice more) before rs = ⊥
CoversLine (line.Image choice) before rs = ⊥

-- the lines, in order, stand for these records
abbrev pub Covers : List Line → List Record → List Record → Type 0
Covers [] before rs = rs ≡ []
Covers (l ∷ ls) before rs = (mine rest : List Record) × (rs ≡ mine ++ rest) × CoversLine l before mine × Covers ls (before ++ mine) rest

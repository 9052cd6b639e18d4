-- The server's unfinished task: which step its next access is, what that access comes to, and what it makes of the server.
use Rattle.std.specs.Prelude.{ℕ, true, Option, Some, None}
use Rattle.clover_words.specs.Tag.{TagParts}
use Rattle.clover_alloc.specs.Calls.{next_line}
use Rattle.clover_alloc.specs.Ledger.{Ledger, with_line, buffer_of_tag}
use Rattle.clover_alloc.specs.Lines.{line}
use Rattle.clover_alloc.specs.declared.line.Place.TheVariants.{Bound as IsBound}
use Rattle.clover_dir.specs.Directory.{Bindings, with_root, with_binding}
use Rattle.clover_dir.specs.Task.{bind_step, bind_on}
use Rattle.clover_dir.specs.declared.stage.Stage.{Stage}
use Rattle.clover_dir.specs.declared.stage.Stage.TheVariants.{Count}
use Rattle.clover_recycle.specs.Recycling.{recycle_step, goes_on, answer_to}
use Rattle.clover_recycle.specs.declared.turn.RecycleTurn.{RecycleTurn}
use Rattle.clover_recycle.specs.declared.turn.RecycleTurn.TheVariants.{Unlinked as WasUnlinked, Recycled as WasRecycled}
use Rattle.clover_rule.specs.Steps.{Step, ReadCount}
use Rattle.clover_server.specs.Server.{ServerState}
use Rattle.clover_server.specs.declared.outcome.Outcome.{Outcome}
use Rattle.clover_server.specs.declared.outcome.Outcome.TheVariants.{Going, Unlinked, Recycled, Bound, Unreached}
use Rattle.clover_server.specs.declared.turn.ServerTurn.{ServerTurn}
use Rattle.clover_server.specs.declared.turn.ServerTurn.TheVariants.{More, Unlinked as TurnUnlinked, Recycled as TurnRecycled, Unreached as TurnUnreached}
use Rattle.clover_server.specs.declared.work.Unfinished.{Unfinished}
use Rattle.clover_server.specs.declared.work.Work.{Work}
use Rattle.clover_server.specs.declared.work.Work.TheVariants.{Binding, Recycling}

-- the step that the task's next access is
abbrev pub work_step : Bindings → Work → Step
work_step d (Binding own c) = bind_step c d
work_step d (Recycling slot c) = recycle_step c

-- how the task goes on where its access found this number
abbrev pub work_on : Work → ℕ → Work
work_on (Binding own c) x = Binding own (bind_on c)
work_on (Recycling slot c) x = Recycling slot (goes_on c x)

-- where the access is a binding's last one, and where it is another
abbrev pub at_last : {A : Type 0} → Stage → A → A → A
at_last Count a b = a
at_last at a b = b

-- what the access of a binding, and of a recycling, comes to
abbrev pub bind_outcome : TagParts → Stage → Outcome
bind_outcome own at = at_last at (Bound own) Going

abbrev pub recycle_outcome : ℕ → RecycleTurn → Outcome
recycle_outcome slot WasUnlinked = Unlinked
recycle_outcome slot (WasRecycled old root) = Recycled slot old root
recycle_outcome slot turn = Going

-- what the task's access comes to where it found this number
abbrev pub outcome_of : Work → ℕ → Outcome
outcome_of (Binding own c) x = bind_outcome own c.stage
outcome_of (Recycling slot c) x = recycle_outcome slot (answer_to c x)

-- the directory behind the access: a binding's last one enters it
abbrev pub directory_on : Bindings → Work → Bindings
directory_on d (Binding own c) = at_last c.stage (with_binding d c.slot c.key c.own) d
directory_on d (Recycling slot c) = d

-- where the access was made, and where it was refused
abbrev pub OnMade : Outcome → Type 0 → Type 0
OnMade Unreached A = Unit {0}
OnMade outcome A = A

abbrev pub OnRefused : Outcome → Type 0 → Type 0
OnRefused Unreached A = A
OnRefused outcome A = Unit {0}

abbrev pub OnBound : Outcome → Type 0 → Type 0
OnBound (Bound own) A = A
OnBound outcome A = Unit {0}

-- the books once a tag's buffer is a root version, and once a slot's root is the version behind the old one
abbrev pub books_bound : Ledger → TagParts → Ledger
books_bound books own = with_line books (buffer_of_tag own) (line own.generation IsBound)

abbrev pub books_moved : Ledger → TagParts → TagParts → Ledger
books_moved books old root = with_line (books_bound books root) (buffer_of_tag old) (next_line books.pool.wear old.generation)

-- the task is left to a later call
abbrev pub left_over : Option Unfinished → Option Unfinished
left_over None = None
left_over (Some u) = Some (record u { left = true })

-- the server once it has taken in what an access came to: at a task's end the books, and behind a recycling the roots, are moved
abbrev pub taken_in : ServerState → Outcome → ServerState
taken_in s Going = s
taken_in s Unlinked = record s { task = None }
taken_in s (Recycled slot old root) = record s { books = books_moved s.books old root; directory = with_root s.directory slot root; task = None }
taken_in s (Bound own) = record s { books = books_bound s.books own; task = None }
taken_in s Unreached = record s { task = left_over s.task }

-- what it answers then
abbrev pub turn_of : Outcome → ServerTurn
turn_of Going = More
turn_of Unlinked = TurnUnlinked
turn_of (Recycled slot old root) = TurnRecycled old
turn_of (Bound own) = More
turn_of Unreached = TurnUnreached

-- the step that the server's next access is; one without a task makes none
abbrev pub server_step : ServerState → Step
server_step s = from s.task
  where
    from : Option Unfinished → Step
    from None = ReadCount
    from (Some u) = work_step s.directory u.work

-- the server behind its task's access, which found this number, and what it answers
abbrev pub went : ServerState → ℕ → ServerState
went s x = from s.task
  where
    from : Option Unfinished → ServerState
    from None = s
    from (Some u) = taken_in (record s { directory = directory_on s.directory u.work; task = Some (record u { work = work_on u.work x }) }) (outcome_of u.work x)

abbrev pub answer_of : ServerState → ℕ → ServerTurn
answer_of s x = from s.task
  where
    from : Option Unfinished → ServerTurn
    from None = More
    from (Some u) = turn_of (outcome_of u.work x)

-- the server whose task's access was refused
abbrev pub refused : ServerState → ServerState
refused s = record s { task = left_over s.task }

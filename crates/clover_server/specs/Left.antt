-- How much is left to do for the server: a number that each access lowers, so calls that repeat steps end.
use Rattle.std.specs.Prelude.{ℕ, ◌+◌, ◌-◌, ◌*◌, ◌≤◌, ◌<◌, List, length, sum_by, Option, Some, None}
use Rattle.clover_alloc.specs.Ledger.{Ledger}
use Rattle.clover_alloc.specs.declared.line.Line.{Line}
use Rattle.clover_dir.specs.Directory.{Bindings}
use Rattle.clover_dir.specs.Task.{key_length, left}
use Rattle.clover_recycle.specs.declared.stage.Stage.{Stage}
use Rattle.clover_recycle.specs.declared.stage.Stage.TheVariants.{AtVersion, AtLink, AtRoot, AtFlushedRoot, AtPass, AtFree, Over}
use Rattle.clover_server.specs.Looking.{position}
use Rattle.clover_server.specs.Server.{ServerState}
use Rattle.clover_server.specs.declared.outcome.Outcome.{Outcome}
use Rattle.clover_server.specs.declared.outcome.Outcome.TheVariants.{Going, Unlinked, Recycled, Bound, Unreached}
use Rattle.clover_server.specs.declared.turn.ServerTurn.{ServerTurn}
use Rattle.clover_server.specs.declared.turn.ServerTurn.TheVariants.{More, Unlinked as TurnUnlinked, Unreached as TurnUnreached}
use Rattle.clover_server.specs.declared.work.Unfinished.{Unfinished}
use Rattle.clover_server.specs.declared.work.Work.{Work}
use Rattle.clover_server.specs.declared.work.Work.TheVariants.{Binding, Recycling}

-- how many generations the buffers may yet serve, all of them together
abbrev pub lines_left : ℕ → List Line → ℕ
lines_left wear lines = sum_by (λ l. wear - l.generation) lines

abbrev pub generations_left : Ledger → ℕ
generations_left books = sum_by (lines_left books.pool.wear) books.nodes

-- how many slots are unbound
abbrev pub unbound : Bindings → ℕ
unbound d = d.pool.slots - length d.list

-- how many bindings the sweep has not left behind
abbrev pub unswept : ServerState → ℕ
unswept s = length s.directory.list - position s.sweep

-- what is left of a recycling, of a task, and of what the server has unfinished. A recycling whose load was refused is more than none, since the load may only show that there is nothing to recycle.
abbrev pub recycling_left : Stage → ℕ
recycling_left AtVersion = 151
recycling_left (AtLink t) = 12
recycling_left (AtRoot t) = 10
recycling_left (AtFlushedRoot t) = 8
recycling_left (AtPass t) = 6
recycling_left (AtFree t) = 4
recycling_left Over = 0

abbrev pub of_work : Work → ℕ
of_work (Binding own c) = 2 * left (key_length c.key) c.stage + 4
of_work (Recycling slot c) = recycling_left c.stage

abbrev pub of_task : Option Unfinished → ℕ
of_task None = 150
of_task (Some u) = of_work u.work

-- a recycling's end takes a generation, and a binding's end an unbound slot; no task makes more accesses than either pays for
abbrev pub work_left : ServerState → ℕ
work_left s = 150 * (generations_left s.books + unbound s.directory) + of_task s.task + unswept s

-- how a task's access lowers what is left of it
abbrev pub Lowers : Outcome → Work → Work → Type 0
Lowers Going work n = of_work n + 2 ≤ of_work work
Lowers Unlinked work n = 151 ≤ of_work work
Lowers (Recycled slot old root) work n = 4 ≤ of_work work
Lowers (Bound own) work n = 6 ≤ of_work work
Lowers Unreached work n = Unit {0}

-- how an access lowers what is left for the server: a read that showed a root version unlinked by one at least, and any other by two
abbrev pub LowersBy : ServerTurn → ℕ → ℕ → Type 0
LowersBy TurnUnlinked before after = after + 1 ≤ before
LowersBy TurnUnreached before after = Unit {0}
LowersBy turn before after = after + 2 ≤ before

-- where the call is to be repeated
abbrev pub OnMore : ServerTurn → Type 0 → Type 0
OnMore More A = A
OnMore turn A = Unit {0}

-- what is left for a sweep over all bindings besides those that it has left behind: a binding that another call's task ends is one more of them
abbrev pub sweep_left : ServerState → ℕ
sweep_left s = work_left s + length s.directory.list

-- how an access lowers that: a read that showed a root version unlinked may leave it, and any other lowers it
abbrev pub Lessens : ServerTurn → ℕ → ℕ → Type 0
Lessens TurnUnlinked before after = after ≤ before
Lessens TurnUnreached before after = Unit {0}
Lessens turn before after = after < before

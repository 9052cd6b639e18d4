-- The recycler of the machine: that it is as the records say, and what one step of it does.
use Prim.Native.Nat.{suc}
use Rattle.std.specs.Prelude.{◌≡◌, ℕ, ◌+◌, ◌-◌, ◌<◌, ◌≤◌, length, Bool, false, Option, Some, None, IfSome, IsSome}
use Rattle.clover_dir.specs.Directory.{IsBound, root_of}
use Rattle.clover_rule.specs.Lists.{IsPrefix}
use Rattle.clover_rule.specs.declared.access.Access.{Access}
use Rattle.clover_plain.specs.Plain.{Plain}
use Rattle.clover_script.specs.declared.line.Task.{Task}
use Rattle.clover_script.specs.declared.line.Task.TheVariants.{Recycle, Sweep}
use Rattle.clover_server.specs.Left.{sweep_left, Lessens}
use Rattle.clover_server.specs.Looking.{given_back}
use Rattle.clover_server.specs.Server.{ServerState}
use Rattle.clover_server.specs.Told.{IsOwnTurn}
use Rattle.clover_server.specs.declared.turn.ServerTurn.{ServerTurn}
use Rattle.clover_run.specs.Cleaning.{Cleans, IsCleaned}
use Rattle.clover_run.specs.Client.{Moved, KeepsOthers, step_record}
use Rattle.clover_run.specs.Folds.{Doing, stepped}
use Rattle.clover_run.specs.Run.{Opening, Standing, IsAccess, unless_busy, if_bound, cleared}
use Rattle.clover_run.specs.Served.{is_elsewhere}
use Rattle.clover_run.specs.Serving.{telling}
use Rattle.clover_run.specs.Working.{HasServer, IsServersOwn}
use Rattle.clover_run.specs.declared.event.Note.{Note}
use Rattle.clover_run.specs.declared.event.Note.TheVariants.{Quiet}
use Rattle.clover_run.specs.declared.recycler.Chore.{Chore}
use Rattle.clover_run.specs.declared.recycler.Chore.TheVariants.{OfSlot, OfAll}
use Rattle.clover_run.specs.declared.recycler.Recycler.{Recycler}
use Rattle.clover_run.specs.declared.served.Served.{Served}

-- the task that a chore is of
abbrev pub task_for : Chore → Task
task_for (OfSlot slot) = Recycle slot
task_for OfAll = Sweep

abbrev pub chore_task : Option Chore → Option Task
chore_task None = None
chore_task (Some chore) = Some (task_for chore)

-- the slot that is to be recycled is bound
abbrev pub IsOnBound : Option Chore → Served → Type 0
IsOnBound (Some (OfSlot slot)) v = IsBound slot v.server.directory
IsOnBound chore v = Unit {0}

-- The recycler is as these records left it: its task, and whether its next access is refused. Its counts are of bindings that there are, and of recyclings that took an access each.
pub record IsRecyclerAt (p : Plain) (v : Served) (x : Recycler) (d : Doing) : Type 0 where
  pub task : d.task ≡ chore_task x.chore
  pub refusing : x.refusing ≡ d.refusing
  pub bound : IsOnBound x.chore v
  pub read : v.read ≤ length v.server.directory.list
  pub done : v.done ≤ p.made

-- how many steps a recycler's task may yet make: a number that each step which does not only wait lowers
abbrev pub cleaning_left : Option Chore → Served → ℕ
cleaning_left None v = 0
cleaning_left (Some chore) v = suc (sweep_left v.server - v.read)

-- what a chore that the recycler may begin comes to, and what it has then
abbrev pub chore_note : Chore → Served → Note
chore_note (OfSlot slot) v = if_bound (root_of v.server.directory slot)
chore_note OfAll v = Quiet

abbrev pub chore_behind : Note → Chore → Option Chore → Option Chore
chore_behind Quiet chore x = Some chore
chore_behind note chore x = x

-- The recycler was asked for a chore: it has a task already, or the slot is not bound, or it has begun with nothing read and nothing done. What it is on then is bound.
abbrev pub BeginsChore : Chore → Recycler → Recycler → Served → Served → Note → Type 0
BeginsChore chore x y v w note = (note ≡ unless_busy (chore_task x.chore) 0 (chore_note chore v)) × (w ≡ cleared v note) × (y ≡ record x { chore = chore_behind note chore x.chore }) × (IsOnBound x.chore v → IsOnBound y.chore w)

-- the slot of a step of a recycling is bound; without one a task is unfinished
abbrev pub MayRecycle : Option ℕ → ServerState → Type 0
MayRecycle None s = IsSome s.task
MayRecycle (Some slot) s = IsBound slot s.directory

-- The server made an access of the slot's recycling, or of a task that is unfinished.
pub record RecycledFor (slot : Option ℕ) (refusing after : Bool) (s n : ServerState) (p q : Plain) (turn : ServerTurn) : Type 0 where
  pub access : Access
  pub is : IsServersOwn p refusing access
  pub cleans : Cleans slot s n turn (telling (Some access))
  pub refusing_is : after ≡ false
  pub moved : Moved (Some access) None p q
  pub others : KeepsOthers p.setup.clients p q
  pub server : HasServer q n
  pub lessens : Lessens turn (sweep_left s) (sweep_left n)
  pub gives : given_back n ≤ given_back s + 1
  pub own : IsOwnTurn turn

-- a recycler with a task in this pool may have its step on this side
pub record MayClean (o : Opening) (x : Recycler) (v : Served) (p : Plain) : Type 0 where
  pub setup : p.setup ≡ o.setup
  pub chore : Chore
  pub has : x.chore ≡ Some chore
  pub bound : IsOnBound x.chore v
  pub read : v.read ≤ length v.server.directory.list
  pub done : v.done ≤ p.made
  pub server : HasServer p v.server

-- The recycler had its step, which came to this note: in any run that leads to where it stood this is a step of its task, and it is as that leaves it.
pub record WasCleaned (o : Opening) (x y : Recycler) (v w : Served) (p q : Plain) (note : Note) : Type 0 where
  pub access : Option Access
  pub moved : Moved access None p q
  pub others : KeepsOthers o.setup.clients p q
  pub server : HasServer q w.server
  pub grows : IsPrefix v.server.directory.list w.server.directory.list
  pub follows : (st : Standing) → st.actor ≡ 0 → st.words ≡ p.words → st.served ≡ v → IsRecyclerAt p v x st.does
      → IfSome access (IsAccess o.setup.pool st) × IfSome x.chore (λ chore. IsCleaned chore v (step_record st access None note w)) × IsRecyclerAt q w y (stepped st.does (step_record st access None note w))
  -- a step that does not only wait leaves less to do
  pub lessens : is_elsewhere v.holder 0 ≡ false → cleaning_left y.chore w < cleaning_left x.chore v

-- A step of the recycler: what is due there, what it comes to, and the server's side behind it.
use Rattle.std.specs.Prelude.{◌≡◌, ℕ, ◌+◌, ◌-◌, true, false, if◌then◌else◌, Option, Some, None}
use Rattle.clover_server.specs.Looking.{given_back, slot_at, is_under_way}
use Rattle.clover_server.specs.Server.{ServerState}
use Rattle.clover_server.specs.Steps.{recycle_due, RecycleStep, FinishStep}
use Rattle.clover_server.specs.declared.turn.ServerTurn.{ServerTurn}
use Rattle.clover_server.specs.declared.turn.ServerTurn.TheVariants.{Unlinked as TurnUnlinked, Recycled as TurnRecycled, Unreached as TurnUnreached}
use Rattle.clover_server.specs.declared.work.Unfinished.{Unfinished}
use Rattle.clover_run.specs.declared.event.Note.{Note}
use Rattle.clover_run.specs.declared.event.Note.TheVariants.{Quiet, Recycled, Unlinked, Swept, Unreached}
use Rattle.clover_run.specs.declared.recycler.Chore.{Chore}
use Rattle.clover_run.specs.declared.recycler.Chore.TheVariants.{OfSlot, OfAll}
use Rattle.clover_run.specs.Record.{Record}
use Rattle.clover_run.specs.Served.{is_elsewhere}
use Rattle.clover_run.specs.declared.served.Served.{Served}
use Rattle.clover_run.specs.Serving.{Telling, telling, Waiting}

-- the slot whose root version is to be recycled next; none where a sweep has no binding left
abbrev pub slot_due : Chore → Served → Option ℕ
slot_due (OfSlot slot) v = Some slot
slot_due OfAll v = slot_at v.server v.read

-- an access of that recycling, or of a task that is unfinished
abbrev pub Cleans : Option ℕ → (s n : ServerState) → ServerTurn → Telling → Type 0
Cleans (Some slot) s n turn t = RecycleStep (recycle_due s slot) s n turn t.made t.failed
Cleans None s n turn t = FinishStep s n turn t.made t.failed

-- the recycler holds the server while a recycling that its own task began is under way
abbrev pub holder_of : Option Unfinished → Option ℕ
holder_of task = if is_under_way task then Some 0 else None

-- a binding more that a sweep has read unlinked
abbrev pub reads : Chore → ServerTurn → ℕ
reads OfAll TurnUnlinked = 1
reads chore turn = 0

-- the server's side behind the access; a recycling that it ended has given a buffer back, also one that another actor began
abbrev pub cleaned : Chore → Served → ServerState → ServerTurn → Served
cleaned chore v n turn = record v { server = n; holder = holder_of n.task; read = v.read + reads chore turn; done = v.done + (given_back n - given_back v.server) }

-- what the access comes to; a sweep ends behind the last of the bindings
abbrev pub swept_note : Served → Option ℕ → Note
swept_note w None = Swept w.done
swept_note w (Some slot) = Quiet

abbrev pub clean_note : Chore → Served → ServerTurn → Note
clean_note chore w TurnUnreached = Unreached
clean_note (OfSlot slot) w TurnUnlinked = Unlinked
clean_note (OfSlot slot) w (TurnRecycled old) = Recycled old
clean_note OfAll w TurnUnlinked = swept_note w (slot_due OfAll w)
clean_note chore w turn = Quiet

-- the recycler's access
pub record IsCleaning (chore : Chore) (v : Served) (r : Record) : Type 0 where
  pub turn : ServerTurn
  pub server : ServerState
  pub cleans : Cleans (slot_due chore v) v.server server turn (telling r.access)
  pub note : r.note ≡ clean_note chore (cleaned chore v server turn) turn
  pub served : r.served ≡ cleaned chore v server turn

-- a sweep that has nothing to read ends without an access
pub record EndsAtOnce (v : Served) (r : Record) : Type 0 where
  pub access : r.access ≡ None
  pub note : r.note ≡ Swept v.done
  pub served : r.served ≡ v

-- an access, unless nothing is bound and no task is unfinished
abbrev pub CleansOrEnds : Chore → Option ℕ → Option Unfinished → Served → Record → Type 0
CleansOrEnds chore None None v r = EndsAtOnce v r
CleansOrEnds chore slot task v r = IsCleaning chore v r

-- A step of the recycler: it waits where another one holds the server, and else makes its access; no entry is added.
pub record IsCleaned (chore : Chore) (v : Served) (r : Record) : Type 0 where
  pub entry : r.entry ≡ None
  pub waits : is_elsewhere v.holder 0 ≡ true → Waiting v r
  pub cleans : is_elsewhere v.holder 0 ≡ false → CleansOrEnds chore (slot_due chore v) v.server.task v r

-- A step of an actor that wants something of the server: what is due there, what it comes to, and the server's side behind it.
use Rattle.std.specs.Prelude.{◌≡◌, ℕ, ◌-◌, List, [], length, true, false, Option, Some, None}
use Rattle.clover_words.specs.Tag.{TagParts}
use Rattle.clover_alloc.specs.Batch.{tags_of}
use Rattle.clover_alloc.specs.Ledger.{Ledger}
use Rattle.clover_alloc.specs.Taking.{Takes}
use Rattle.clover_map.specs.declared.call.Call.{Call}
use Rattle.clover_map.specs.declared.call.Call.TheVariants.{Put}
use Rattle.clover_rule.specs.Steps.{Step, act_of}
use Rattle.clover_rule.specs.declared.access.Access.{Access}
use Rattle.clover_rule.specs.declared.access.Act.{Act}
use Rattle.clover_rule.specs.declared.access.Actor.TheVariants.{Server}
use Rattle.clover_server.specs.Looking.{IsSlotOf, IsLowestFree}
use Rattle.clover_server.specs.Server.{ServerState}
use Rattle.clover_server.specs.Steps.{Due, Finishes, ended, stock_due, named_due, WantStep, FinishStep}
use Rattle.clover_server.specs.declared.turn.ServerTurn.{ServerTurn}
use Rattle.clover_server.specs.declared.turn.ServerTurn.TheVariants.{More, Ready, Full as TurnFull, NoSlot as TurnNoSlot, Unreached as TurnUnreached}
use Rattle.clover_server.specs.declared.work.Unfinished.{Unfinished}
use Rattle.clover_event.specs.declared.event.CallRefusal.TheVariants.{Unreached}
use Rattle.clover_run.specs.declared.event.Note.TheVariants.{Quiet, Waits, Refused, Full, NoSlot, Granted}
use Rattle.clover_run.specs.Folds.{Doing}
use Rattle.clover_run.specs.Record.{Record}
use Rattle.clover_run.specs.Served.{held, let_go, is_elsewhere}
use Rattle.clover_run.specs.declared.served.Served.{Served}
use Rattle.clover_run.specs.declared.want.Want.{Want}
use Rattle.clover_run.specs.declared.want.Want.TheVariants.{Nothing, Stock, Names}

-- the access is this step of the server, which found this number
abbrev pub Makes : Option Access → Step → ℕ → Type 0
Makes o step x = o ≡ Some (record { actor = Server; act = act_of step x; refused = false })

-- an access of the server was refused
abbrev pub Fails : Option Access → Type 0
Fails o = (act : Act) × (o ≡ Some (record { actor = Server; act = act; refused = true }))

-- what a step of the server is told as: this access was made, one was refused, or none was made
pub record Telling : Type 1 where
  pub made : Step → ℕ → Type 0
  pub failed : Type 0
  pub still : Type 0

-- this access tells it, or that there was none
abbrev pub telling : Option Access → Telling
telling o = record { made = Makes o; failed = Fails o; still = o ≡ None }

-- a step towards what is due
abbrev pub Goes : Due → (s n : ServerState) → ServerTurn → Telling → Type 0
Goes due s n turn t = WantStep due s n turn t.made t.failed t.still

-- a step towards the binding of a key
abbrev pub Binds : Option Unfinished → List ℕ → (s n : ServerState) → ServerTurn → Telling → Type 0
Binds None key s n turn t = (found free : Option ℕ) × IsSlotOf key s.directory found × IsLowestFree s.directory free × Goes (named_due s key found free) s n turn t
Binds (Some u) key s n turn t = Goes Finishes s n turn t

-- a step towards bindings that are there once no task is unfinished; its end ends the want, as each want's does
abbrev pub Clears : Option Unfinished → (s n : ServerState) → ServerTurn → Telling → Type 0
Clears None s n turn t = (turn ≡ Ready) × (n ≡ ended s) × t.still
Clears (Some u) s n turn t = FinishStep s n turn t.made t.failed

-- a step of the server for a call that wants this: a put has its key bound, and any other call takes the bindings that there are
abbrev pub Serves : Want → Call → (s n : ServerState) → ServerTurn → Telling → Type 0
Serves Nothing call s n turn t = ⊥
Serves Stock call s n turn t = Goes (stock_due s) s n turn t
Serves Names (Put key value) s n turn t = Binds s.task key s n turn t
Serves Names call s n turn t = Clears s.task s n turn t

-- the tags that a grant takes from the books: a batch for the stock, and none with bindings alone
abbrev pub TakesFor : Want → Ledger → ℕ → List TagParts → Ledger → Type 0
TakesFor Stock before count tags after = Takes before count tags after
TakesFor want before count tags after = (tags ≡ []) × (after ≡ before)

-- the actor is handed a batch, which the server's side keeps as the last one, and all bindings that it does not know, and lets the server go
pub record Hands (a : ℕ) (d : Doing) (want : Want) (v : Served) (n : ServerState) (r : Record) : Type 0 where
  pub books : Ledger
  pub takes : TakesFor want n.books n.setup.batch (tags_of r.served.batch) books
  pub note : r.note ≡ Granted a (length n.directory.list - d.known)
  pub served : r.served ≡ record (let_go (record n { books = books }) v) { batch = r.served.batch }

-- what the event comes to where its step of the server came to this turn, and left the server so
abbrev pub Leaves : (a : ℕ) (d : Doing) (want : Want) (v : Served) (n : ServerState) → ServerTurn → Record → Type 0
Leaves a d want v n More r = (r.note ≡ Quiet) × (r.served ≡ held a n v)
Leaves a d want v n Ready r = Hands a d want v n r
Leaves a d want v n (TurnFull bound worn out) r = (r.note ≡ Full a bound worn out) × (r.served ≡ let_go n v)
Leaves a d want v n TurnNoSlot r = (r.note ≡ NoSlot a) × (r.served ≡ let_go n v)
Leaves a d want v n TurnUnreached r = (r.note ≡ Refused a Unreached) × (r.served ≡ let_go n v)
Leaves a d want v n turn r = ⊥

-- the actor's step of the server
pub record IsServing (a : ℕ) (d : Doing) (want : Want) (call : Call) (v : Served) (r : Record) : Type 0 where
  pub turn : ServerTurn
  pub server : ServerState
  pub serves : Serves want call v.server server turn (telling r.access)
  pub leaves : Leaves a d want v server turn r

-- an event that only waits
pub record Waiting (v : Served) (r : Record) : Type 0 where
  pub access : r.access ≡ None
  pub note : r.note ≡ Waits
  pub served : r.served ≡ v

-- A step of an actor whose call wants something: it waits where another one holds the server, and else makes its step there; no entry is added.
pub record IsServed (a : ℕ) (d : Doing) (want : Want) (call : Call) (v : Served) (r : Record) : Type 0 where
  pub entry : r.entry ≡ None
  pub waits : is_elsewhere v.holder a ≡ true → Waiting v r
  pub serves : is_elsewhere v.holder a ≡ false → IsServing a d want call v r

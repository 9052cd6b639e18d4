-- What contracts see of a machine, and that it stands where some records lead.
use Prim.Native.Nat.{zero, suc}
use Rattle.std.specs.Prelude.{◌≡◌, ◌≢◌, ℕ, ◌+◌, ◌<◌, ◌≤◌, List, [], ◌∷◌, ◌++◌, length, replicate, true, false, Option, Some, None}
use Rattle.std.proofs.Common.{refl}
use Rattle.std.proofs.lemmas.Bool.{leb-true}
use Rattle.std.specs.FinMap as finite
use Rattle.clover_words.specs.declared.setup.Setup.{Setup}
use Rattle.clover_words.specs.Place.{pool_words}
use Rattle.clover_map.specs.Legal.{Legal}
use Rattle.clover_script.specs.declared.line.Task.{Task}
use Rattle.clover_script.specs.declared.line.Task.TheVariants.{Client as ClientTask}
use Rattle.clover_alloc.specs.Ledger.{Ledger, new_ledger}
use Rattle.clover_alloc.specs.declared.batch.Batch.{Batch}
use Rattle.clover_dir.specs.Directory.{Bindings, nothing_bound}
use Rattle.clover_server.specs.Holding.{Agrees}
use Rattle.clover_server.specs.Laws.{IsFirstServer}
use Rattle.clover_server.specs.Server.{new_server}
use Rattle.clover_rule.specs.Lists.{nth}
use Rattle.clover_rule.specs.declared.access.Access.{Access}
use Rattle.clover_rule.specs.declared.access.Actor.TheVariants.{Client}
use Rattle.clover_rule.specs.declared.view.View.{View}
use Rattle.clover_plain.specs.Plain.{Plain, Kept, history, view_at}
use Rattle.clover_call.specs.declared.under.Underway.TheVariants.{Nothing as NoCall}
use Rattle.clover_event.specs.Client.{IsLast, IsCallTask}
use Rattle.clover_event.specs.declared.event.Event.{Event}
use Rattle.clover_event.specs.declared.event.Event.TheVariants.{Begin, Step}
use Rattle.clover_run.specs.Alone.{AllFound, AllCounted}
use Rattle.clover_run.specs.Client.{LacksNames, Phase, HasTask, Stands, Matches, GoesSoFar, Remembers, call_at}
use Rattle.clover_run.specs.Folds.{entries_in, words_after, made_after, served_after, doing, listed_in}
use Rattle.clover_run.specs.Freed.{AllFree}
use Rattle.clover_run.specs.Record.{Record}
use Rattle.clover_run.specs.Recycling.{IsRecyclerAt}
use Rattle.clover_run.specs.Run.{Opening, IsRun, standing}
use Rattle.clover_run.specs.Served.{is_elsewhere}
use Rattle.clover_run.specs.SoFar.{AloneSoFar}
use Rattle.clover_run.specs.Told.{AllTold}
use Rattle.clover_run.specs.Working.{HasServer}
use Rattle.clover_run.specs.declared.client.ClientState.{ClientState}
use Rattle.clover_run.specs.declared.event.Note.{Note}
use Rattle.clover_run.specs.declared.recycler.Recycler.{Recycler}
use Rattle.clover_run.specs.declared.served.Served.{Served}
use Rattle.clover_run.specs.declared.want.Want.TheVariants.{Nothing}

pub record Parts : Type 0 where
  pub setup : Setup
  pub pool : Plain
  -- the server's side, and the actor that takes old versions off
  pub served : Served
  pub recycler : Recycler
  -- the clients, in the order of their numbers
  pub clients : List ClientState

-- The pool is as these records left it.
pub record IsPoolAt (o : Opening) (p : Plain) (rs : List Record) : Type 0 where
  pub setup : p.setup ≡ o.setup
  pub first : p.first ≡ o.first
  pub used : p.used ≡ o.used
  pub opened : p.opened ≡ true
  pub whole : p.whole ≡ true
  pub words : p.words ≡ words_after o.setup.pool o.words rs
  pub entries : p.entries ≡ entries_in rs
  pub entered : p.entries ≡ history p
  pub accesses : p.accesses ≡ listed_in o.listed p.traced rs
  pub made : p.made ≡ made_after o.made rs
  pub seats : length p.views ≡ o.setup.clients + 1

-- The client of seat i is as these records left it.
pub record IsClientAt (o : Opening) (p : Plain) (i : ℕ) (x : ClientState) (rs : List Record) : Type 0 where
  pub phase : Phase
  pub stands : Stands o p i x phase
  pub matches : Matches x (view_at p i) phase (doing (suc i) rs)
  -- the bindings that the records say it knows are those of its node
  pub names : (standing o (suc i) rs).names ≡ x.node.names
  pub cursors : Remembers x.node.names x.node.caller.cursors (standing o (suc i) rs).ended
  pub goes : x.node.caller.under ≢ NoCall → GoesSoFar o.setup.pool (standing o (suc i) rs) x (call_at x (view_at p i))
  -- where it wants names there are some that it does not know
  pub lacks : LacksNames x (view_at p i)

-- The machine stands where these records lead.
pub record IsAt (o : Opening) (m : Parts) (rs : List Record) : Type 0 where
  pub run : IsRun o rs
  pub setup : m.setup ≡ o.setup
  pub pool : IsPoolAt o m.pool rs
  pub served : m.served ≡ served_after o.served rs
  pub server : HasServer m.pool m.served.server
  pub recycler : IsRecyclerAt m.pool m.served m.recycler (doing 0 rs)
  pub clients : length m.clients ≡ o.setup.clients
  pub each : (i : ℕ) (x : ClientState) → nth m.clients i ≡ Some x → IsClientAt o m.pool i x rs
  -- a client that there is not has no task
  pub far : (a : ℕ) → o.setup.clients < a → (doing a rs).task ≡ None
  pub legal : Legal o.first o.used (entries_in rs)
  -- the server had nothing unfinished where the run began
  pub begins : o.served.server.task ≡ None
  pub found : AllFound o rs
  pub counted : AllCounted o rs
  pub free : AllFree o rs
  pub alone : AloneSoFar o m.pool.words m.clients rs
  pub told : AllTold m.pool rs

abbrev pub IsBehind : Parts → Type 0
IsBehind m = (o : Opening) × (rs : List Record) × IsAt o m rs

-- the batch of a side of which nothing was handed out
abbrev pub no_batch : Batch
no_batch = record { tags = replicate 64 (record { node = 0; index = 0; generation = 0 }); count = 0; few = leb-true 0 64 refl }

-- the server's side of a run that begins with these books and this directory: nobody holds the server, and nothing is under way
abbrev pub new_side : Setup → Ledger → Bindings → Served
new_side s books d = record { server = new_server s books d; holder = None; read = 0; done = 0; batch = no_batch }

-- the server's side of a pool of which nothing was handed out
abbrev pub first_served : Setup → Served
first_served s = new_side s (new_ledger s.pool) (nothing_bound s.pool)

-- the books are in order besides
pub record IsFirstSide (s : Setup) (v : Served) : Type 0 where
  pub value : v ≡ first_served s
  pub agrees : (w : View) → IsFirstServer w → Agrees s.pool [] v.server w

-- where the first run of a setup begins: words of 0, nothing handed out, and nothing before it
abbrev pub first_opening : Setup → Opening
first_opening s = record { setup = s; words = replicate (pool_words s.pool) 0; served = first_served s; first = finite.empty; used = []; run = 1; made = 0; listed = [] }

-- the task is one of the actor's: of a client's number a call as the reader keeps it, and of 0 one of the recycler
abbrev pub IsTaskOfActor : ℕ → Task → Type 0
IsTaskOfActor a (ClientTask call written) = (1 ≤ a) × IsCallTask call written
IsTaskOfActor a task = a ≡ 0

-- the event may come: a begin is of one of the actor's tasks
abbrev pub MayCome : Event → Type 0
MayCome (Begin a t) = IsTaskOfActor a t
MayCome event = Unit {0}

-- an access of a client's own that was made is the last of those that it was told
abbrev pub IsTold : Parts → Record → Type 0
IsTold m r = (x : Access) (i : ℕ) → r.access ≡ Some x → x.actor ≡ Client (suc i) → x.refused ≡ false → (r.event ≡ Step (suc i)) × IsLast x.act (view_at m.pool i).pass.since

-- the client of this seat wants nothing of the server
abbrev pub WantsNothing : Option ClientState → Type 0
WantsNothing None = ⊥
WantsNothing (Some x) = x.want ≡ Nothing

-- The event came to this note: behind any records behind which the machine stood before it, it stands behind one more, which is of this event and note, and whose access its client was told.
abbrev pub Happens : Parts → Parts → Event → Note → Type 0
Happens m n e note = (o : Opening) (rs : List Record) → IsAt o m rs → (r : Record) × (r.event ≡ e) × (r.note ≡ note) × IsAt o n (rs ++ r ∷ []) × IsTold n r

-- what no event changes
pub record Continues (m n : Parts) : Type 0 where
  pub setup : n.setup ≡ m.setup
  pub traced : n.pool.traced ≡ m.pool.traced

-- the same but for the room of the pool's lists
pub record IsSame (m n : Parts) : Type 0 where
  pub setup : n.setup ≡ m.setup
  pub pool : Kept m.pool n.pool
  pub served : n.served ≡ m.served
  pub recycler : n.recycler ≡ m.recycler
  pub clients : n.clients ≡ m.clients

-- the actor is a client with a task
abbrev pub IsTasked : Option ClientState → Type 0
IsTasked None = ⊥
IsTasked (Some x) = HasTask x

abbrev pub IsBusy : Parts → ℕ → Type 0
IsBusy m zero = m.recycler.chore ≢ None
IsBusy m (suc i) = IsTasked (nth m.clients i)

-- a step of the client only waits: it wants something of the server, which another one holds
abbrev pub WaitsFor : Served → ℕ → Option ClientState → Type 0
WaitsFor v a None = ⊥
WaitsFor v a (Some x) = (x.want ≢ Nothing) × (is_elsewhere v.holder a ≡ true)

-- and one of the recycler with a task waits where another one holds the server
abbrev pub OnlyWaits : Parts → ℕ → Type 0
OnlyWaits m zero = (m.recycler.chore ≢ None) × (is_elsewhere m.served.holder 0 ≡ true)
OnlyWaits m (suc i) = WaitsFor m.served (suc i) (nth m.clients i)

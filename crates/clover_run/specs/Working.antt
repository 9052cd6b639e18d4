-- A step of the server in the pool for a client that wants something, and what it makes of the client, the server's side and the pool.
use Prim.Native.Nat.{suc}
use Rattle.std.specs.Prelude.{◌≡◌, ◌≢◌, ℕ, ◌<◌, List, [], ◌++◌, length, Bool, true, false, Option, Some, None, IfSome}
use Rattle.clover_map.specs.History.{key_of}
use Rattle.clover_map.specs.declared.call.Call.{Call}
use Rattle.clover_alloc.specs.Batch.{tags_of}
use Rattle.clover_alloc.specs.Ledger.{Ledger}
use Rattle.clover_rule.specs.Accesses.{CameBack}
use Rattle.clover_rule.specs.Lists.{IsPrefix}
use Rattle.clover_rule.specs.declared.access.Access.{Access}
use Rattle.clover_rule.specs.declared.access.Actor.TheVariants.{Server}
use Rattle.clover_plain.specs.Plain.{Plain, Running, view_at, history}
use Rattle.clover_node.specs.Beginning.{IsNamed}
use Rattle.clover_node.specs.Node.{NodeHolds, IsPut}
use Rattle.clover_plain.specs.Handing.{Handed, numbers_of}
use Rattle.clover_server.specs.Holding.{Agrees}
use Rattle.clover_server.specs.Left.{OnMore, work_left}
use Rattle.clover_server.specs.Looking.{free_in}
use Rattle.clover_server.specs.Server.{ServerState}
use Rattle.clover_server.specs.declared.turn.ServerTurn.{ServerTurn}
use Rattle.clover_event.specs.Run.{IsBlank}
use Rattle.clover_run.specs.Client.{LacksNames, Moved, KeepsOthers, Phase, Wants, Stands, Matches, IsOf, Started, call_at, granted_to, step_record}
use Rattle.clover_run.specs.Folds.{stepped}
use Rattle.clover_run.specs.Run.{Opening, Standing, IsAccess}
use Rattle.clover_run.specs.Served.{let_go}
use Rattle.clover_run.specs.Serving.{IsServed, Serves, TakesFor, telling}
use Rattle.clover_run.specs.declared.client.ClientState.{ClientState}
use Rattle.clover_run.specs.declared.event.Note.{Note}
use Rattle.clover_run.specs.declared.event.Note.TheVariants.{Granted, Quiet}
use Rattle.clover_run.specs.declared.served.Served.{Served}
use Rattle.clover_run.specs.declared.want.Want.{Want}
use Rattle.clover_run.specs.declared.want.Want.TheVariants.{Stock, Names}

-- The server of the pool stands between two events: the pool runs, and the server agrees with its view.
pub record HasServer (p : Plain) (s : ServerState) : Type 0 where
  pub opened : p.opened ≡ true
  pub entered : p.entries ≡ history p
  pub seat : p.setup.clients < length p.views
  pub agrees : Agrees p.setup.pool [] s (view_at p p.setup.clients)

-- an access of the server: it is refused exactly where that was asked for; one that was made came back with what the words give
pub record IsServersOwn (p : Plain) (refusing : Bool) (x : Access) : Type 0 where
  pub actor : x.actor ≡ Server
  pub refused : x.refused ≡ refusing
  pub blank : x.refused ≡ true → IsBlank x.act
  pub replays : x.refused ≡ false → CameBack p.setup.pool p.words x.act

-- whether the next access is refused, behind this one or none
abbrev pub refusing_behind : Option Access → Bool → Bool
refusing_behind None b = b
refusing_behind (Some x) b = false

-- The server made a step towards what the call wants, by this access or without one.
pub record Worked (want : Want) (call : Call) (refusing after : Bool) (s n : ServerState) (p q : Plain) (turn : ServerTurn) : Type 0 where
  pub access : Option Access
  pub is : IfSome access (IsServersOwn p refusing)
  pub serves : Serves want call s n turn (telling access)
  pub refusing_is : after ≡ refusing_behind access refusing
  pub moved : Moved access None p q
  pub others : KeepsOthers p.setup.clients p q
  pub server : HasServer q n
  pub lowers : OnMore turn (work_left n < work_left s)

-- a client in this pool that wants something may be served by this side
pub record MayServe (o : Opening) (i : ℕ) (x : ClientState) (v : Served) (p : Plain) : Type 0 where
  pub stands : Stands o p i x Wants
  pub server : HasServer p v.server
  pub running : Running p

-- What the server's side may hand to the client of seat i, which wants something: no task of the server is unfinished and no want under way, and a buffer is free for a batch.
pub record MayGrant (o : Opening) (i : ℕ) (x : ClientState) (v : Served) (p : Plain) : Type 0 where
  pub may : MayServe o i x v p
  pub idle : v.server.task ≡ None
  pub ended : v.server.sweep ≡ None
  pub free : x.want ≡ Stock → 0 < free_in v.server

-- The server's side handed the client of seat i a batch where it wants stock, which it keeps as the last one, and all bindings that it does not know; that has started its call anew.
pub record WasGranted (i : ℕ) (x y : ClientState) (v w : Served) (p q : Plain) (note : Note) : Type 0 where
  pub books : Ledger
  pub added : List (ℕ × List ℕ)
  pub takes : TakesFor x.want v.server.books v.server.setup.batch (tags_of w.batch) books
  pub names : x.node.names ++ added ≡ v.server.directory.list
  pub note_is : note ≡ Granted (suc i) (length added)
  pub side : w ≡ record (let_go (record v.server { books = books }) v) { batch = w.batch }
  pub handed : Handed (suc i) (numbers_of w.batch) added p q
  pub history_same : history q ≡ history p
  pub holds : (call : Call) → NodeHolds (granted_to x (tags_of w.batch) added).node call (view_at q i) x.room
  pub server : HasServer q w.server
  pub started : (call : Call) → x.call ≡ Some call → Started (granted_to x (tags_of w.batch) added) y call

-- where the note is a grant's, the client has what was granted, and has started its call anew; else its node is as it was
abbrev pub Regards : Note → Served → ClientState → ClientState → Call → Type 0
Regards (Granted c names) w x y call = (added : List (ℕ × List ℕ)) × (length added ≡ names) × Started (granted_to x (tags_of w.batch) added) y call
Regards note w x y call = y.node ≡ x.node

-- What a grant has brought a client that wanted something: it knows all bindings, among them that of a put's key, and has a stock where it wanted one.
pub record Gained (x y : ClientState) (call : Call) (s : ServerState) : Type 0 where
  pub names : y.node.names ≡ s.directory.list
  pub stock : x.want ≡ Stock → 0 < length y.node.stock
  pub named : x.want ≡ Names → IsPut call → IsNamed y.node (key_of call)

-- where the note is a grant's
abbrev pub OnGrant : Note → Type 0 → Type 0
OnGrant (Granted c names) A = A
OnGrant note A = Unit {0}

-- The client of seat i, which wants something, had its step, which came to this note: in any run that leads to where it stood this is a step that serves it, and it stands where that leads.
pub record WasServed (o : Opening) (i : ℕ) (x y : ClientState) (v w : Served) (p q : Plain) (note : Note) : Type 0 where
  pub access : Option Access
  pub moved : Moved access None p q
  pub others : (j : ℕ) → j ≢ i → j ≢ o.setup.clients → view_at q j ≡ view_at p j
  pub after : Phase
  pub stands : Stands o q i y after
  pub server : HasServer q w.server
  pub grows : IsPrefix v.server.directory.list w.server.directory.list
  pub follows : (st : Standing) → IsOf i x p st → Matches x (view_at p i) Wants st.does → st.served ≡ v
      → IfSome access (IsAccess o.setup.pool st) × IsServed (st.actor) st.does x.want (call_at x (view_at p i)) v (step_record st access None note w) × Matches y (view_at q i) after (stepped st.does (step_record st access None note w))
  pub regards : Regards note w x y (call_at x (view_at p i))
  pub gained : OnGrant note (Gained x y (call_at x (view_at p i)) w.server)
  -- a step with which the server works on leaves it less to do
  pub lowers : note ≡ Quiet → work_left w.server < work_left v.server
  -- a client that wants names lacks some, also behind it
  pub lacks : LacksNames x (view_at p i) → LacksNames y (view_at q i)

-- A client of a small pool with its compute node: what holds between two calls and between two accesses, and what an access leaves.
use Prim.Native.Nat.{suc}
use Rattle.std.specs.Prelude.{◌≡◌, ◌≤◌, true, List, [], ◌∷◌, ◌++◌, length}
use Rattle.clover_words.specs.declared.bytes.ValueBuf.{ValueBuf}
use Rattle.clover_map.specs.declared.call.Call.{Call}
use Rattle.clover_map.specs.declared.call.Entry.{Entry}
use Rattle.clover_map.specs.declared.call.Reply.{Reply}
use Rattle.clover_plain.specs.Plain.{Plain, history, view_at}
use Rattle.clover_call.specs.Caller.{HasCommitted}
use Rattle.clover_call.specs.Turning.{reply_in}
use Rattle.clover_call.specs.declared.under.Underway.{Underway}
use Rattle.clover_node.specs.Going.{IsOpen, stock_behind}
use Rattle.clover_node.specs.Node.{NodeState, NodeHolds, IsIdle}
use Rattle.clover_node.specs.declared.answer.NodeTurn.{NodeTurn}
use Rattle.clover_node.specs.declared.answer.NodeTurn.TheVariants.{More, Decided, Done, Refused}
use Rattle.clover_node.specs.declared.counting.Counting.TheVariants.{No}
use Rattle.clover_pools.specs.Small.{IsReady, IsSmall}

-- the node is that of client 1, which has made each call of the pool's history
pub record IsOnly (p : Plain) (n : NodeState) : Type 0 where
  pub ready : IsReady p
  pub small : IsSmall p
  pub client : n.client ≡ 1
  pub pool : p.setup.pool ≡ n.caller.pool
  pub own : (view_at p 0).pass.calls ≡ history p

-- and it has no call under way
pub record Stands (p : Plain) (n : NodeState) : Type 0 where
  pub only : IsOnly p n
  pub idle : IsIdle n
  pub holds : (call : Call) (room : ValueBuf) → NodeHolds n call (view_at p 0) room

-- or this one
pub record Serves (p : Plain) (n : NodeState) (call : Call) (room : ValueBuf) : Type 0 where
  pub only : IsOnly p n
  pub busy : IsIdle n → ⊥
  pub holds : NodeHolds n call (view_at p 0) room

-- client 1's next entry behind these
abbrev pub next_entry : List Entry → Call → Reply → Entry
next_entry h call reply = record { client = 1; number = suc (length h); call = call; reply = reply }

-- what an access with this turn adds to the history: an entry where it decides the call
abbrev pub Adds : NodeTurn → Underway → Call → ValueBuf → List Entry → List Entry → Type 0
Adds More x call room h h1 = h1 ≡ h
Adds (Decided a) x call room h h1 = h1 ≡ h ++ next_entry h call (reply_in a room) ∷ []
Adds (Done a) x call room h h1 = (HasCommitted x → h1 ≡ h) × (IsOpen x → h1 ≡ h ++ next_entry h call (reply_in a room) ∷ [])
Adds (Refused y) x call room h h1 = h1 ≡ h

-- what is under way behind it: the same call, or nothing
abbrev pub Leaves : NodeTurn → Underway → NodeState → Type 0
Leaves More x n1 = (IsIdle n1 → ⊥) × (HasCommitted x → HasCommitted n1.caller.under) × (IsOpen x → IsOpen n1.caller.under)
Leaves (Decided a) x n1 = (IsIdle n1 → ⊥) × HasCommitted n1.caller.under
Leaves (Done a) x n1 = IsIdle n1
Leaves (Refused z) x n1 = IsIdle n1

-- what no access of the client changes of the pool
pub record LeavesServer (p q : Plain) : Type 0 where
  pub setup : q.setup ≡ p.setup
  pub seats : length q.views ≡ length p.views
  pub server : view_at q 1 ≡ view_at p 1

-- accesses of the node's call up to one that came to this turn
pub record Acted (t : NodeTurn) (call : Call) (n n1 : NodeState) (p q : Plain) (room1 : ValueBuf) : Type 0 where
  pub opened : q.opened ≡ true
  pub free : 1 ≤ q.entry_room
  pub entries : q.entries ≡ p.entries
  pub same : LeavesServer p q
  pub kept : n1 ≡ record n { caller = n1.caller; counting = No; stock = stock_behind t n.stock }
  pub pool : q.setup.pool ≡ n1.caller.pool
  pub holds : NodeHolds n1 call (view_at q 0) room1
  pub own : (view_at q 0).pass.calls ≡ history q
  pub adds : Adds t n.caller.under call room1 (history p) (history q)
  pub leaves : Leaves t n.caller.under n1

-- the node n has started this call, which has committed nothing
pub record HasBegun (n : NodeState) (n1 : NodeState) : Type 0 where
  pub kept : n1 ≡ record n { caller = n1.caller; counting = n1.counting }
  pub uncommitted : IsOpen n1.caller.under

-- a call from its start on, up to an access that came to this turn
pub record Came (t : NodeTurn) (call : Call) (n n1 : NodeState) (p q : Plain) (room1 : ValueBuf) : Type 0 where
  pub node : NodeState
  pub begun : HasBegun n node
  pub acted : Acted t call node n1 p q room1

-- a call has committed and is entered; it goes on
pub record IsCommitted (p : Plain) (n : NodeState) (call : Call) (room : ValueBuf) : Type 0 where
  pub serves : Serves p n call room
  pub committed : HasCommitted n.caller.under

-- One step of a node: how its call goes on, and what the turn says of the call, the stock, the room and what the client knows.
use Rattle.std.specs.Prelude.{◌≡◌, ◌⊎◌, ℕ, ◌<◌, ◌≤◌, List, [], ◌∷◌, ◌++◌, drop, length, Bool, false, true, Option, Some}
use Rattle.clover_words.specs.declared.bytes.ValueBuf.{ValueBuf}
use Rattle.clover_words.specs.declared.pool.Pool.{Pool}
use Rattle.clover_words.specs.Tag.{TagParts, tag_number}
use Rattle.clover_map.specs.declared.call.Call.{Call}
use Rattle.clover_map.specs.declared.call.Reply.{Reply}
use Rattle.clover_map.specs.declared.call.Reply.TheVariants.{Absent as AbsentReply}
use Rattle.clover_map.specs.declared.call.Entry.{Entry}
use Rattle.clover_rule.specs.Accesses.{Decides}
use Rattle.clover_rule.specs.Knowing.{link_entry}
use Rattle.clover_rule.specs.Steps.{Step, ReadCount, AbsentCount, act_of, client, reply_of}
use Rattle.clover_rule.specs.declared.view.View.{View}
use Rattle.clover_port.specs.Told.{Open, Made}
use Rattle.clover_walk.specs.Walking.{budget, most_accesses}
use Rattle.clover_call.specs.Going.{GoesOn, Went, Stays}
use Rattle.clover_call.specs.Caller.{HasCommitted, IsUncommitted, new_tag}
use Rattle.clover_call.specs.Turning.{reply_in}
use Rattle.clover_call.specs.declared.answer.Answer.TheVariants.{Absent}
use Rattle.clover_call.specs.declared.answer.CallerTurn.{CallerTurn}
use Rattle.clover_call.specs.declared.under.Underway.{Underway}
use Rattle.clover_call.specs.declared.under.Underway.TheVariants.{Nothing, Get, Write}
use Rattle.clover_node.specs.Asking.{Asking, due_asking, after_asking}
use Rattle.clover_node.specs.Mirroring.{NodeMirrors, TellsOf}
use Rattle.clover_node.specs.Node.{NodeState, IsIdle, IsPut, node_first, node_step}
use Rattle.clover_node.specs.Turning.{OnGoing, OnMade, OnOver, of_turn, count_turn}
use Rattle.clover_node.specs.declared.answer.NodeRefusal.TheVariants.{Linked, NeedsNames}
use Rattle.clover_node.specs.declared.answer.NodeTurn.{NodeTurn}
use Rattle.clover_node.specs.declared.answer.NodeTurn.TheVariants.{More, Decided, Done, Refused}
use Rattle.clover_node.specs.declared.counting.Counting.{Counting}
use Rattle.clover_node.specs.declared.counting.Counting.TheVariants.{No}

-- how the node goes on from n to n1 where its access found this number, to this turn: its caller does, or the count has ended the call
abbrev pub GoesAt : Counting → NodeState → View → ValueBuf → Step → ℕ → NodeTurn → NodeState → View → ValueBuf → Type 0
GoesAt No n v room step x t n1 w room1 = (r : CallerTurn) × (t ≡ of_turn r) × GoesOn n.caller.under room x r n1.caller.under room1 × Stays n.caller.under v step x n1.caller.under w r
GoesAt c n v room step x t n1 w room1 = (t ≡ count_turn c (length n.names) x) × (n1.caller ≡ n.caller) × (room1 ≡ room)

abbrev pub NodeGoesOn : NodeState → View → ValueBuf → Step → ℕ → NodeTurn → NodeState → View → ValueBuf → Type 0
NodeGoesOn n v room step x t n1 w room1 = GoesAt n.counting n v room step x t n1 w room1

-- By the definition of what a call does: the step of this access is the one that is due of the call where it was, what it found leads the call to where it is, and the turn tells where that is.
pub record IsDueAt (n : NodeState) (step : Step) (x : ℕ) (n1 : NodeState) (room1 : ValueBuf) (t : NodeTurn) (call : Call) (own : ℕ) (a : Asking) : Type 0 where
  pub step_due : Step
  pub due : due_asking call own a ≡ Some step_due
  pub acts : (k : ℕ) → act_of step k ≡ act_of step_due k
  pub leads : NodeMirrors n1 room1 call own (after_asking call own (length n.names) a x)
  pub tells : TellsOf call own (length n.names) x a (after_asking call own (length n.names) a x) t

-- of a call that is under way
abbrev pub NodeIsDue : NodeState → ValueBuf → Step → ℕ → NodeState → ValueBuf → NodeTurn → Type 0
NodeIsDue n room step x n1 room1 t = (call : Call) (own : ℕ) (a : Asking) → NodeMirrors n room call own a → IsDueAt n step x n1 room1 t call own a

-- What an access that was made was, where M tells that it was a step, the first of its call or a later one, and found a number: the node's next step; how the node goes on by it; and that this is what was due.
abbrev pub NodeMade : (Step → Bool → ℕ → Type 0) → NodeState → Call → View → ValueBuf → NodeState → View → ValueBuf → NodeTurn → Type 0
NodeMade M n call v room n1 w room1 t = OnMade t ((x : ℕ) × M (node_step n call v room) (node_first n) x × NodeGoesOn n v room (node_step n call v room) x t n1 w room1 × NodeIsDue n room (node_step n call v room) x n1 room1 t)

-- the load of the count gave the number of the client's names, among which the call's key is not, and the accesses of the call decide that it has nothing
pub record Missed (p : Pool) (call : Call) (v : View) (o : Option Open) (w : View) (o1 : Option Open) : Type 0 where
  pub made : Made p (AbsentCount call) true v o (length v.pass.names) w o1
  pub decides : Decides p made.now.words v.pass.names w.pass.since call AbsentReply

-- the load of the count gave this number
abbrev pub Loaded : Pool → Call → View → Option Open → ℕ → View → Option Open → Type 0
Loaded p call v o bound w o1 = Made p ReadCount true v o bound w o1 ⊎ Made p (AbsentCount call) true v o bound w o1

-- What the load of the count says by its turn: the call is absent exactly where the count was loaded as the number of names; the names do not suffice where there are more bindings, or for a put.
abbrev pub CountSays : Pool → NodeState → Call → View → Option Open → View → Option Open → NodeTurn → Type 0
CountSays p n call v o w o1 (Done Absent) = Missed p call v o w o1
CountSays p n call v o w o1 (Refused (NeedsNames known bound)) = (known ≡ length n.names) × Loaded p call v o bound w o1 × (known ≤ bound) × ((known < bound) ⊎ IsPut call)
CountSays p n call v o w o1 t = Unit {0}

-- what a step says that came to this turn: what the caller's turn says, or what the count does
abbrev pub SaysAt : Counting → Pool → NodeState → Call → ValueBuf → View → Option Open → NodeState → View → Option Open → NodeTurn → Type 0
SaysAt No p n call room1 v o n1 w o1 t = (r : CallerTurn) × (t ≡ of_turn r) × Went p n.caller.under n1.caller.under n.caller.cursors n1.caller.cursors room1 v o w o1 r
SaysAt c p n call room1 v o n1 w o1 t = CountSays p n call v o w o1 t

-- the stock behind a turn: the first tag has left it where this access committed the call
abbrev pub stock_behind : NodeTurn → List TagParts → List TagParts
stock_behind (Decided a) stock = drop 1 stock
stock_behind t stock = stock

-- the client's own calls with this one and its reply
abbrev pub with_entry : View → Call → Reply → List Entry
with_entry v call reply = v.pass.calls ++ link_entry v (client v) call reply ∷ []

-- nothing was committed yet
abbrev pub IsOpen : Underway → Type 0
IsOpen Nothing = Unit {0}
IsOpen (Get g) = IsUncommitted (Get g)
IsOpen (Write c) = IsUncommitted (Write c)

-- what a step that came to this turn adds to the client's own calls: the call with its reply where this access decided it, at the commit or at an answer without one
abbrev pub Enters : NodeTurn → Underway → Call → ValueBuf → View → View → Type 0
Enters (Decided a) x call room1 v w = w.pass.calls ≡ with_entry v call (reply_in a room1)
Enters (Done a) x call room1 v w = (HasCommitted x → w.pass.calls ≡ v.pass.calls) × (IsOpen x → w.pass.calls ≡ with_entry v call (reply_in a room1))
Enters t x call room1 v w = w.pass.calls ≡ v.pass.calls

-- the turn says whether the call had committed and has, and by which tag
abbrev pub NodeTurns : NodeTurn → Underway → Underway → Call → ValueBuf → Type 0
NodeTurns More x y call room1 = ((IsOpen x × IsOpen y) ⊎ (HasCommitted x × HasCommitted y)) × (new_tag y ≡ new_tag x)
NodeTurns (Decided a) x y call room1 = IsOpen x × HasCommitted y × (new_tag y ≡ new_tag x) × (reply_in a room1 ≡ reply_of (new_tag x) call)
NodeTurns (Done a) x y call room1 = IsOpen x ⊎ (HasCommitted x × (reply_in a room1 ≡ reply_of (new_tag x) call))
NodeTurns (Refused (Linked t)) x y call room1 = HasCommitted x × (tag_number t ≡ new_tag x)
NodeTurns (Refused z) x y call room1 = IsOpen x

-- a call that goes on is under way, and has made an access, and no more accesses than its turns allow, which are below the budget
pub record GoesFar (n1 : NodeState) (w : View) : Type 0 where
  pub busy : IsIdle n1 → ⊥
  pub later : node_first n1 ≡ false
  pub bound : length w.pass.since ≤ most_accesses n1.caller.pool w.pass.turns
  pub ahead : w.pass.turns < budget n1.caller.pool

-- the load of the count leaves the caller as it was, also where it is refused
abbrev pub KeepsCaller : Counting → NodeState → NodeState → Type 0
KeepsCaller No n n1 = Unit {0}
KeepsCaller c n n1 = n1.caller ≡ n.caller

-- What a step that came to this turn says of the node n before it and n1 behind it, of its call, of the room, and of what the client knew and knows.
pub record NodeWent (n : NodeState) (call : Call) (room1 : ValueBuf) (v : View) (o : Option Open) (n1 : NodeState) (w : View) (o1 : Option Open) (t : NodeTurn) : Type 0 where
  pub kept : n1 ≡ record n { caller = n1.caller; counting = No; stock = stock_behind t n.stock }
  pub pool : n1.caller.pool ≡ n.caller.pool
  pub still : KeepsCaller n.counting n n1
  pub turns : NodeTurns t n.caller.under n1.caller.under call room1
  pub going : OnGoing t (GoesFar n1 w)
  pub over : OnOver t (IsIdle n1)
  pub says : SaysAt n.counting n.caller.pool n call room1 v o n1 w o1 t
  pub enters : Enters t n.caller.under call room1 v w

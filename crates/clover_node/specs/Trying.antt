-- A call from its start to its end, as a node makes it at once.
use Rattle.std.specs.Prelude.{◌≡◌, ◌⊎◌, ℕ, Option, Result, Ok, Err, length, if◌then◌else◌}
use Rattle.clover_words.specs.declared.bytes.ValueBuf.{ValueBuf}
use Rattle.clover_words.specs.declared.pool.Pool.{Pool}
use Rattle.clover_words.specs.Tag.{tag_number}
use Rattle.clover_map.specs.declared.call.Call.{Call}
use Rattle.clover_rule.specs.Steps.{reply_of}
use Rattle.clover_rule.specs.declared.view.View.{View}
use Rattle.clover_port.specs.Told.{Open}
use Rattle.clover_walk.specs.Walking.{budget, most_accesses}
use Rattle.clover_call.specs.Turning.{reply_in}
use Rattle.clover_call.specs.declared.answer.Answer.{Answer}
use Rattle.clover_node.specs.Beginning.{Refuses}
use Rattle.clover_node.specs.Going.{NodeWent, with_entry}
use Rattle.clover_node.specs.Node.{NodeState, node_first}
use Rattle.clover_node.specs.declared.answer.NodeRefusal.{NodeRefusal}
use Rattle.clover_node.specs.declared.answer.NodeRefusal.TheVariants.{Linked}
use Rattle.clover_node.specs.declared.answer.NodeTurn.{NodeTurn}
use Rattle.clover_node.specs.declared.answer.NodeTurn.TheVariants.{Done, Refused}

-- the turn of the last step of a call that came to this
abbrev pub end_of : Result Answer NodeRefusal → NodeTurn
end_of (Ok a) = Done a
end_of (Err y) = Refused y

-- the most accesses of a call: its turns stay below the budget
abbrev pub most_of : Pool → ℕ
most_of p = most_accesses p (budget p)

-- how many accesses the call under way has made
abbrev pub spent : NodeState → View → ℕ
spent n v = if node_first n then 0 else length v.pass.since

-- what a call that came to this end added to its client's own calls: an answered one itself with its reply; one that was cut off behind its commit itself with the reply that its tag gives; any other one nothing
abbrev pub Adds : NodeTurn → Call → ValueBuf → View → View → Type 0
Adds (Done a) call room1 v w = w.pass.calls ≡ with_entry v call (reply_in a room1)
Adds (Refused (Linked t)) call room1 v w = w.pass.calls ≡ with_entry v call (reply_of (tag_number t) call)
Adds t call room1 v w = w.pass.calls ≡ v.pass.calls

-- the last step of the call, and what it says
pub record IsLast (call : Call) (room1 : ValueBuf) (n1 : NodeState) (w : View) (o1 : Option Open) (t : NodeTurn) : Type 0 where
  pub node : NodeState
  pub view : View
  pub told : Option Open
  pub went : NodeWent node call room1 view told n1 w o1 t

-- A call that was started where its client's view was v came to this end.
pub record Finished (call : Call) (v : View) (room1 : ValueBuf) (n1 : NodeState) (w : View) (o1 : Option Open) (t : NodeTurn) : Type 0 where
  pub last : IsLast call room1 n1 w o1 t
  pub adds : Adds t call room1 v w

-- the node n did not start the call, and nothing has changed
pub record Unstarted (n : NodeState) (call : Call) (v : View) (o : Option Open) (n1 : NodeState) (w : View) (o1 : Option Open) (t : NodeTurn) : Type 0 where
  pub refusal : NodeRefusal
  pub is : t ≡ Refused refusal
  pub cause : Refuses n call refusal
  pub node : n1 ≡ n
  pub view : w ≡ v
  pub told : o1 ≡ o

-- A call that writes: it was not started, or came to this end; what it answers has no value in any room.
abbrev pub Tried : NodeState → Call → View → Option Open → NodeState → View → Option Open → NodeTurn → Type 0
Tried n call v o n1 w o1 t = Unstarted n call v o n1 w o1 t ⊎ ((room : ValueBuf) × Finished call v room n1 w o1 t)

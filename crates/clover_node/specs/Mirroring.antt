-- Where what a node has under way is, by the definition of what a call does.
use Rattle.std.specs.Prelude.{◌≡◌, ℕ}
use Rattle.clover_words.specs.declared.bytes.ValueBuf.{ValueBuf}
use Rattle.clover_map.specs.declared.call.Call.{Call}
use Rattle.clover_call.specs.Calling.{Calling}
use Rattle.clover_call.specs.Mirroring.{Mirrors}
use Rattle.clover_call.specs.Turning.{Tells}
use Rattle.clover_call.specs.declared.answer.Answer.TheVariants.{Absent}
use Rattle.clover_call.specs.declared.answer.CallerTurn.{CallerTurn}
use Rattle.clover_call.specs.declared.under.Underway.{Underway}
use Rattle.clover_call.specs.declared.under.Underway.TheVariants.{Nothing}
use Rattle.clover_node.specs.Asking.{Asking, Counts, Calls, Misses, Lacks}
use Rattle.clover_node.specs.Node.{NodeState, Counts as CountsFor}
use Rattle.clover_node.specs.Turning.{of_turn}
use Rattle.clover_node.specs.declared.answer.NodeRefusal.TheVariants.{NeedsNames}
use Rattle.clover_node.specs.declared.answer.NodeTurn.{NodeTurn}
use Rattle.clover_node.specs.declared.answer.NodeTurn.TheVariants.{Done, Refused}
use Rattle.clover_node.specs.declared.counting.Counting.{Counting}
use Rattle.clover_node.specs.declared.counting.Counting.TheVariants.{No}

-- what is under way on a slot is where the call of the definition is
abbrev pub UnderMirrors : Underway → ValueBuf → Call → ℕ → Asking → Type 0
UnderMirrors Nothing room call own a = Unit {0}
UnderMirrors u room call own a = (c : Calling) × (a ≡ Calls c) × Mirrors u room call own c

-- what is under way is this call with this new tag, where that is by the definition
abbrev pub AskMirrors : Counting → NodeState → ValueBuf → Call → ℕ → Asking → Type 0
AskMirrors No n room call own a = UnderMirrors n.caller.under room call own a
AskMirrors c n room call own a = CountsFor c call × (a ≡ Counts)

abbrev pub NodeMirrors : NodeState → ValueBuf → Call → ℕ → Asking → Type 0
NodeMirrors n room call own a = AskMirrors n.counting n room call own a

-- What a turn tells of where its access left the call, which was at a and is at b: of one on a slot what the caller's turn tells; the count has ended the call as absent, or for want of names, of which the client has so many where so many bindings are.
abbrev pub TellsOf : Call → ℕ → ℕ → ℕ → Asking → Asking → NodeTurn → Type 0
TellsOf call own known bound (Calls c) (Calls d) t = (r : CallerTurn) × (t ≡ of_turn r) × Tells call own c d r
TellsOf call own known bound Counts Misses t = (t ≡ Done Absent) × (bound ≡ known)
TellsOf call own known bound Counts Lacks t = t ≡ Refused (NeedsNames known bound)
TellsOf call own known bound a b t = ⊥

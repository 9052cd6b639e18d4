-- What the turn of a node's step says.
use Rattle.std.specs.Prelude.{ℕ, eqb, if◌then◌else◌}
use Rattle.clover_call.specs.declared.answer.Answer.TheVariants.{Absent}
use Rattle.clover_call.specs.declared.answer.CallerRefusal.{CallerRefusal}
use Rattle.clover_call.specs.declared.answer.CallerRefusal.TheVariants.{Unreached as CallUnreached, Behind as CallBehind, Linked as CallLinked, TooLong as CallTooLong}
use Rattle.clover_call.specs.declared.answer.CallerTurn.{CallerTurn}
use Rattle.clover_call.specs.declared.answer.CallerTurn.TheVariants.{More as CallMore, Decided as CallDecided, Done as CallDone, Refused as CallRefused}
use Rattle.clover_node.specs.declared.answer.NodeRefusal.{NodeRefusal}
use Rattle.clover_node.specs.declared.answer.NodeRefusal.TheVariants.{Unreached, Behind, Linked, TooLong, NeedsNames}
use Rattle.clover_node.specs.declared.answer.NodeTurn.{NodeTurn}
use Rattle.clover_node.specs.declared.answer.NodeTurn.TheVariants.{More, Decided, Done, Refused}
use Rattle.clover_node.specs.declared.counting.Counting.{Counting}
use Rattle.clover_node.specs.declared.counting.Counting.TheVariants.{No, Names, Absence}

-- a caller's refusal and its turn, as the node's
abbrev pub of_refusal : CallerRefusal → NodeRefusal
of_refusal CallUnreached = Unreached
of_refusal (CallBehind turns) = Behind turns
of_refusal (CallLinked t) = Linked t
of_refusal (CallTooLong length room) = TooLong length room

abbrev pub of_turn : CallerTurn → NodeTurn
of_turn CallMore = More
of_turn (CallDecided a) = Decided a
of_turn (CallDone a) = Done a
of_turn (CallRefused y) = Refused (of_refusal y)

-- the turn of a load of the count, where the node has so many names and so many bindings there are
abbrev pub count_turn : Counting → ℕ → ℕ → NodeTurn
count_turn No known bound = Refused (NeedsNames known bound)
count_turn Names known bound = Refused (NeedsNames known bound)
count_turn Absence known bound = if eqb bound known then Done Absent else Refused (NeedsNames known bound)

-- where the access was made
abbrev pub OnMade : NodeTurn → Type 0 → Type 0
OnMade (Refused Unreached) A = Unit {0}
OnMade (Refused (Linked t)) A = Unit {0}
OnMade r A = A

-- where it was refused
abbrev pub OnRefused : NodeTurn → Type 0 → Type 0
OnRefused (Refused Unreached) A = A
OnRefused (Refused (Linked t)) A = A
OnRefused r A = Unit {0}

-- where the call goes on, and where it is over
abbrev pub OnGoing : NodeTurn → Type 0 → Type 0
OnGoing More A = A
OnGoing (Decided a) A = A
OnGoing r A = Unit {0}

abbrev pub OnOver : NodeTurn → Type 0 → Type 0
OnOver (Done a) A = A
OnOver (Refused y) A = A
OnOver r A = Unit {0}

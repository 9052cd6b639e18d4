-- What the turn of a caller's step says.
use Rattle.std.specs.Prelude.{◌≡◌, ℕ, [], Bool, false, true, Option, Some, IsSome}
use Rattle.clover_words.specs.declared.bytes.ValueBuf.{ValueBuf}
use Rattle.clover_words.specs.Tag.{TagParts, tag_number}
use Rattle.clover_map.specs.declared.call.Call.{Call}
use Rattle.clover_map.specs.declared.call.Reply.{Reply}
use Rattle.clover_map.specs.declared.call.Reply.TheVariants.{Stored as StoredReply, Found as FoundReply, Absent as AbsentReply, Deleted as DeletedReply, Differs as DiffersReply}
use Rattle.clover_walk.specs.Walking.{Ended}
use Rattle.clover_get.specs.Getting.{value_in}
use Rattle.clover_put.specs.declared.job.Job.{Job}
use Rattle.clover_put.specs.declared.job.Job.TheVariants.{Put, Delete, Swap}
use Rattle.clover_call.specs.declared.answer.Answer.{Answer}
use Rattle.clover_call.specs.declared.answer.Answer.TheVariants.{Stored, Found, Absent, Deleted, Differs}
use Rattle.clover_call.specs.declared.answer.CallerRefusal.TheVariants.{Unreached, Behind, Linked}
use Rattle.clover_call.specs.declared.answer.CallerTurn.{CallerTurn}
use Rattle.clover_call.specs.declared.answer.CallerTurn.TheVariants.{More, Decided, Done, Refused}
use Rattle.clover_call.specs.declared.under.Underway.{Underway}
use Rattle.clover_call.specs.declared.under.Underway.TheVariants.{Nothing}
use Rattle.clover_call.specs.Calling.{Calling, due}

-- the reply that an answer is, with the value that stands in the room
abbrev pub reply_in : Answer → ValueBuf → Reply
reply_in (Stored t) room = StoredReply (tag_number t)
reply_in (Found t flags) room = FoundReply (tag_number t) (value_in flags room)
reply_in Absent room = AbsentReply
reply_in (Deleted t) room = DeletedReply (tag_number t)
reply_in (Differs t) room = DiffersReply (tag_number t)

-- the answer to a job that committed this tag
abbrev pub committed_as : Job → TagParts → Answer
committed_as Put t = Stored t
committed_as Delete t = Deleted t
committed_as (Swap expected) t = Stored t

-- the tag is the answer's, where that has one
abbrev pub IsTagOf : Answer → TagParts → Type 0
IsTagOf (Stored u) t = u ≡ t
IsTagOf (Found u flags) t = u ≡ t
IsTagOf Absent t = Unit {0}
IsTagOf (Deleted u) t = u ≡ t
IsTagOf (Differs u) t = u ≡ t

-- the answer is none to a commit
abbrev pub CommitsNothing : Answer → Type 0
CommitsNothing (Stored u) = ⊥
CommitsNothing (Deleted u) = ⊥
CommitsNothing a = Unit {0}

-- where a value was found, these are its flags
abbrev pub IsFlagged : Answer → Option ℕ → Type 0
IsFlagged (Found u flags) o = o ≡ Some flags
IsFlagged a o = Unit {0}

-- where the access was made
abbrev pub OnMade : CallerTurn → Type 0 → Type 0
OnMade (Refused Unreached) A = Unit {0}
OnMade (Refused (Linked t)) A = Unit {0}
OnMade r A = A

-- where it was refused
abbrev pub OnRefused : CallerTurn → Type 0 → Type 0
OnRefused (Refused Unreached) A = A
OnRefused (Refused (Linked t)) A = A
OnRefused r A = Unit {0}

-- where the call goes on
abbrev pub OnGoing : CallerTurn → Type 0 → Type 0
OnGoing More A = A
OnGoing (Decided a) A = A
OnGoing r A = Unit {0}

-- where it is over
abbrev pub OnOver : CallerTurn → Type 0 → Type 0
OnOver (Done a) A = A
OnOver (Refused y) A = A
OnOver r A = Unit {0}

-- where it goes on without a commit, or has fallen behind
abbrev pub OnNothing : CallerTurn → Type 0 → Type 0
OnNothing More A = A
OnNothing (Refused (Behind turns)) A = A
OnNothing r A = Unit {0}

-- where the access was made and the call has not fallen behind
abbrev pub OnAhead : CallerTurn → Type 0 → Type 0
OnAhead (Refused y) A = Unit {0}
OnAhead r A = A

abbrev pub IfDecided : CallerTurn → (Answer → Type 0) → Type 0
IfDecided (Decided a) P = P a
IfDecided r P = Unit {0}

abbrev pub IfDone : CallerTurn → (Answer → Type 0) → Type 0
IfDone (Done a) P = P a
IfDone r P = Unit {0}

-- where the call has not ended with an answer
abbrev pub UnlessDone : CallerTurn → Type 0 → Type 0
UnlessDone (Done a) A = Unit {0}
UnlessDone r A = A

abbrev pub IfBehind : CallerTurn → (ℕ → Type 0) → Type 0
IfBehind (Refused (Behind turns)) P = P turns
IfBehind r P = Unit {0}

-- the call is over
abbrev pub ends : CallerTurn → Bool
ends More = false
ends (Decided a) = false
ends (Done a) = true
ends (Refused y) = true

-- what is under way behind a turn: the call, where it goes on
abbrev pub left_by : CallerTurn → Underway → Underway
left_by More u = u
left_by (Decided a) u = u
left_by (Done a) u = Nothing
left_by (Refused y) u = Nothing

-- What a turn tells of where its access left the call, which was at c and is at n: it has a step to make, and has committed by this access at `Decided` alone; it is over; or its turns have reached the budget.
abbrev pub Tells : Call → ℕ → Calling → Calling → CallerTurn → Type 0
Tells call own c n More = IsSome (due call own n) × (n.over ≡ c.over)
Tells call own c n (Decided a) = IsSome (due call own n) × (c.over ≡ false) × (n.over ≡ true)
Tells call own c n (Done a) = (n.steps ≡ []) × (n.over ≡ true)
Tells call own c n (Refused (Behind turns)) = (n.steps ≡ []) × (n.over ≡ false) × (n.walk.stand ≡ Ended)
Tells call own c n (Refused y) = ⊥

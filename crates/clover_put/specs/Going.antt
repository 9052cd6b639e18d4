-- One step of a put: what its answer says of the call, and of what the client knows.
use Rattle.std.specs.Prelude.{◌≡◌, ◌<◌, ◌≤◌, length, Option}
use Rattle.clover_words.specs.declared.pool.Pool.{Pool}
use Rattle.clover_words.specs.Tag.{TagParts, tag_number}
use Rattle.clover_map.specs.declared.call.Reply.TheVariants.{Absent, Differs}
use Rattle.clover_port.specs.Told.{Open}
use Rattle.clover_rule.specs.Content.{InRange}
use Rattle.clover_rule.specs.Lists.{Within}
use Rattle.clover_rule.specs.declared.view.View.{View}
use Rattle.clover_walk.specs.Ending.{Ended, Commits}
use Rattle.clover_walk.specs.Walking.{budget, most_accesses}
use Rattle.clover_walk.specs.declared.turn.Turn.{Turn}
use Rattle.clover_walk.specs.declared.turn.Turn.TheVariants.{More as WalksOn, AtTail, Behind as WalkBehind, Unreached as WalkUnreached}
use Rattle.clover_put.specs.declared.job.Job.{Job}
use Rattle.clover_put.specs.declared.job.Job.TheVariants.{Put, Delete, Swap}
use Rattle.clover_put.specs.declared.turn.PutTurn.{PutTurn}
use Rattle.clover_put.specs.declared.turn.PutTurn.TheVariants.{More, Behind, Unreached, Stored, Deleted}
use Rattle.clover_put.specs.Answering.{Answers, OnReached, OnGoing, OnAhead, IfDecided, IfEnded, IfAbsent, IfDiffers, IfBehind}
use Rattle.clover_put.specs.Holding.{PutHolds}
use Rattle.clover_put.specs.Putting.{Putting, call_at}

-- what a step of the call c with this answer says of the call n that it left, and of what the client knew before and knows now
pub record Went (p : Pool) (c n : Putting) (v : View) (o : Option Open) (w : View) (o1 : Option Open) (r : PutTurn) : Type 0 where
  pub answer : Answers c n r
  pub decided : IfDecided r (λ t. Commits p (call_at c v) c.own v o w o1)
  pub known : IfEnded r (λ t. InRange c.walk.pool (tag_number t) × Within (c.walk.slot, tag_number t) w.pass.durable)
  pub absent : IfAbsent r (λ t. Ended p (call_at c v) Absent v o w o1)
  pub differs : IfDiffers r (λ t. Ended p (call_at c v) (Differs (tag_number t)) v o w o1)
  pub behind : IfBehind r (λ k. (k ≡ budget c.walk.pool) × (w.pass.turns ≡ budget c.walk.pool))
  pub ahead : OnAhead r (w.pass.turns < budget c.walk.pool)
  pub stands : OnGoing r (PutHolds n w)
  pub bound : OnReached r (length w.pass.since ≤ most_accesses c.walk.pool w.pass.turns)

-- the answer of a put whose walk came to this
abbrev pub answer_of : Turn → PutTurn
answer_of WalksOn = More
answer_of (AtTail t) = More
answer_of (WalkBehind n) = Behind n
answer_of WalkUnreached = Unreached

-- the answer of a job whose own version is durable
abbrev pub done_with : Job → TagParts → PutTurn
done_with Put t = Stored t
done_with Delete t = Deleted t
done_with (Swap e) t = Stored t

-- One step of a get: what its answer says of the call, the room, and what the actor knows.
use Rattle.std.specs.Prelude.{◌≡◌, ℕ, ◌<◌, ◌≤◌, length, List, Option}
use Rattle.clover_words.specs.declared.bytes.ValueBuf.{ValueBuf}
use Rattle.clover_words.specs.declared.pool.Pool.{Pool}
use Rattle.clover_words.specs.Tag.{tag_number}
use Rattle.clover_map.specs.declared.bytes.Value.{Value}
use Rattle.clover_map.specs.declared.call.Call.TheVariants.{Get}
use Rattle.clover_map.specs.declared.call.Reply.TheVariants.{Found, Absent}
use Rattle.clover_port.specs.Told.{Open, Made}
use Rattle.clover_rule.specs.Content.{InRange}
use Rattle.clover_rule.specs.Lists.{Within}
use Rattle.clover_rule.specs.declared.view.View.{View}
use Rattle.clover_walk.specs.Ending.{Ended}
use Rattle.clover_walk.specs.Walking.{key_at, budget, most_accesses}
use Rattle.clover_walk.specs.declared.turn.Turn.{Turn}
use Rattle.clover_walk.specs.declared.turn.Turn.TheVariants.{More as WalksOn, AtTail, Behind as WalkBehind, Unreached as WalkUnreached}
use Rattle.clover_get.specs.declared.turn.GetTurn.TheVariants.{More, Behind, Unreached}
use Rattle.clover_get.specs.declared.turn.GetTurn.{GetTurn}
use Rattle.clover_get.specs.Answering.{OnReached, OnGoing, OnOver, OnAhead, IfFound, IfAbsent, IfAnswered, IfBehind}
use Rattle.clover_get.specs.Getting.{Getting, AtFound, Over, get_step, value_in, GoesOn, FillsFrom}
use Rattle.clover_get.specs.Holding.{GetHolds}

-- the key of the get, as its actor's copy of the bindings has it
abbrev pub key_of : Getting → View → List ℕ
key_of g v = key_at v.pass.names g.walk.slot

-- exactly one access was made, the one that the get's stage says, and the get went on and the room was filled by what it found
abbrev pub OneAccess : Pool → Getting → Getting → ValueBuf → ValueBuf → View → Option Open → View → Option Open → Type 0
OneAccess p g g1 into into1 v o v1 o1 = (x : ℕ) × Made p (get_step g (key_of g v) into) g.walk.first v o x v1 o1 × GoesOn g into1.length x g1 × FillsFrom g.stage x into into1

-- the last load showed the tag unlinked, and the accesses of the call decide that the key has this value under it
abbrev pub FoundAt : Pool → Getting → ℕ → Value → View → Option Open → View → Option Open → Type 0
FoundAt p g t x v o v1 o1 = (e : Ended p (Get (key_of g v)) (Found t x) v o v1 o1) × (e.slot ≡ g.walk.slot) × (e.tag ≡ t)

-- the last load showed the tombstone's tag unlinked, and the accesses of the call decide that the key is absent
abbrev pub AbsentAt : Pool → Getting → ℕ → View → Option Open → View → Option Open → Type 0
AbsentAt p g t v o v1 o1 = (e : Ended p (Get (key_of g v)) Absent v o v1 o1) × (e.slot ≡ g.walk.slot) × (e.tag ≡ t)

-- what a step with this answer says of the call, the room and what the actor knows
pub record Went (p : Pool) (g g1 : Getting) (into into1 : ValueBuf) (v : View) (o : Option Open) (v1 : View) (o1 : Option Open) (r : GetTurn) : Type 0 where
  pub found : IfFound r (λ t f. FoundAt p g (tag_number t) (value_in f into1) v o v1 o1)
  pub at : IfFound r (λ t f. (g.stage ≡ AtFound (tag_number t) f) × (into1 ≡ into))
  pub absent : IfAbsent r (λ t. AbsentAt p g (tag_number t) v o v1 o1)
  pub known : IfAnswered r (λ t. InRange g.walk.pool (tag_number t) × Within (g.walk.slot, tag_number t) v1.pass.durable)
  pub behind : IfBehind r (λ n. (n ≡ budget p) × (v1.pass.turns ≡ budget p))
  pub ahead : OnAhead r (v1.pass.turns < budget p)
  pub stands : OnGoing r (GetHolds g1 v1 into1)
  pub ends : OnOver r (g1.stage ≡ Over)
  pub bound : OnReached r (length v1.pass.since ≤ most_accesses p v1.pass.turns)

-- the answer of a get whose walk came to this
abbrev pub answer_of : Turn → GetTurn
answer_of WalksOn = More
answer_of (AtTail t) = More
answer_of (WalkBehind n) = Behind n
answer_of WalkUnreached = Unreached

-- A caller: the call that it has under way, the cursors that it keeps, and what its client knows while that is so.
use Rattle.std.specs.Prelude.{◌≡◌, ℕ, [], Bool, false, All, Option, Some, None, IfSome}
use Rattle.clover_words.specs.declared.bytes.ValueBuf.{ValueBuf}
use Rattle.clover_words.specs.declared.pool.Pool.{Pool}
use Rattle.clover_words.specs.Tag.{TagParts, tag_number}
use Rattle.clover_map.specs.declared.call.Call.{Call}
use Rattle.clover_map.specs.declared.call.Call.TheVariants.{Get as GetOf}
use Rattle.clover_rule.specs.Content.{InRange}
use Rattle.clover_rule.specs.Lists.{Within}
use Rattle.clover_rule.specs.Steps.{Step, ReadRoot, IsClient}
use Rattle.clover_rule.specs.declared.view.View.{View}
use Rattle.clover_cache.specs.Node.{Known}
use Rattle.clover_get.specs.Getting.{Stage as GetStage, AtFound, get_step}
use Rattle.clover_get.specs.Going.{key_of}
use Rattle.clover_get.specs.Holding.{GetHolds}
use Rattle.clover_put.specs.Answering.{IsBefore, IsBehind}
use Rattle.clover_put.specs.Holding.{PutHolds}
use Rattle.clover_put.specs.Putting.{put_step, call_at}
use Rattle.clover_call.specs.declared.under.Underway.{Underway}
use Rattle.clover_call.specs.declared.under.Underway.TheVariants.{Nothing, Get, Write}

-- what contracts see of a caller
pub record CallerState : Type 0 where
  pub pool : Pool
  pub cursors : Known
  pub under : Underway

-- a caller that has answered no call yet
abbrev pub first_caller : Pool → CallerState
first_caller p = record { pool = p; cursors = record { last = None; list = [] }; under = Nothing }

-- the flags of the value in the room, where a get is at the last load for it
abbrev pub flags_at : GetStage → Option ℕ
flags_at (AtFound t flags) = Some flags
flags_at s = None

abbrev pub copied_flags : Underway → Option ℕ
copied_flags (Get g) = flags_at g.stage
copied_flags u = None

-- the slot of the call under way
abbrev pub slot_of : Underway → ℕ
slot_of Nothing = 0
slot_of (Get g) = g.walk.slot
slot_of (Write c) = c.walk.slot

-- the tag that it is to commit; a get has none
abbrev pub new_tag : Underway → ℕ
new_tag Nothing = 0
new_tag (Get g) = 0
new_tag (Write c) = c.own

-- the call itself, on the key that its client knows the slot to have; where nothing is under way no clause asks for it
abbrev pub call_under : Underway → View → Call
call_under Nothing v = GetOf []
call_under (Get g) v = GetOf (key_of g v)
call_under (Write c) v = call_at c v

-- the step that its next access is
abbrev pub next_step : Underway → View → ValueBuf → Step
next_step Nothing v room = ReadRoot 0
next_step (Get g) v room = get_step g (key_of g v) room
next_step (Write c) v room = put_step c v

-- whether that is the first access of the call
abbrev pub is_first : Underway → Bool
is_first Nothing = false
is_first (Get g) = g.walk.first
is_first (Write c) = c.walk.first

-- the call has committed its new tag
abbrev pub HasCommitted : Underway → Type 0
HasCommitted (Write c) = IsBehind c.stage
HasCommitted u = ⊥

-- a call is under way that has committed nothing
abbrev pub IsUncommitted : Underway → Type 0
IsUncommitted Nothing = ⊥
IsUncommitted (Get g) = Unit {0}
IsUncommitted (Write c) = IsBefore c.stage

-- a cursor of a slot is a tag of the pool that the client knows to be durable there
abbrev pub IsCursor : Pool → View → ℕ × TagParts → Type 0
IsCursor p v q = InRange p (tag_number q.1) × Within (q.0, tag_number q.1) v.pass.durable

pub record AreCursors (p : Pool) (v : View) (k : Known) : Type 0 where
  pub last : IfSome k.last (IsCursor p v)
  pub list : All (IsCursor p v) k.list

-- what the client knows where its call is, and what the room has of the value that a get reads
abbrev pub CallHolds : Pool → Underway → View → ValueBuf → Type 0
CallHolds p Nothing v room = Unit {0}
CallHolds p (Get g) v room = (g.walk.pool ≡ p) × GetHolds g v room
CallHolds p (Write c) v room = (c.walk.pool ≡ p) × PutHolds c v

-- The view is that of the caller's client, in the caller's pool: the client knows each cursor to be durable in its slot, and what the call under way needs.
pub record CallerHolds (n : CallerState) (v : View) (room : ValueBuf) : Type 0 where
  pub pool : v.pass.pool ≡ n.pool
  pub client : IsClient v
  pub cursors : AreCursors n.pool v n.cursors
  pub call : CallHolds n.pool n.under v room

-- A get of a slot's key: where it stands, which step its next access is, and how it goes on by what that access found.
use Prim.Native.Nat.{suc}
use Rattle.std.specs.Prelude.{◌≡◌, ℕ, ◌*◌, ◌==◌, List, ltb, take, Option, Some, None, IfSome, if◌then◌else◌}
use Rattle.clover_words.specs.declared.bytes.ValueBuf.{ValueBuf}
use Rattle.clover_words.specs.declared.meta.Kind.{Kind}
use Rattle.clover_words.specs.declared.meta.Kind.TheVariants.{Value as IsValue, Tombstone}
use Rattle.clover_words.specs.declared.pool.Pool.{Pool}
use Rattle.clover_words.specs.Meta.{MetaParts, IsMeta, meta_word}
use Rattle.clover_words.specs.Pack.{words_of, with_eight}
use Rattle.clover_words.specs.Version.{unlinked}
use Rattle.clover_map.specs.declared.bytes.Value.{Value}
use Rattle.clover_map.specs.declared.call.Call.TheVariants.{Get}
use Rattle.clover_map.specs.declared.call.Reply.TheVariants.{Found, Absent}
use Rattle.clover_rule.specs.Steps.{Step, LoadNext, DecideNext, LoadContent}
use Rattle.clover_walk.specs.Walking.{Walking, Stand as Standing, OnTail, Ended, walk_step, goes_on}

-- where a get stands: on its walk, at the tail's meta word, at a value word of the tail, at the last load for a value or for a tombstone, at a tag whose meta word was no version's, or at its end
pub data Stage : Type 0 where
  Seeking : Stage
  AtMeta : ℕ → Stage
  AtValue : ℕ → ℕ → ℕ → Stage
  AtFound : ℕ → ℕ → Stage
  AtDead : ℕ → Stage
  AtBad : ℕ → Stage
  Over : Stage

-- a get: its walk, and where it stands
pub record Getting : Type 0 where
  pub walk : Walking
  pub stage : Stage

-- a get with this walk at this stage
abbrev pub getting : Walking → Stage → Getting
getting w s = record { walk = w; stage = s }

-- it has more accesses to make
abbrev pub IsOpen : Stage → Type 0
IsOpen Over = ⊥
IsOpen s = Unit {0}

-- the value in the room, with these flags
abbrev pub value_in : ℕ → ValueBuf → Value
value_in f into = record { flags = f; bytes = take into.length into.bytes }

-- the step that the next access is, for a key and a room; a get that has ended makes none
abbrev pub step_from : Stage → Walking → List ℕ → ValueBuf → Step
step_from Seeking w k into = walk_step w
step_from (AtMeta t) w k into = LoadContent w.slot t 0
step_from (AtValue t f j) w k into = LoadContent w.slot t (suc j)
step_from (AtFound t f) w k into = DecideNext w.slot t (Get k) (Found t (value_in f into))
step_from (AtDead t) w k into = DecideNext w.slot t (Get k) Absent
step_from (AtBad t) w k into = LoadNext w.slot t
step_from Over w k into = walk_step w

-- the step that the next access of the get is
abbrev pub get_step : Getting → List ℕ → ValueBuf → Step
get_step g k into = step_from g.stage g.walk k into

-- the stage of a get whose walk stands there
abbrev pub stage_at : Standing → Stage
stage_at (OnTail t) = AtMeta t
stage_at Ended = Over
stage_at s = Seeking

-- a get that goes with its walk
abbrev pub sought : Walking → Getting
sought w = getting w (stage_at w.stand)

-- the next value word of a value of so many bytes, or the last load
abbrev pub valued : ℕ → ℕ → ℕ → ℕ → Stage
valued t f size j = if ltb j (words_of size) then AtValue t f j else AtFound t f

-- what a meta word leads to: a value that the buffers have room for, a tombstone, or neither
abbrev pub read_kind : Pool → ℕ → Kind → ℕ → ℕ → Stage
read_kind p t IsValue f size = if ltb (8 * p.words) size then AtBad t else valued t f size 0
read_kind p t Tombstone f size = AtDead t

-- the stage behind the load of a meta word
abbrev pub read_stage : Pool → ℕ → Option MetaParts → Stage
read_stage p t None = AtBad t
read_stage p t (Some m) = read_kind p t m.kind m.flags m.length

-- the number says this as a meta word, or is none
pub record Reads (x : ℕ) (o : Option MetaParts) : Type 0 where
  pub found : IfSome o (λ m. IsMeta m × (meta_word m ≡ x))
  pub only : (m : MetaParts) → IsMeta m → meta_word m ≡ x → o ≡ Some m

-- how the get goes on where its access found this number, with a room of so many bytes afterwards
abbrev pub GoesFrom : Stage → Walking → ℕ → ℕ → Getting → Type 0
GoesFrom Seeking w size x g = g ≡ sought (goes_on w x)
GoesFrom (AtMeta t) w size x g = (o : Option MetaParts) × Reads x o × (g ≡ getting w (read_stage w.pool t o))
GoesFrom (AtValue t f j) w size x g = g ≡ getting w (valued t f size (suc j))
GoesFrom (AtFound t f) w size x g = g ≡ (if x == unlinked t then getting w Over else sought (goes_on w x))
GoesFrom (AtDead t) w size x g = g ≡ (if x == unlinked t then getting w Over else sought (goes_on w x))
GoesFrom (AtBad t) w size x g = g ≡ sought (goes_on w x)
GoesFrom Over w size x g = ⊥

-- how the get goes on where its access found this number
abbrev pub GoesOn : Getting → ℕ → ℕ → Getting → Type 0
GoesOn g size x g1 = GoesFrom g.stage g.walk size x g1

-- how the room changes by an access that found this number: a meta word gives the length, and a value word its eight bytes
abbrev pub FillsFrom : Stage → ℕ → ValueBuf → ValueBuf → Type 0
FillsFrom (AtMeta t) x room room1 = (room1.bytes ≡ room.bytes) × ((m : MetaParts) → IsMeta m → meta_word m ≡ x → room1.length ≡ m.length)
FillsFrom (AtValue t f j) x room room1 = (room1.bytes ≡ with_eight room.bytes j x) × (room1.length ≡ room.length)
FillsFrom at x room room1 = room1 ≡ room

-- A call that runs alone in the machine: from its begin on nobody else has an event between its steps, and none of its accesses is refused.
use Prim.Native.Nat.{zero, suc}
use Rattle.std.specs.Prelude.{◌≡◌, ℕ, ◌+◌, ◌*◌, ◌<◌, ◌≤◌, List, [], ◌∷◌, ◌++◌, length, false, cond, eqb, Option, Some, None}
use Rattle.clover_words.specs.declared.pool.Pool.{Pool}
use Rattle.clover_map.specs.History.{key_of}
use Rattle.clover_map.specs.declared.bytes.Value.{Value}
use Rattle.clover_map.specs.declared.call.Call.{Call}
use Rattle.clover_map.specs.declared.call.Call.TheVariants.{Get as GetCall, Put as PutCall, Delete as DeleteCall, Swap as SwapCall}
use Rattle.clover_script.specs.declared.line.Task.TheVariants.{Client as ClientTask}
use Rattle.clover_rule.specs.Lists.{Each, nth, Within}
use Rattle.clover_rule.specs.Learned.{found, turn_of}
use Rattle.clover_rule.specs.Words.{mem_of}
use Rattle.clover_rule.specs.declared.access.Access.{Access}
use Rattle.clover_rule.specs.declared.view.View.{View}
use Rattle.clover_walk.specs.Alone.{Way, way_from, LeadsOver, HasVersion, version_words}
use Rattle.clover_get.specs.Alone.{Moment, LeadsAlone, next_step}
use Rattle.clover_get.specs.Getting.{IsOpen, Over}
use Rattle.clover_put.specs.Alone.{alone, IsOpen as IsPutOpen}
use Rattle.clover_put.specs.Putting.{Putting, put_step, Over as PutOver}
use Rattle.clover_words.specs.declared.bytes.ValueBuf.{ValueBuf}
use Rattle.clover_call.specs.declared.under.Underway.{Underway}
use Rattle.clover_call.specs.declared.under.Underway.TheVariants.{Nothing, Get, Write}
use Rattle.clover_event.specs.declared.event.Note.{Note}
use Rattle.clover_event.specs.declared.event.Note.TheVariants.{Quiet, Answered}

-- the slot's chain leads in these words from its root over some tags to a tail, which has a version
pub record HasChain (p : Pool) (ws : List ℕ) (slot : ℕ) : Type 0 where
  pub tags : List ℕ
  pub tail : ℕ
  pub leads : LeadsOver p ws ((mem_of p ws).root slot) tags tail
  pub version : Option Value
  pub has : HasVersion p ws tail version

-- the stores and flushes of the words of a call's own version
abbrev pub own_accesses : Call → ℕ
own_accesses (GetCall k) = 0
own_accesses (PutCall k x) = 2 * version_words (Some x)
own_accesses (DeleteCall k) = 2 * version_words None
own_accesses (SwapCall k t x) = 2 * version_words (Some x)

-- the accesses at the tail: a get loads the words of its version and then its link again; the others look at its meta word, but for a put, and then exchange its link, raise that and store the shortcut, or load it again where there is nothing to commit
abbrev pub tail_accesses : Call → ℕ → Option Value → ℕ
tail_accesses (GetCall k) u o = version_words o + 1
tail_accesses (PutCall k x) u o = 3
tail_accesses (DeleteCall k) u (Some y) = 4
tail_accesses (DeleteCall k) u None = 2
tail_accesses (SwapCall k t x) u (Some y) = cond (eqb t u) 4 2
tail_accesses (SwapCall k t x) u None = 2

-- how many accesses a call costs that runs alone, with so many loads on the way to a live tag and so many links from there to the tail: two for each link, and one that shows the tail
abbrev pub cost : Call → ℕ → ℕ → ℕ → Option Value → ℕ
cost call loads links tail version = own_accesses call + loads + 2 * links + 1 + tail_accesses call tail version

-- an answer to this client
abbrev pub IsAnswered : ℕ → Note → Type 0
IsAnswered c (Answered d r) = d ≡ c
IsAnswered c note = ⊥

-- a get that is made alone from there on is over after exactly so many accesses, of which the last makes no turn
pub record GetEnds (p : Pool) (n : ℕ) (a : Moment) : Type 0 where
  pub before : (v : ℕ → View) (k : ℕ) (b : Moment) → k < n → LeadsAlone p v k a b → IsOpen b.call.stage
  pub last : (v : ℕ → View) (k : ℕ) (b : Moment) (w : View) → suc k ≡ n → LeadsAlone p v k a b → turn_of (next_step w b) (found p (next_step w b) b.words) ≡ 0
  pub over : (v : ℕ → View) (b : Moment) → LeadsAlone p v n a b → b.call.stage ≡ Over

-- the same of a call that writes
pub record PutEnds (p : Pool) (n : ℕ) (ws : List ℕ) (c : Putting) : Type 0 where
  pub before : (v : ℕ → View) (k : ℕ) → k < n → IsPutOpen (alone p v k ws c).1.stage
  pub last : (v : ℕ → View) (k : ℕ) (w : View) → suc k ≡ n → turn_of (put_step (alone p v k ws c).1 w) (found p (put_step (alone p v k ws c).1 w) (alone p v k ws c).0) ≡ 0
  pub over : (v : ℕ → View) → (alone p v n ws c).1.stage ≡ PutOver

-- what is under way is over after exactly so many accesses, if nobody else makes one
abbrev pub EndsIn : Pool → List ℕ → ℕ → Underway → ValueBuf → Type 0
EndsIn p ws n Nothing room = n ≡ 0
EndsIn p ws n (Get g) room = GetEnds p n (record { words = ws; call = g; room = room })
EndsIn p ws n (Write c) room = PutEnds p n ws c

-- the note of an access behind which a call has so many more to make
abbrev pub NotesWith : ℕ → ℕ → Note → Type 0
NotesWith c zero note = IsAnswered c note
NotesWith c (suc n) note = note ≡ Quiet

-- an access of what is to end in n accesses: it ends in one less, in these words, and the note says whether that is none
pub record Advances (c : ℕ) (p : Pool) (n : ℕ) (ws : List ℕ) (u : Underway) (room : ValueBuf) (note : Note) : Type 0 where
  pub left : ℕ
  pub one : n ≡ suc left
  pub ends : EndsIn p ws left u room
  pub notes : NotesWith c left note

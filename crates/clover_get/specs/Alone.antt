-- A get that runs alone: nobody else changes a word between its accesses, and none of them is refused.
use Prim.Native.Nat.{zero, suc}
use Rattle.std.specs.Prelude.{◌≡◌, ℕ, ◌+◌, ◌*◌, ◌<◌, List, ◌∷◌, ◌++◌, [], length, Option, Some, None}
use Rattle.clover_words.specs.declared.bytes.ValueBuf.{ValueBuf}
use Rattle.clover_words.specs.declared.pool.Pool.{Pool}
use Rattle.clover_words.specs.Version.{unlinked}
use Rattle.clover_map.specs.declared.bytes.Value.{Value}
use Rattle.clover_map.specs.declared.call.Call.TheVariants.{Get}
use Rattle.clover_map.specs.declared.call.Reply.{Reply}
use Rattle.clover_map.specs.declared.call.Reply.TheVariants.{Found, Absent}
use Rattle.clover_rule.specs.Learned.{found, words_after_step}
use Rattle.clover_rule.specs.Steps.{Step, DecideNext}
use Rattle.clover_rule.specs.declared.view.View.{View}
use Rattle.clover_walk.specs.Alone.{Way, ComesBy, HasVersion, raised, version_words}
use Rattle.clover_walk.specs.Walking.{Walking}
use Rattle.clover_get.specs.Getting.{Getting, Seeking, Over, IsOpen, getting, get_step, value_in, GoesOn, FillsFrom}
use Rattle.clover_get.specs.Going.{key_of}

-- the words of the pool, the get and its room
pub record Moment : Type 0 where
  pub words : List ℕ
  pub call : Getting
  pub room : ValueBuf

-- the step that the get's next access is, for a client with this view
abbrev pub next_step : View → Moment → Step
next_step v a = get_step a.call (key_of a.call v) a.room

-- one access of a client with the view v leads from one moment to the other
pub record GoesAlone (p : Pool) (v : View) (a b : Moment) : Type 0 where
  pub words : b.words ≡ words_after_step p (next_step v a) a.words
  pub call : GoesOn a.call b.room.length (found p (next_step v a) a.words) b.call
  pub room : FillsFrom a.call.stage (found p (next_step v a) a.words) a.room b.room

-- so many accesses made alone lead from one moment to the other; v i is what the client knows at access i
abbrev pub LeadsAlone : Pool → (ℕ → View) → ℕ → Moment → Moment → Type 0
LeadsAlone p v zero a b = b ≡ a
LeadsAlone p v (suc n) a b = (c : Moment) × GoesAlone p (v 0) a c × LeadsAlone p (λ (i : ℕ). v (suc i)) n c b

-- the reply of a get whose key has this version at the tail
abbrev pub reply_at : ℕ → Option Value → Reply
reply_at t None = Absent
reply_at t (Some x) = Found t x

-- where the version is a value, it stands in the room
abbrev pub StandsIn : Option Value → ValueBuf → Type 0
StandsIn None room = Unit {0}
StandsIn (Some x) room = value_in x.flags room ≡ x

-- a get that is made alone is over after exactly so many accesses, of which the last is the load that decides it with the tail's version and shows the tail unlinked; the value stands in the room, and the words are these
pub record EndsAfter (n : ℕ) (v : ℕ → View) (a : Moment) (t : ℕ) (o : Option Value) (words : List ℕ) : Type 0 where
  pub runs : (b : Moment) × LeadsAlone a.call.walk.pool v n a b
  pub before : (k : ℕ) (b : Moment) → k < n → LeadsAlone a.call.walk.pool v k a b → IsOpen b.call.stage
  pub last : (k : ℕ) (b : Moment) (w : View) → suc k ≡ n → LeadsAlone a.call.walk.pool v k a b → (next_step w b ≡ DecideNext a.call.walk.slot t (Get (key_of a.call w)) (reply_at t o)) × (found a.call.walk.pool (next_step w b) b.words ≡ unlinked t)
  pub over : (b : Moment) → LeadsAlone a.call.walk.pool v n a b → (b.call.stage ≡ Over) × StandsIn o b.room × (b.words ≡ words)

-- From a live tag with d links before the tail a get makes 2 d + 2 accesses and one for each content word of the tail, and before these the loads of the way to that tag, where its turns do not reach the budget.
abbrev pub GetLaw : Type 0
GetLaw = (v : ℕ → View) (ws : List ℕ) (w : Walking) (room : ValueBuf) (known : Option ℕ) (y : Way) (ts : List ℕ) (u : ℕ) (o : Option Value) → ComesBy ws w known y ts u → HasVersion w.pool ws u o
    → EndsAfter (y.loads + 2 * length ts + 2 + version_words o) v (record { words = ws; call = getting w Seeking; room = room }) u o (raised w.pool w.slot (ts ++ u ∷ []) ws)

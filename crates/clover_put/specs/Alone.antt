-- A put, delete or swap that runs alone: nobody else changes a word between its accesses, and none of them is refused.
use Prim.Native.Nat.{suc}
use Rattle.std.specs.Prelude.{◌≡◌, ◌≢◌, ℕ, ◌+◌, ◌*◌, ◌<◌, ◌≤◌, List, [], ◌∷◌, ◌++◌, length, Option, Some, None, if◌then◌else◌, ◌==◌}
use Rattle.clover_words.specs.declared.pool.Pool.{Pool}
use Rattle.clover_words.specs.Tag.{tag_number, home}
use Rattle.clover_map.specs.declared.bytes.Value.{Value}
use Rattle.clover_rule.specs.Content.{InRange}
use Rattle.clover_rule.specs.Lists.{Each}
use Rattle.clover_rule.specs.Learned.{found, turn_of}
use Rattle.clover_rule.specs.declared.view.View.{View}
use Rattle.clover_walk.specs.Alone.{after_alone, Way, ComesBy, HasVersion, version_words}
use Rattle.clover_map.specs.declared.call.Reply.TheVariants.{Absent, Differs}
use Rattle.clover_put.specs.declared.job.Job.{Job}
use Rattle.clover_put.specs.declared.job.Job.TheVariants.{Put, Delete, Swap}
use Rattle.clover_put.specs.Putting.{Putting, Stage, Storing, Deciding, AtShort, Over, commits, put_step, put_on}

-- the words and the call after so many accesses made alone; v i is what the client knows at access i
abbrev pub alone : Pool → (ℕ → View) → ℕ → List ℕ → Putting → List ℕ × Putting
alone p v n ws c = after_alone p (λ (i : ℕ) (x : Putting). put_step x (v i)) (λ (x : Putting) (y : ℕ). put_on x y) n ws c

-- it has more accesses to make
abbrev pub IsOpen : Stage → Type 0
IsOpen Over = ⊥
IsOpen at = Unit {0}

-- where a call stands at its last access, by its job, its tail and the tail's version: at the store of the shortcut behind the link that it committed, or at the load that shows that it commits nothing
abbrev pub last_stage : Job → ℕ → Option Value → Stage
last_stage Put u o = AtShort
last_stage Delete u (Some x) = AtShort
last_stage Delete u None = Deciding u Absent
last_stage (Swap e) u (Some x) = if tag_number e == u then AtShort else Deciding u (Differs u)
last_stage (Swap e) u None = Deciding u Absent

-- how many accesses it makes at its tail: a load of the meta word for all but a put, and then an exchange, a raise and a store of the shortcut, or a load
abbrev pub tail_accesses : Job → ℕ → Option Value → ℕ
tail_accesses Put u o = 3
tail_accesses Delete u (Some x) = 4
tail_accesses Delete u None = 2
tail_accesses (Swap e) u (Some x) = if tag_number e == u then 4 else 2
tail_accesses (Swap e) u None = 2

-- a call that is made alone is over after exactly so many accesses, and stands there at the last one, which makes no turn
pub record EndsAfter (p : Pool) (n : ℕ) (v : ℕ → View) (ws : List ℕ) (c : Putting) (at : Stage) : Type 0 where
  pub before : (k : ℕ) → k < n → IsOpen (alone p v k ws c).1.stage
  pub last : (k : ℕ) → suc k ≡ n → (alone p v k ws c).1.stage ≡ at
  pub still : (k : ℕ) (w : View) → suc k ≡ n → turn_of (put_step (alone p v k ws c).1 w) (found p (put_step (alone p v k ws c).1 w) (alone p v k ws c).0) ≡ 0
  pub over : (alone p v n ws c).1.stage ≡ Over

-- A call makes a store and a flush of each content word of its own version, the loads of its way to a live tag, from there with d links before the tail 2 d + 1 accesses of its walk, and those at the tail, where its turns do not reach the budget and its own tag's buffer is none of the chain's.
abbrev pub PutLaw : Type 0
PutLaw = (v : ℕ → View) (ws : List ℕ) (c : Putting) (known : Option ℕ) (y : Way) (ts : List ℕ) (u : ℕ) (o : Option Value) → c.stage ≡ Storing 0 → ComesBy ws c.walk known y ts u → HasVersion c.walk.pool ws u o
    → InRange c.walk.pool c.own → Each (λ (t : ℕ). home t ≢ home c.own) (ts ++ u ∷ []) → version_words (commits c.job c.value) ≤ c.walk.pool.words + 1
    → EndsAfter c.walk.pool (2 * version_words (commits c.job c.value) + y.loads + 2 * length ts + 1 + tail_accesses c.job u o) v ws c (last_stage c.job u o)

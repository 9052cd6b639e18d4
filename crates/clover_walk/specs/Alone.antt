-- What a call does that runs alone: nobody else changes a word between its accesses, and none of them is refused.
use Prim.Native.Nat.{zero, suc}
use Rattle.std.specs.Prelude.{◌≡◌, ℕ, ◌+◌, ◌*◌, ◌<◌, List, [], ◌∷◌, ◌++◌, length, Bool, false, Option, Some, None, IfSome, if◌then◌else◌, ◌==◌}
use Rattle.clover_words.specs.declared.pool.Pool.{Pool}
use Rattle.clover_words.specs.declared.word.Word.{Word}
use Rattle.clover_words.specs.declared.word.Word.TheVariants.{Next as NextOf}
use Rattle.clover_words.specs.declared.word.Side.TheVariants.{Current}
use Rattle.clover_words.specs.Pack.{words_of}
use Rattle.clover_words.specs.Place.{IsWithin, copy_in}
use Rattle.clover_words.specs.Tag.{home, age}
use Rattle.clover_words.specs.Version.{unlinked, buffer_at, content_at}
use Rattle.clover_map.specs.declared.bytes.Value.{Value}
use Rattle.clover_rule.specs.Content.{InRange, Fits, content}
use Rattle.clover_rule.specs.Lists.{Each, nth}
use Rattle.clover_rule.specs.Memory.{Mem, gen}
use Rattle.clover_rule.specs.Chains.{Walk}
use Rattle.clover_rule.specs.Learned.{found, words_after_step}
use Rattle.clover_rule.specs.Steps.{Step, RaiseNext}
use Rattle.clover_rule.specs.Words.{mem_of}
use Rattle.clover_walk.specs.Walking.{Walking, AtTag, OnTail, IsOnWay, budget, made_walk, walk_step, goes_on}
use Rattle.clover_walk.specs.declared.start.Start.{Start}
use Rattle.clover_walk.specs.declared.start.Start.TheVariants.{FromCursor, FromShort, FromRoot}

-- the words and a call after so many accesses made alone: access i is the step that step i says of the call, and the call goes on by the number that it found
abbrev pub after_alone : {S : Type 0} → Pool → (ℕ → S → Step) → (S → ℕ → S) → ℕ → List ℕ → S → List ℕ × S
after_alone p step on zero ws c = (ws, c)
after_alone p step on (suc n) ws c = after_alone p (λ (i : ℕ). step (suc i)) on n (words_after_step p (step 0 c) ws) (on c (found p (step 0 c) ws))

-- the words and a walk after so many accesses made alone
abbrev pub alone : Pool → ℕ → List ℕ → Walking → List ℕ × Walking
alone p n ws w = after_alone p (λ (i : ℕ) (x : Walking). walk_step x) (λ (x : Walking) (y : ℕ). goes_on x y) n ws w

-- the current copies lead from there over the tags ts to the tail u, all of the pool
pub record LeadsOver (p : Pool) (ws : List ℕ) (from : Option ℕ) (ts : List ℕ) (u : ℕ) : Type 0 where
  pub walk : Walk (mem_of p ws) from (ts ++ u ∷ [])
  pub range : Each (InRange p) (ts ++ u ∷ [])

-- the words after the flushed copies of the links of a slot from the tag t over these tags are raised, in order
abbrev pub raised_from : Pool → ℕ → ℕ → List ℕ → List ℕ → List ℕ
raised_from p s t [] ws = ws
raised_from p s t (u ∷ us) ws = raised_from p s u us (words_after_step p (RaiseNext (record { slot = s; from = t; to = u })) ws)

-- the words after the flushed copies of the links between these tags are raised, in order
abbrev pub raised : Pool → ℕ → List ℕ → List ℕ → List ℕ
raised p s [] ws = ws
raised p s (t ∷ ts) ws = raised_from p s t ts ws

-- whether a tag is live: its next word is at its generation
abbrev pub is_live : Mem → ℕ → Bool
is_live m t = gen (m.next (home t)) == age t

-- how a walk comes from where it begins to a live tag, in words that nobody else changes: by so many loads, of which so many showed a stale start; from there it goes on, having begun last so
pub record Way : Type 0 where
  pub loads : ℕ
  pub stale : ℕ
  pub start : Start
  pub from : Option ℕ

-- the way from the shortcut: a load of it, the load that shows its tag stale, and the load of the root where the shortcut is stale or empty
abbrev pub way_from_short : Mem → ℕ → Way
way_from_short m s = through (m.short s)
  where
    through : Option ℕ → Way
    through None = record { loads = 2; stale = 0; start = FromRoot; from = m.root s }
    through (Some t) = if is_live m t then record { loads = 1; stale = 0; start = FromShort; from = Some t } else record { loads = 3; stale = 1; start = FromRoot; from = m.root s }

-- the way from a cursor, or without one; a stale cursor costs a load and a turn more
abbrev pub way_from : Mem → ℕ → Option ℕ → Way
way_from m s None = way_from_short m s
way_from m s (Some t) = if is_live m t then record { loads = 0; stale = 0; start = FromCursor; from = Some t } else let y : Way = way_from_short m s in record { loads = suc y.loads; stale = suc y.stale; start = y.start; from = y.from }

-- a walk that is made alone is at the tail u after exactly so many accesses, with as many turns more and having begun last so, and has raised the flushed copies of the links between the tags of ts and the tail
pub record ReachesAfter (n : ℕ) (ws : List ℕ) (w : Walking) (turns : ℕ) (f : Start) (ts : List ℕ) (u : ℕ) : Type 0 where
  pub before : (k : ℕ) → k < n → IsOnWay (alone w.pool k ws w).1.stand
  pub there : (alone w.pool n ws w).1 ≡ record w { turns = w.turns + turns; first = false; start = f; stand = OnTail u }
  pub words : (alone w.pool n ws w).0 ≡ raised w.pool w.slot (ts ++ u ∷ []) ws

-- the tag's next word is its number unlinked, and its content words are those of the version, which fits
pub record HasVersion (p : Pool) (ws : List ℕ) (t : ℕ) (o : Option Value) : Type 0 where
  pub next : copy_in p ws (NextOf (buffer_at (home t))) Current ≡ unlinked t
  pub fits : Fits p o
  pub words : (j x : ℕ) → nth (content o) j ≡ Some x → copy_in p ws (content_at (home t) j) Current ≡ x

-- how many content words a version has: its meta word, and one for each eight bytes of its value or part of them
abbrev pub version_words : Option Value → ℕ
version_words None = 1
version_words (Some x) = 1 + words_of (length x.bytes)

-- a walk that begins at this cursor, or without one, comes on the way y to the tags ts and the tail u before its turns reach the budget; the tags at which it may begin are of the pool
pub record ComesBy (ws : List ℕ) (w : Walking) (known : Option ℕ) (y : Way) (ts : List ℕ) (u : ℕ) : Type 0 where
  pub start : w.start ≡ (made_walk w.pool w.slot known).start
  pub stand : w.stand ≡ (made_walk w.pool w.slot known).stand
  pub slot : w.slot < w.pool.slots
  pub cursor : IfSome known (InRange w.pool)
  pub short : IfSome ((mem_of w.pool ws).short w.slot) (InRange w.pool)
  pub way : y ≡ way_from (mem_of w.pool ws) w.slot known
  pub leads : LeadsOver w.pool ws y.from ts u
  pub below : w.turns + y.stale + length ts < budget w.pool

-- From a tag with d links before the tail a walk makes 2 d + 1 accesses, where its turns do not reach the budget.
abbrev pub TagLaw : Type 0
TagLaw = (ws : List ℕ) (w : Walking) (t : ℕ) (ts : List ℕ) (u : ℕ) → w.stand ≡ AtTag t → LeadsOver w.pool ws (Some t) ts u → w.turns + length ts < budget w.pool → ReachesAfter (2 * length ts + 1) ws w (length ts) w.start ts u

-- From where it begins a walk makes the loads of its way besides, and as many turns as these showed stale starts.
abbrev pub StartLaw : Type 0
StartLaw = (ws : List ℕ) (w : Walking) (known : Option ℕ) (y : Way) (ts : List ℕ) (u : ℕ) → ComesBy ws w known y ts u → ReachesAfter (y.loads + 2 * length ts + 1) ws w (y.stale + length ts) y.start ts u

-- The raises of links leave the current copy of each word as it was.
abbrev pub RaisedLaw : Type 0
RaisedLaw = (p : Pool) (s : ℕ) (ts ws : List ℕ) → Each (InRange p) ts → (v : Word) → IsWithin p v → copy_in p (raised p s ts ws) v Current ≡ copy_in p ws v Current

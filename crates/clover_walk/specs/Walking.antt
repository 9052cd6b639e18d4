-- A walk along a slot's chain, from a start to the tail: where it stands, which step its next access is, and how it goes on by what that access found.
use Prim.Native.Nat.{suc}
use Rattle.std.specs.Prelude.{◌≡◌, ℕ, ◌+◌, ◌*◌, ◌<◌, List, [], ◌∷◌, Bool, false, ltb, Option, Some, None, if◌then◌else◌, ◌==◌}
use Rattle.clover_words.specs.declared.pool.Pool.{Pool}
use Rattle.clover_words.specs.declared.word.Word.TheVariants.{Next as NextOf}
use Rattle.clover_words.specs.Tag.{home, age}
use Rattle.clover_words.specs.Version.{buffer_at}
use Rattle.clover_rule.specs.Content.{InRange}
use Rattle.clover_rule.specs.Lists.{Within}
use Rattle.clover_rule.specs.Memory.{Next, word}
use Rattle.clover_rule.specs.Learned.{turn_at}
use Rattle.clover_rule.specs.Steps.{Step, ReadShort, ReadRoot, LoadNext, RaiseNext, IsClient}
use Rattle.clover_rule.specs.Told.{IsShown}
use Rattle.clover_rule.specs.Words.{next_of, root_of}
use Rattle.clover_rule.specs.declared.view.View.{View}
use Rattle.clover_walk.specs.declared.start.Start.{Start}
use Rattle.clover_walk.specs.declared.start.Start.TheVariants.{FromCursor, FromShort, FromRoot}

-- where a walk stands: the slot's shortcut, its root or a tag's next word is to be loaded, the flushed copy of a link that was loaded is to be raised, the tail is reached, or the walk has ended before it
pub data Stand : Type 0 where
  AtShort : Stand
  AtRoot : Stand
  AtTag : ℕ → Stand
  AtLink : ℕ → ℕ → Stand
  OnTail : ℕ → Stand
  Ended : Stand

-- a walk of a call: the turns of the call so far, whether the next access is the call's first, where it began last, and where it stands
pub record Walking : Type 0 where
  pub pool : Pool
  pub slot : ℕ
  pub turns : ℕ
  pub first : Bool
  pub start : Start
  pub stand : Stand

-- the turns at which a call ends
abbrev pub budget : Pool → ℕ
budget p = p.nodes * p.buffers + 2

-- the most accesses of a call with so many turns: five and the value words for each turn and once more, and the stores, the flushes and the last accesses of a call that writes
abbrev pub most_accesses : Pool → ℕ → ℕ
most_accesses p turns = (turns + 1) * (p.words + 5) + 2 * p.words + 4

-- where a walk stands that begins anew, which none does at a cursor, and where it begins after this start was stale
abbrev pub begins : Start → Stand
begins FromCursor = AtShort
begins FromShort = AtShort
begins FromRoot = AtRoot

-- where a walk begins after this start was stale
abbrev pub next_start : Start → Start
next_start FromCursor = FromShort
next_start FromShort = FromRoot
next_start FromRoot = FromRoot

-- the walk as it is made
abbrev pub made_walk : Pool → ℕ → Option ℕ → Walking
made_walk p s None = record { pool = p; slot = s; turns = 0; first = Bool.true; start = FromShort; stand = AtShort }
made_walk p s (Some t) = record { pool = p; slot = s; turns = 0; first = Bool.true; start = FromCursor; stand = AtTag t }

-- the walk in a call that has made an access already
abbrev pub begun : Walking → Walking
begun w = record w { first = false }

-- it has more accesses to make
abbrev pub IsOnWay : Stand → Type 0
IsOnWay AtShort = Unit {0}
IsOnWay AtRoot = Unit {0}
IsOnWay (AtTag t) = Unit {0}
IsOnWay (AtLink t u) = Unit {0}
IsOnWay (OnTail t) = ⊥
IsOnWay Ended = ⊥

-- the step that the next access is; a walk that has ended makes none
abbrev pub step_at : ℕ → Stand → Step
step_at s AtShort = ReadShort s
step_at s AtRoot = ReadRoot s
step_at s (AtTag t) = LoadNext s t
step_at s (AtLink t u) = RaiseNext (record { slot = s; from = t; to = u })
step_at s (OnTail t) = LoadNext s t
step_at s Ended = ReadRoot s

-- the step that the next access of the walk is
abbrev pub walk_step : Walking → Step
walk_step w = step_at w.slot w.stand

-- the walk stands there without a turn
abbrev pub placed : Walking → Stand → Walking
placed w at = record w { first = false; stand = at }

-- the walk makes a turn and stands there, or has ended where its turns reach the budget
abbrev pub turned : Walking → Start → Stand → Walking
turned w f at = record w { turns = suc w.turns; first = false; start = f; stand = (if ltb (suc w.turns) (budget w.pool) then at else Ended) }

-- how the tag's next word leads on at its own generation: to the tail, or over the link
abbrev pub hops : Walking → ℕ → Option ℕ → Walking
hops w t None = placed w (OnTail t)
hops w t (Some u) = turned w w.start (AtLink t u)

-- how the tag's next word leads on: another generation makes the start stale
abbrev pub followed : Walking → ℕ → Next → Walking
followed w t (word a l) = if a == age t then hops w t l else turned w (next_start w.start) (begins (next_start w.start))

-- how a shortcut leads on: to its tag, or where it is empty to the root
abbrev pub shortened : Walking → Option ℕ → Walking
shortened w None = record w { first = false; start = FromRoot; stand = AtRoot }
shortened w (Some t) = placed w (AtTag t)

-- the most accesses of a call since its last turn, where the walk stands: a raise, or the loads of a shortcut and of a root; the load that showed the tail
abbrev pub since_turn : Stand → ℕ
since_turn AtShort = 0
since_turn AtRoot = 1
since_turn (AtTag t) = 2
since_turn (AtLink t u) = 0
since_turn (OnTail t) = 3
since_turn Ended = 0

-- how a root leads on
abbrev pub rooted : Walking → Option ℕ → Walking
rooted w None = placed w AtRoot
rooted w (Some t) = placed w (AtTag t)

-- how the walk goes on where its access found this number, or where the caller's own access found it at the tail
abbrev pub goes_from : Stand → Walking → ℕ → Walking
goes_from AtShort w x = shortened w (root_of x)
goes_from AtRoot w x = rooted w (root_of x)
goes_from (AtTag t) w x = followed w t (next_of x)
goes_from (AtLink t u) w x = placed w (AtTag u)
goes_from (OnTail t) w x = followed w t (next_of x)
goes_from Ended w x = w

-- how the walk goes on where its access found this number
abbrev pub goes_on : Walking → ℕ → Walking
goes_on w x = goes_from w.stand w x

-- the key of a slot in a list of names: the first one there
abbrev pub key_at : List (ℕ × List ℕ) → ℕ → List ℕ
key_at [] s = []
key_at (q ∷ qs) s = if q.0 == s then q.1 else key_at qs s

-- what the view must hold where the walk stands
abbrev pub StandsOn : ℕ → Stand → View → Type 0
StandsOn s AtShort v = Unit {0}
StandsOn s AtRoot v = Unit {0}
StandsOn s (AtTag t) v = Within (s, t) v.pass.durable
StandsOn s (AtLink t u) v = Within (record { slot = s; from = t; to = u }) v.pass.links
StandsOn s (OnTail t) v = Within (s, t) v.pass.durable
StandsOn s Ended v = ⊥

-- the view holds what the walk stands on: the slot is bound, and the turns of the call are those that the walk counted
pub record Holds (w : Walking) (v : View) : Type 0 where
  pub pool : v.pass.pool ≡ w.pool
  pub client : IsClient v
  pub named : Within (w.slot, key_at v.pass.names w.slot) v.pass.names
  pub stand : StandsOn w.slot w.stand v
  pub turns : (if w.first then 0 else v.pass.turns) ≡ w.turns
  pub below : w.turns < budget w.pool

-- the view after an access of the caller at the tail t that found the number x there: it may stand there, its link is held, and its turn is counted
pub record Shows (w : Walking) (t : ℕ) (v : View) (x : ℕ) : Type 0 where
  pub pool : v.pass.pool ≡ w.pool
  pub client : IsClient v
  pub named : Within (w.slot, key_at v.pass.names w.slot) v.pass.names
  pub tail : Within (w.slot, t) v.pass.durable
  pub number : IsShown w.pool (NextOf (buffer_at (home t))) x
  pub link : (u : ℕ) → next_of x ≡ word (age t) (Some u) → Within (record { slot = w.slot; from = t; to = u }) v.pass.links
  pub turns : v.pass.turns ≡ w.turns + turn_at t x
  pub below : w.turns < budget w.pool

-- the same, where the walk is at its tail
abbrev pub ShowsFrom : Stand → Walking → View → ℕ → Type 0
ShowsFrom (OnTail t) w v x = Shows w t v x
ShowsFrom at w v x = ⊥

-- the next word that the access shows at the tail
abbrev pub ShowsNext : Walking → View → ℕ → Type 0
ShowsNext w v x = ShowsFrom w.stand w v x

-- the tags are of the pool
abbrev pub AreTags : Pool → Stand → Type 0
AreTags p AtShort = Unit {0}
AreTags p AtRoot = Unit {0}
AreTags p (AtTag t) = InRange p t
AreTags p (AtLink t u) = InRange p t × InRange p u
AreTags p (OnTail t) = InRange p t
AreTags p Ended = Unit {0}

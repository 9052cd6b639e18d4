-- What a get stands on, and how many accesses its call has made.
use Rattle.std.specs.Prelude.{◌≡◌, ℕ, ◌+◌, ◌*◌, ◌<◌, ◌≤◌, length, false, if◌then◌else◌}
use Rattle.clover_words.specs.declared.bytes.ValueBuf.{ValueBuf}
use Rattle.clover_words.specs.Pack.{words_of}
use Rattle.clover_rule.specs.Content.{InRange}
use Rattle.clover_rule.specs.declared.view.View.{View}
use Rattle.clover_walk.specs.Walking.{Walking, Stand, OnTail, IsOnWay, Holds, since_turn}
use Rattle.clover_get.specs.Copying.{Copied, CopiedDead, CopiedBad}
use Rattle.clover_get.specs.Getting.{Getting, Stage, Seeking, AtMeta, AtValue, AtFound, AtDead, AtBad, Over}

-- the walk is at the tail, a tag of the pool, and the call has made an access
abbrev pub IsAt : Walking → ℕ → Type 0
IsAt w t = (w.stand ≡ OnTail t) × (w.first ≡ false) × InRange w.pool t

-- what the view and the room must hold where the get stands
abbrev pub StandsOn : Stage → Walking → View → ValueBuf → Type 0
StandsOn Seeking w v into = IsOnWay w.stand
StandsOn (AtMeta t) w v into = IsAt w t
StandsOn (AtValue t f j) w v into = IsAt w t × (j < words_of into.length) × Copied w.pool w.slot t f j v into
StandsOn (AtFound t f) w v into = IsAt w t × Copied w.pool w.slot t f (words_of into.length) v into
StandsOn (AtDead t) w v into = IsAt w t × CopiedDead w.slot t v
StandsOn (AtBad t) w v into = IsAt w t × CopiedBad w.pool w.slot t v
StandsOn Over w v into = ⊥

-- the most accesses since the last turn, where the get and its walk stand: those of the walk, the tail's meta word, its value words
abbrev pub copied : Stage → Stand → ℕ → ℕ
copied Seeking at n = since_turn at
copied (AtMeta t) at n = 3
copied (AtValue t f j) at n = 4 + j
copied (AtFound t f) at n = 4 + n
copied (AtDead t) at n = 4
copied (AtBad t) at n = 4
copied Over at n = 5 + n

-- the most accesses that a get has made where it stands: five and the value words for each turn
abbrev pub most : Getting → ℕ
most g = g.walk.turns * (g.walk.pool.words + 5) + copied g.stage g.walk.stand g.walk.pool.words

-- the view and the room hold what the get stands on
pub record GetHolds (g : Getting) (v : View) (into : ValueBuf) : Type 0 where
  pub walk : Holds g.walk v
  pub stage : StandsOn g.stage g.walk v into
  pub bound : (if g.walk.first then 0 else length v.pass.since) ≤ most g

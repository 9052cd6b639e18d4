-- What the access of a get may find, and what the get answers by it.
use Rattle.std.specs.Prelude.{◌≡◌, ◌≢◌, ◌<◌, ◌⊎◌, ℕ}
use Rattle.clover_words.specs.declared.bytes.ValueBuf.{ValueBuf}
use Rattle.clover_words.specs.Pack.{packed, words_of}
use Rattle.clover_words.specs.Tag.{TagParts, tag_number}
use Rattle.clover_words.specs.Version.{unlinked}
use Rattle.clover_walk.specs.Finding.{MayFind}
use Rattle.clover_walk.specs.Turning.{Answers}
use Rattle.clover_walk.specs.Walking.{Walking, goes_on}
use Rattle.clover_walk.specs.declared.turn.Turn.{Turn}
use Rattle.clover_get.specs.declared.turn.GetTurn.{GetTurn}
use Rattle.clover_get.specs.declared.turn.GetTurn.TheVariants.{More, Found, Absent}
use Rattle.clover_get.specs.Getting.{Getting, Stage, AtMeta, AtValue, AtFound, AtDead, Over}
use Rattle.clover_get.specs.Going.{answer_of}

-- a number that the access may find, where the room is this one
abbrev pub FindsFrom : Stage → Walking → ValueBuf → ℕ → Type 0
FindsFrom (AtMeta t) w room x = Unit {0}
FindsFrom (AtValue t f j) w room x = j < words_of room.length
FindsFrom Over w room x = ⊥
FindsFrom s w room x = MayFind w x

-- a number that the next access of the get may find
abbrev pub GetFinds : Getting → ValueBuf → ℕ → Type 0
GetFinds g room x = FindsFrom g.stage g.walk room x

-- a value word that was found stands in the room, and the others as before
abbrev pub PacksFrom : Stage → ℕ → ValueBuf → ValueBuf → Type 0
PacksFrom (AtValue t f j) x room room1 = (packed room1.bytes j ≡ x) × ((k : ℕ) → k ≢ j → packed room1.bytes k ≡ packed room.bytes k)
PacksFrom s x room room1 = Unit {0}

-- the answer is that of the walk, gone on by this number
pub record Came (w : Walking) (x : ℕ) (r : GetTurn) : Type 0 where
  pub turn : Turn
  pub answers : Answers (goes_on w x) turn
  pub is : r ≡ answer_of turn

-- the answer of the get
abbrev pub AnswersFrom : Stage → Walking → ℕ → GetTurn → Type 0
AnswersFrom (AtMeta t) w x r = r ≡ More
AnswersFrom (AtValue t f j) w x r = r ≡ More
AnswersFrom (AtFound t f) w x r = ((x ≡ unlinked t) × (u : TagParts) × (tag_number u ≡ t) × (r ≡ Found u f)) ⊎ ((x ≢ unlinked t) × Came w x r)
AnswersFrom (AtDead t) w x r = ((x ≡ unlinked t) × (u : TagParts) × (tag_number u ≡ t) × (r ≡ Absent u)) ⊎ ((x ≢ unlinked t) × Came w x r)
AnswersFrom s w x r = Came w x r

-- the answer of the get where its access found this number
abbrev pub GetAnswers : Getting → ℕ → GetTurn → Type 0
GetAnswers g x r = AnswersFrom g.stage g.walk x r

-- What the access of a put may find, and what the put answers by it.
use Rattle.std.specs.Prelude.{◌≡◌, ◌≢◌, ◌<◌, ◌⊎◌, ℕ, length}
use Rattle.clover_words.specs.Tag.{TagParts, tag_number}
use Rattle.clover_words.specs.Version.{unlinked}
use Rattle.clover_map.specs.declared.call.Reply.{Reply}
use Rattle.clover_map.specs.declared.call.Reply.TheVariants.{Absent as IsAbsent, Differs as IsOther}
use Rattle.clover_walk.specs.Finding.{MayFind}
use Rattle.clover_walk.specs.Turning.{Answers}
use Rattle.clover_walk.specs.Walking.{Walking, goes_on}
use Rattle.clover_walk.specs.declared.turn.Turn.{Turn}
use Rattle.clover_put.specs.declared.turn.PutTurn.{PutTurn}
use Rattle.clover_put.specs.declared.turn.PutTurn.TheVariants.{More, Decided, Absent, Differs}
use Rattle.clover_put.specs.Going.{answer_of, done_with}
use Rattle.clover_put.specs.Putting.{Putting, Stage, Storing, Flushing, AtMeta, AtLink, Deciding, AtRaise, AtShort, Over, body}

-- where the access gives back the number that it found: it is no store
abbrev pub OnFinding : Stage → Type 0 → Type 0
OnFinding (Storing j) A = Unit {0}
OnFinding (Flushing j) A = Unit {0}
OnFinding AtShort A = Unit {0}
OnFinding s A = A

-- a number that the access may find; a content word that is stored or flushed is one of the own version
abbrev pub FindsFrom : Stage → Putting → ℕ → Type 0
FindsFrom (Storing j) c x = j < length (body c)
FindsFrom (Flushing j) c x = j < length (body c)
FindsFrom (AtMeta u) c x = Unit {0}
FindsFrom (AtRaise u) c x = Unit {0}
FindsFrom AtShort c x = Unit {0}
FindsFrom Over c x = ⊥
FindsFrom s c x = MayFind c.walk x

-- a number that the next access of the put may find
abbrev pub PutFinds : Putting → ℕ → Type 0
PutFinds c x = FindsFrom c.stage c x

-- the answer is that of the walk, gone on by this number
pub record Came (w : Walking) (x : ℕ) (r : PutTurn) : Type 0 where
  pub turn : Turn
  pub answers : Answers (goes_on w x) turn
  pub is : r ≡ answer_of turn

-- the answer says this reply of the tail
abbrev pub Tells : Reply → TagParts → PutTurn → Type 0
Tells IsAbsent t r = r ≡ Absent t
Tells (IsOther u) t r = r ≡ Differs t
Tells reply t r = ⊥

-- the answer of the put
abbrev pub AnswersFrom : Stage → Putting → ℕ → PutTurn → Type 0
AnswersFrom (Storing j) c x r = r ≡ More
AnswersFrom (Flushing j) c x r = r ≡ More
AnswersFrom (AtMeta u) c x r = r ≡ More
AnswersFrom (AtLink u) c x r = ((x ≡ unlinked u) × (t : TagParts) × (tag_number t ≡ c.own) × (r ≡ Decided t)) ⊎ ((x ≢ unlinked u) × Came c.walk x r)
AnswersFrom (Deciding u a) c x r = ((x ≡ unlinked u) × (t : TagParts) × (tag_number t ≡ u) × Tells a t r) ⊎ ((x ≢ unlinked u) × Came c.walk x r)
AnswersFrom (AtRaise u) c x r = r ≡ More
AnswersFrom AtShort c x r = (t : TagParts) × (tag_number t ≡ c.own) × (r ≡ done_with c.job t)
AnswersFrom s c x r = Came c.walk x r

-- the answer of the put where its access found this number
abbrev pub PutAnswers : Putting → ℕ → PutTurn → Type 0
PutAnswers c x r = AnswersFrom c.stage c x r

-- The value of a put from its fields.
use Rattle.std.specs.Prelude.{ℕ}
use Rattle.clover_words.specs.Tag.{tag_number}
use Rattle.clover_map.specs.declared.call.Reply.{Reply}
use Rattle.clover_map.specs.declared.call.Reply.TheVariants.{Absent as IsAbsent, Differs as IsOther}
use Rattle.clover_put.specs.Putting.{Stage as Place, Storing as ToStore, Flushing as ToFlush, Seeking as ToSeek, AtMeta as ToMeta, AtLink as ToLink, Deciding as ToDecide, AtBad as ToBad, AtRaise as ToRaise, AtShort as ToShort, Over as ToEnd}
use Rattle.clover_put.specs.declared.stage.Stage.{Stage}
use Rattle.clover_put.specs.declared.stage.Verdict.{Verdict}
use Rattle.clover_put.specs.declared.stage.Verdict.TheVariants.{Absent, Differs}
use Rattle.clover_put.specs.declared.stage.Stage.TheVariants.{Storing, Flushing, Seeking, AtMeta, AtLink, Deciding, AtBad, AtRaise, AtShort, Over}

-- the reply that a tail decides which shows that nothing is committed
abbrev pub reply_at : Verdict → ℕ → Reply
reply_at Absent t = IsAbsent
reply_at Differs t = IsOther t

-- where a put stands, with tags as numbers
abbrev pub standing : Stage → Place
standing (Storing j) = ToStore j
standing (Flushing j) = ToFlush j
standing Seeking = ToSeek
standing (AtMeta t) = ToMeta (tag_number t)
standing (AtLink t) = ToLink (tag_number t)
standing (Deciding t r) = ToDecide (tag_number t) (reply_at r (tag_number t))
standing (AtBad t) = ToBad (tag_number t)
standing (AtRaise t) = ToRaise (tag_number t)
standing AtShort = ToShort
standing Over = ToEnd

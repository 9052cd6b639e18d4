-- Where a get stands, with tags as numbers.
use Rattle.clover_words.specs.Tag.{tag_number}
use Rattle.clover_get.specs.Getting.{Stage as Place, Seeking as ToSeek, AtMeta as ToMeta, AtValue as ToValue, AtFound as ToFound, AtDead as ToDead, AtBad as ToBad, Over as ToEnd}
use Rattle.clover_get.specs.declared.stage.Stage.{Stage}
use Rattle.clover_get.specs.declared.stage.Stage.TheVariants.{Seeking, AtMeta, AtValue, AtFound, AtDead, AtBad, Over}

-- where a get stands
abbrev pub standing : Stage → Place
standing Seeking = ToSeek
standing (AtMeta t) = ToMeta (tag_number t)
standing (AtValue t f j) = ToValue (tag_number t) f j
standing (AtFound t f) = ToFound (tag_number t) f
standing (AtDead t) = ToDead (tag_number t)
standing (AtBad t) = ToBad (tag_number t)
standing Over = ToEnd

-- The value of a walk from its fields.
use Rattle.std.specs.Prelude.{Option, Some, None, ℕ}
use Rattle.clover_words.specs.Tag.{TagParts, tag_number}
use Rattle.clover_walk.specs.Walking.{Stand as Place, AtShort as ToShort, AtRoot as ToRoot, AtTag as ToTag, AtLink as ToLink, OnTail as ToTail, Ended as ToEnd}
use Rattle.clover_walk.specs.declared.start.Stand.{Stand}
use Rattle.clover_walk.specs.declared.start.Stand.TheVariants.{AtShort, AtRoot, AtTag, AtLink, OnTail, Ended}

-- where a walk stands, with tags as numbers
abbrev pub standing : Stand → Place
standing AtShort = ToShort
standing AtRoot = ToRoot
standing (AtTag t) = ToTag (tag_number t)
standing (AtLink t u) = ToLink (tag_number t) (tag_number u)
standing (OnTail t) = ToTail (tag_number t)
standing Ended = ToEnd

-- a tag's number
abbrev pub number_of : Option TagParts → Option ℕ
number_of None = None
number_of (Some t) = Some (tag_number t)

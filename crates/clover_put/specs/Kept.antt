-- The value of a put from its fields, and what each put keeps.
use Rattle.std.specs.Prelude.{take}
use Rattle.clover_words.specs.Tag.{tag_number}
use Rattle.clover_rule.specs.Content.{InRange, Fits}
use Rattle.clover_put.specs.Putting.{Putting, commits}
use Rattle.clover_put.specs.Standing.{standing}
use Rattle.clover_put.specs.declared.call.PutCall.TheInside.{Inside}

-- the value of a put with these fields
abbrev pub meaning : Inside → Putting
meaning c = record { walk = c.walk; job = c.job; own = tag_number c.own; value = record { flags = c.flags; bytes = take c.buffer.length c.buffer.bytes }; stage = standing c.stage }

-- the own tag is of the pool, and the version fits into a buffer
pub record IsKept (c : Inside) : Type 0 where
  pub own : InRange c.walk.pool (tag_number c.own)
  pub fits : Fits c.walk.pool (commits c.job (meaning c).value)

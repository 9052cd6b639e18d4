-- The value of a get from its fields.
use Rattle.clover_get.specs.Getting.{Getting}
use Rattle.clover_get.specs.Standing.{standing}
use Rattle.clover_get.specs.declared.call.GetCall.TheInside.{Inside}

-- the value of a get with these fields
abbrev pub meaning : Inside → Getting
meaning g = record { walk = g.walk; stage = standing g.stage }

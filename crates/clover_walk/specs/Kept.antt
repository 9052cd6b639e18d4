-- The value of a walk from its fields, and what each walk keeps.
use Rattle.std.specs.Prelude.{◌≤◌, ◌<◌}
use Rattle.clover_walk.specs.Walking.{Walking, AreTags, budget}
use Rattle.clover_walk.specs.Standing.{standing}
use Rattle.clover_walk.specs.declared.walk.Walk.TheInside.{Inside}

-- the value of a walk with these fields
abbrev pub meaning : Inside → Walking
meaning w = record { pool = w.pool; slot = w.slot; turns = w.turns; first = w.first; start = w.start; stand = standing w.stand }

-- slot and tags are of the pool, and the turns are not past the budget
pub record IsKept (w : Inside) : Type 0 where
  pub slot : w.slot < w.pool.slots
  pub tags : AreTags w.pool (standing w.stand)
  pub turns : w.turns ≤ budget w.pool

use Rattle.clover_rule.specs.Cut.{IsSound}
use Rattle.clover_image.proofs.Standing.{Enters}
use Rattle.clover_image.proofs.map.map_of.Given as goal

abbrev pub invariant-loop-slot : goal.invariant-loop-slot
invariant-loop-slot l = (sound : IsSound l.image.pool l.image.words) → Enters l.image sound l.slot l.map

use Rattle.clover_rule.specs.Sound.{Sound}
use Rattle.clover_restart.specs.Reading.{decoded}
use Rattle.clover_restart.specs.Slots.{AreRead}
use Rattle.clover_restart.proofs.slots.read_slots.Given as goal

abbrev pub invariant-loop-slot : goal.invariant-loop-slot
invariant-loop-slot l = (sound : Sound l.image.pool (decoded l.image)) → AreRead l.image.pool (decoded l.image) sound l.slot l.slots

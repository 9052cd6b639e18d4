use Rattle.clover_image.proofs.Entering.{KeysEntered}
use Rattle.clover_image.proofs.soundness.keys.Given as goal

abbrev pub invariant-loop-slot : goal.invariant-loop-slot
invariant-loop-slot l = KeysEntered l.image l.slot l.slots

use Rattle.std.proofs.Common.{ℕ, List}
use Rattle.clover_image.specs.Walking.{AreMarked, AreWalked}
use Rattle.clover_image.proofs.soundness.chains.Given as goal

abbrev pub invariant-loop-slot : goal.invariant-loop-slot
invariant-loop-slot l = (tags : ℕ → List ℕ) × AreWalked l.image l.slot tags × AreMarked l.image.pool tags l.met.items

use Rattle.std.proofs.Common.{ℕ, ◌<◌}
use Rattle.clover_image.specs.Damage.{RootHolds}
use Rattle.clover_image.proofs.soundness.roots.Given as goal

abbrev pub invariant-loop-slot : goal.invariant-loop-slot
invariant-loop-slot l = (i : ℕ) → i < l.slot → RootHolds l.image i

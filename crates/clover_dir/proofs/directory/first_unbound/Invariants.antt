use Rattle.std.proofs.Common.{ℕ, ◌-◌, ◌<◌, ◌≤◌, length}
use Rattle.std.specs.Prelude.{IsSome, None, slice_index_or}
use Rattle.clover_dir.proofs.directory.first_unbound.Given as goal

abbrev pub invariant-loop-slot : goal.invariant-loop-slot
invariant-loop-slot l = record { behind : l.from ≤ l.slot; inside : l.slot ≤ length l.roots; before : (s : ℕ) → l.from ≤ s → s < l.slot → IsSome (slice_index_or l.roots s None) }

abbrev pub decreases-loop-slot : goal.decreases-loop-slot
decreases-loop-slot l = length l.roots - l.slot

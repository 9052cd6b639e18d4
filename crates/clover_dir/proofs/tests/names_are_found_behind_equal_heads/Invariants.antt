use Rattle.std.proofs.Common.{◌≡◌}
use Rattle.clover_dir.proofs.tests.names_are_found_behind_equal_heads.Given as goal

abbrev pub invariant-loop-slot : goal.invariant-loop-slot
invariant-loop-slot g l = l.names.most ≡ 100

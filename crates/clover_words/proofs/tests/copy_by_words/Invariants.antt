use Rattle.std.proofs.Common.{◌≡◌, ℕ, ◌<◌}
use Rattle.clover_words.specs.Pack.{packed}
use Rattle.clover_words.proofs.tests.copy_by_words.Given as goal

abbrev pub invariant-loop-k : goal.invariant-loop-k
invariant-loop-k l = (j : ℕ) → j < l.k → packed l.into.bytes j ≡ packed l.bytes j

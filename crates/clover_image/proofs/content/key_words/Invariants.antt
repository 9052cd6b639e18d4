use Rattle.std.proofs.Common.{◌≡◌, ℕ, ◌<◌}
use Rattle.clover_words.specs.Pack.{packed}
use Rattle.clover_image.specs.Reading.{decoded}
use Rattle.clover_image.proofs.content.key_words.Given as goal

abbrev pub invariant-loop-k : goal.invariant-loop-k
invariant-loop-k l = (0 < l.k → l.slot < l.image.pool.slots) × ((j : ℕ) → j < l.k → packed l.spelled.bytes j ≡ (decoded l.image).key l.slot j)

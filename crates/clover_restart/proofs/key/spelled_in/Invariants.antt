use Rattle.std.specs.Prelude.{◌≡◌, ℕ, ◌<◌}
use Rattle.clover_words.specs.Pack.{packed}
use Rattle.clover_restart.specs.Reading.{decoded}
use Rattle.clover_restart.proofs.key.spelled_in.Given as goal

abbrev pub invariant-loop-place : goal.invariant-loop-place
invariant-loop-place l = (j : ℕ) → j < l.place → packed l.spelled.bytes j ≡ (decoded l.image).key l.slot j

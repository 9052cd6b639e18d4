use Rattle.std.proofs.Common.{ℕ, ◌<◌}
use Rattle.clover_words.specs.Place.{buffer_of}
use Rattle.clover_image.specs.Damage.{NextHolds}
use Rattle.clover_image.proofs.soundness.next_words.Given as goal

abbrev pub invariant-loop-number : goal.invariant-loop-number
invariant-loop-number l = (i : ℕ) → i < l.number → NextHolds l.image (buffer_of l.image.pool i)

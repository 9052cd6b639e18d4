use Rattle.std.proofs.Common.{◌≡◌, ℕ, ◌<◌}
use Rattle.clover_words.specs.declared.word.Word.TheVariants.{Value}
use Rattle.clover_words.specs.Pack.{packed}
use Rattle.clover_image.specs.Reading.{number_in}
use Rattle.clover_image.proofs.content.value_words.Given as goal

abbrev pub invariant-loop-k : goal.invariant-loop-k
invariant-loop-k l = (j : ℕ) → j < l.k → packed l.room.bytes j ≡ number_in l.image (Value l.buffer j)

use Rattle.std.proofs.Common.{◌≡◌, ◌<◌, length, get_or}
use Rattle.clover_words.specs.declared.word.Word.{Word}
use Rattle.clover_words.specs.declared.word.Side.{Side}
use Rattle.clover_words.specs.Place.{IsWithin, HasSide, address_of}
use Rattle.clover_plain.specs.Preset.{preset_word}
use Rattle.clover_plain.proofs.pool.preset.fill.Given as goal

abbrev pub invariant-loop-at : goal.invariant-loop-at
invariant-loop-at l = record {
  long : length l.words ≡ length l.initial.words;
  filled : (w : Word) (side : Side) → IsWithin l.setup.pool w → HasSide w side → address_of l.setup.pool w side < l.at → get_or l.words (address_of l.setup.pool w side) 0 ≡ preset_word l.setup l.keys w;
}

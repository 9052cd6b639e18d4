use Rattle.std.proofs.Common.{◌≡◌, take}
use Rattle.clover_image.specs.Text.{word_lines}
use Rattle.clover_main.specs.Running.{Says}
use Rattle.clover_main.proofs.image_text.put_words.Given as goal

-- the lines of the words so far were said
abbrev pub invariant-loop-number : goal.invariant-loop-number
invariant-loop-number g l = record {
  at : l.address ≡ l.number-index;
  says : Says (g.K.Sink.taken l.fn.sink) (g.K.Sink.taken l.sink) l.fn.chunk l.chunk (word_lines l.image.pool 0 (take l.number-index l.image.words));
  quiet : g.K.Sink.faults l.sink ≡ g.K.Sink.faults l.fn.sink;
}

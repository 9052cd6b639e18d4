use Rattle.clover_words.proofs.Packing.{unpacked}
use Rattle.clover_words.proofs.bytes.value_from_words.Goals as goal

pub returns : goal.returns
returns c = unpacked

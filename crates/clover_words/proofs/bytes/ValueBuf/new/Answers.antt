use Rattle.std.proofs.Common.{arith}
use Rattle.clover_words.proofs.Packing.{room_of_zeros}
use Rattle.clover_words.proofs.bytes.ValueBuf.new.Goals as goal

pub invariant_of-result : goal.invariant_of-result
invariant_of-result c = record { length_fits = omega arith; room = room_of_zeros }

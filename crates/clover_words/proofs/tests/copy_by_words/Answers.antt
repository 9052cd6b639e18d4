use Rattle.std.proofs.Common.{arith}
use Rattle.clover_words.proofs.tests.copy_by_words.Goals as goal

pub returns : goal.returns
returns c =
    let into = c.loop-k.into in
    c.value_from_words.ensures c.args.bytes.now into.bytes (λ i. omega (arith, c.type_inv.bytes i)) into.room.bytes
    (omega (arith, into.room.size)) (λ k lt. c.loop-k.invariant k (omega arith))

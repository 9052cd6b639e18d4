use Rattle.std.specs.Int.{w64}
use Rattle.std.proofs.lemmas.Nat.Bits.{bit_at_set_same, bit_at_set_other, bit_at_clear_same, bit_at_clear_other}
use Rattle.clover_alloc.proofs.bits.with_bit.Goals as goal

pub returns-then-set-clause-bit : goal.returns-then-set-clause-bit
returns-then-set-clause-bit c = rw c.if-set.true (bit_at_set_same w64 c.args.word c.args.bit c.requires)

pub returns-then-set-clause-others : goal.returns-then-set-clause-others
returns-then-set-clause-others c = λ k below other. bit_at_set_other w64 c.args.word c.args.bit c.requires k other

pub returns-else-set-clause-bit : goal.returns-else-set-clause-bit
returns-else-set-clause-bit c = rw c.if-set.false (bit_at_clear_same w64 c.args.word c.args.bit c.requires)

pub returns-else-set-clause-others : goal.returns-else-set-clause-others
returns-else-set-clause-others c = bit_at_clear_other w64 c.args.word c.args.bit c.requires

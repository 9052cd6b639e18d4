use Rattle.std.proofs.Common.{arith}
use Rattle.clover_plain.proofs.Cutting.{rested_list}
use Rattle.clover_plain.proofs.pool.cut.rest.Goals as goal

pub returns-clause-words : goal.returns-clause-words
returns-clause-words c = rested_list c.args.kept.now c.loop-at.words _ c.loop-at.invariant.long c.requires (λ i below. c.loop-at.invariant.written i (let z = c.loop-at.invariant.long in omega arith))

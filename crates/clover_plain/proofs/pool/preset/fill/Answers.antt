use Rattle.std.proofs.Common.{arith}
use Rattle.clover_words.proofs.Places.{address_below}
use Rattle.clover_plain.proofs.pool.preset.fill.Goals as goal

pub returns-clause-words : goal.returns-clause-words
returns-clause-words c = λ w side h i. c.loop-at.invariant.filled w side h i (let e = address_below c.args.setup.now.pool w side h i in let s = c.requires.sized in let l = c.loop-at.invariant.long in omega arith)

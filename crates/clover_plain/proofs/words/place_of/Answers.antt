use Rattle.std.proofs.Common.{arith}
use Rattle.clover_words.proofs.Places.{address_below}
use Rattle.clover_plain.proofs.words.place_of.Goals as goal

pub returns-clause-inside : goal.returns-clause-inside
returns-clause-inside c = let e = address_below c.args.setup.now.pool c.args.word c.args.side c.requires.within.0 c.requires.within.1 in let a = c.in-Some.ensures.some.2 in let b = c.requires.sized in omega arith

use Rattle.std.proofs.Common.{arith}
use Rattle.clover_words.proofs.Places.{address_below}
use Rattle.clover_plain.proofs.pool.PlainPool.durable.Goals as goal

pub get-requires : goal.get-requires
get-requires c =
    let here = c.in_ok-at.ensures.some in
    let below = address_below c.self.inside.setup.pool c.args.word c.args.side here.0 here.1 in
    let at = here.2 in
    let sized = c.self.invariant.sized in
    omega arith

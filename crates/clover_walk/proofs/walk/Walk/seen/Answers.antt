use Rattle.std.proofs.Common.{subst}
use Rattle.clover_walk.specs.Walking.{Walking, AreTags}
use Rattle.clover_walk.proofs.Goes.{seen_goes}
use Rattle.clover_walk.proofs.walk.Walk.seen.Goals as goal

pub returns-clause-walked : goal.returns-clause-walked
returns-clause-walked g c =
    let w = c.args.self.now in
    seen_goes w (g.P.Port.view c.args.port.now) c.args.word c.requires.shows (subst (λ (z : Walking). AreTags z.pool z.stand) c.self.view_is c.self.invariant.tags) c.on.new.self c.on.result c.on.ensures.value c.on.ensures.answer

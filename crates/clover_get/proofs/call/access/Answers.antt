use Rattle.std.proofs.Common.{sym, subst}
use Rattle.clover_rule.specs.Asks.{Asks}
use Rattle.clover_rule.specs.Steps.{Step}
use Rattle.clover_get.proofs.Walks.{get_asks}
use Rattle.clover_get.proofs.call.access.Goals as goal

pub perform-requires-clause-rule : goal.perform-requires-clause-rule
perform-requires-clause-rule g c =
    let p = g.P.Port.pool c.args.port.now in let v = g.P.Port.view c.args.port.now in
    subst (λ (a : Step). Asks p a v) (sym c.requires.name.0) (get_asks p c.args.call.now v c.args.into.now c.requires.pool c.requires.open c.requires.holds c.next.ensures.within)

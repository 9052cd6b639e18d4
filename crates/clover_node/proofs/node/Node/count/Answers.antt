use Rattle.std.proofs.Common.{sym, subst}
use Rattle.clover_rule.specs.Asks.{Asks}
use Rattle.clover_rule.specs.Steps.{Step}
use Rattle.clover_node.proofs.Loading.{count_asks, is_client}
use Rattle.clover_node.proofs.node.Node.count.Goals as goal

pub perform-requires-clause-rule : goal.perform-requires-clause-rule
perform-requires-clause-rule g c =
    let p = g.P.Port.pool c.args.port.now in let v = g.P.Port.view c.args.port.now in let n = c.args.self.now in let h = c.requires.1.1.1.1.1 in let asks = c.requires.1.1.1.0 in
    subst (λ (a : Step). Asks p a v) (sym c.requires.1.1.0.0) (count_asks p n.counting g.call v n.names (is_client v n.client h.role) h.names asks.unnamed asks.counts)

use Rattle.std.proofs.Common.{sym, subst}
use Rattle.clover_rule.specs.Asks.{Asks}
use Rattle.clover_rule.specs.Steps.{Step}
use Rattle.clover_dir.proofs.Asking.{bind_asks}
use Rattle.clover_dir.proofs.task.access.Goals as goal

pub perform-requires-clause-rule : goal.perform-requires-clause-rule
perform-requires-clause-rule g c =
    let p = g.P.Port.pool c.args.port.now in let v = g.P.Port.view c.args.port.now in
    subst (λ (a : Step). Asks p a v) (sym c.requires.name.0) (bind_asks p c.args.task.now c.args.directory.now v c.requires.going c.next.ensures.valid c.requires.holds)

use Rattle.std.proofs.Common.{sym, subst}
use Rattle.clover_words.specs.Tag.{tag_number}
use Rattle.clover_rule.specs.Asks.{Asks}
use Rattle.clover_rule.specs.Steps.{Step}
use Rattle.clover_recycle.proofs.Going.{recycle_asks, below_wear}
use Rattle.clover_recycle.proofs.task.access.Goals as goal

pub next-requires : goal.next-requires
next-requires g c = record { serves = below_wear (g.P.Port.pool c.args.port.now) (tag_number c.args.task.now.root) c.requires.holds.root }

pub perform-requires-clause-rule : goal.perform-requires-clause-rule
perform-requires-clause-rule g c =
    let p = g.P.Port.pool c.args.port.now in let v = g.P.Port.view c.args.port.now in
    subst (λ (a : Step). Asks p a v) (sym c.requires.name.0) (recycle_asks p c.args.task.now v c.requires.holds)

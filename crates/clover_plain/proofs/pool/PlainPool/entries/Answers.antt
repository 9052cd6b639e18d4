use Rattle.clover_plain.proofs.Standing.{running}
use Rattle.clover_plain.proofs.pool.PlainPool.entries.Goals as goal

pub returns-clause-history : goal.returns-clause-history
returns-clause-history c = λ e. (running c.self.inside c.args.self.now c.self.invariant c.self.view_is e).entered

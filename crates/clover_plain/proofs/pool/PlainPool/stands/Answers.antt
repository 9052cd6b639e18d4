use Rattle.clover_plain.proofs.Standing.{down, running}
use Rattle.clover_plain.proofs.pool.PlainPool.stands.Goals as goal

pub returns : goal.returns
returns c = record { running = running c.self.inside c.args.self.now c.self.invariant c.self.view_is; down = down c.self.inside c.args.self.now c.self.invariant c.self.view_is }

use Rattle.clover_plain.proofs.Standing.{story, untraced}
use Rattle.clover_plain.proofs.pool.PlainPool.accesses.Goals as goal

pub returns-clause-replay : goal.returns-clause-replay
returns-clause-replay c t w = let s = story c.self.inside c.args.self.now c.self.invariant c.self.view_is in (s.0, s.1, s.3 t w, s.2)

pub returns-clause-untraced : goal.returns-clause-untraced
returns-clause-untraced c = untraced c.self.inside c.args.self.now c.self.invariant c.self.view_is

use Rattle.clover_plain.specs.Plain.{view_at}
use Rattle.clover_pools.proofs.Serving.{has_begun, started}
use Rattle.clover_pools.proofs.calls.start.Goals as goal

pub start-requires-clause-idle : goal.start-requires-clause-idle
start-requires-clause-idle c = c.requires.stands.2.idle

pub start-requires-clause-holds : goal.start-requires-clause-holds
start-requires-clause-holds c = let s = c.requires.stands in (view_at s.0 0, s.1, s.2.holds c.args.call.now s.1)

pub returns-in-Ok : goal.returns-in-Ok
returns-in-Ok c = λ yes. (has_begun c.args.node.now c.start.new.self c.args.call.now c.in-Ok.ensures.started, λ p room stands. started p c.args.node.now c.start.new.self room c.args.call.now c.in-Ok.ensures.started stands)

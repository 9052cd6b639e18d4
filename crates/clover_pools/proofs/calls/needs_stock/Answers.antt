use Rattle.clover_plain.specs.Plain.{view_at}
use Rattle.clover_pools.proofs.calls.needs_stock.Goals as goal

pub start-requires-clause-idle : goal.start-requires-clause-idle
start-requires-clause-idle c = c.requires.stands.1.idle

pub start-requires-clause-holds : goal.start-requires-clause-holds
start-requires-clause-holds c = let s = c.requires.stands in (view_at s.0 0, c.new-room.result, s.1.holds c.args.call.now c.new-room.result)

use Rattle.clover_pools.specs.Server.{Served}
use Rattle.clover_pools.proofs.whole_calls.bind_some.Given as goal

abbrev pub invariant-loop : goal.invariant-loop
invariant-loop l = Served l.server l.initial.pool l.pool

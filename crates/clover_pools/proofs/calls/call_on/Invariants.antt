use Rattle.clover_pools.specs.Calls.{Serves}
use Rattle.clover_pools.proofs.Calling.{Since}
use Rattle.clover_pools.proofs.calls.call_on.Given as goal

abbrev pub ghost-call_next : goal.ghost-call_next
ghost-call_next g a = g.call

abbrev pub invariant-loop : goal.invariant-loop
invariant-loop g l = Serves l.pool l.node g.call l.room × Since l.initial.node l.initial.pool l.node l.pool

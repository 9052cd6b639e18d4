use Rattle.clover_pools.proofs.calls.begin.Given as goal

abbrev pub ghost-call_on : goal.ghost-call_on
ghost-call_on g a = g.asked

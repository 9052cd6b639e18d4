use Rattle.clover_pools.proofs.calls.call_next.Given as goal

abbrev pub ghost-step : goal.ghost-step
ghost-step g a = g.call

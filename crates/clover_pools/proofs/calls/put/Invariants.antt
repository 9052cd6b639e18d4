use Rattle.clover_pools.proofs.calls.put.Given as goal

abbrev pub ghost-finish : goal.ghost-finish
ghost-finish g a = g.asked

use Rattle.clover_pools.proofs.served.calls.Given as goal

abbrev pub ghost-put : goal.ghost-put
ghost-put a = a.call

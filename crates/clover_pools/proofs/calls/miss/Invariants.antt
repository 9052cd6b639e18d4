use Rattle.clover_pools.proofs.calls.miss.Given as goal

abbrev pub ghost-begin : goal.ghost-begin
ghost-begin a = a.call.now

use Rattle.clover_pools.proofs.calls.needs_names.Given as goal

abbrev pub ghost-begin : goal.ghost-begin
ghost-begin a = a.call.now

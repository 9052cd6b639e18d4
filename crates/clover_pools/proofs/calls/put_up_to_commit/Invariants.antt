use Rattle.clover_pools.proofs.calls.put_up_to_commit.Given as goal

abbrev pub ghost-begin : goal.ghost-begin
ghost-begin a = a.call.now

use Rattle.clover_run.proofs.client.ClientState.reach.Given as goal

abbrev pub ghost-step : goal.ghost-step
ghost-step g a = g.call

use Rattle.std.proofs.Common.{◌-◌}
use Rattle.clover_plain.specs.Plain.{view_at}
use Rattle.clover_run.specs.Client.{call_at}
use Rattle.clover_run.proofs.client.ClientState.access.Given as goal

abbrev pub ghost-reach : goal.ghost-reach
ghost-reach a = call_at a.self.now (view_at a.pool.now (a.client - 1))

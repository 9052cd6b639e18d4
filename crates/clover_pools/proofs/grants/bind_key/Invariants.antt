use Rattle.std.proofs.Common.{◌≡◌}
use Rattle.clover_plain.specs.Plain.{view_at}
use Rattle.clover_pools.proofs.Granting.{IsBinding}
use Rattle.clover_pools.proofs.grants.bind_key.Given as goal

abbrev pub invariant-loop : goal.invariant-loop
invariant-loop l = record { binding : IsBinding l.pool l.task l.directory; setup : l.pool.setup ≡ l.initial.pool.setup; client : view_at l.pool 0 ≡ view_at l.initial.pool 0 }

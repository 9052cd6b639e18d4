use Rattle.std.proofs.Common.{◌≢◌}
use Rattle.clover_dir.specs.Holding.{BindHolds}
use Rattle.clover_dir.specs.declared.stage.Stage.TheVariants.{Over}
use Rattle.clover_plain.specs.Plain.{view_at}
use Rattle.clover_pools.specs.Small.{IsReady, IsSmall}
use Rattle.clover_pools.proofs.bindings.bind.Given as goal

abbrev pub invariant-loop : goal.invariant-loop
invariant-loop l = record { ready : IsReady l.pool; small : IsSmall l.pool; going : l.task.stage ≢ Over; holds : BindHolds l.pool.setup.pool l.task l.directory (view_at l.pool 1) }

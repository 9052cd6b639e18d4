use Rattle.clover_plain.specs.Plain.{view_at}
use Rattle.clover_recycle.specs.Holding.{RecycleHolds}
use Rattle.clover_pools.specs.Small.{IsReady, IsSmall}
use Rattle.clover_pools.proofs.recycling.recycle.Given as goal

abbrev pub invariant-loop : goal.invariant-loop
invariant-loop l = IsReady l.pool × IsSmall l.pool × RecycleHolds l.pool.setup.pool l.task (view_at l.pool 1)

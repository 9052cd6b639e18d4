-- What a step of a recycling over a small pool leaves of it.
use Rattle.clover_plain.specs.Plain.{Plain, view_at}
use Rattle.clover_recycle.specs.Holding.{RecycleHolds}
use Rattle.clover_recycle.specs.Recycling.{RecycleState}
use Rattle.clover_recycle.specs.declared.turn.RecycleTurn.{RecycleTurn}
use Rattle.clover_recycle.specs.declared.turn.RecycleTurn.TheVariants.{More, Unreached}
use Rattle.clover_pools.specs.Small.{IsReady, IsSmall}

-- where the recycling may go on or was refused
abbrev pub OnGoing : RecycleTurn → Type 0 → Type 0
OnGoing More A = A
OnGoing Unreached A = A
OnGoing t A = Unit {0}

-- the pool is ready behind a step with this answer, and where the recycling goes on, it stands on what the server knows
pub record Recycles (t : RecycleTurn) (n : RecycleState) (q : Plain) : Type 0 where
  pub ready : IsReady q
  pub small : IsSmall q
  pub holds : OnGoing t (RecycleHolds q.setup.pool n (view_at q 1))

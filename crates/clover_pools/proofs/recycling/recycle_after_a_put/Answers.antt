use Rattle.std.proofs.Common.{◌≡◌, true, refl, rules}
use Rattle.clover_pools.proofs.RecyclingSteps.{may_recycle}
use Rattle.clover_pools.proofs.recycling.recycle_after_a_put.Goals as goal

pub recycle-requires-clause-holds : goal.recycle-requires-clause-holds
recycle-requires-clause-holds c =
    let yes : c.in_ok-put_once.field-0 ≡ true = search rules in
    let put = c.in_ok-put_once.ensures yes in
    may_recycle c.put_once.new.pool _ refl put.1 put.2

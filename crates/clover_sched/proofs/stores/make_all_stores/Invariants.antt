use Rattle.std.proofs.Common.{List, length}
use Rattle.clover_rule.specs.declared.view.RestartStore.{RestartStore}
use Rattle.clover_sched.specs.Stores.{Stores}
use Rattle.clover_sched.proofs.stores.make_all_stores.Given as goal

abbrev pub invariant-loop : goal.invariant-loop
invariant-loop l = (made : List RestartStore) × Stores l.fn.pool l.fn.restart made l.pool l.restart

abbrev pub decreases-loop : goal.decreases-loop
decreases-loop l = length l.restart.rest

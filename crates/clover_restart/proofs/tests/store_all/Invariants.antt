use Rattle.clover_restart.specs.UnderWay.{IsRestarting}
use Rattle.clover_restart.proofs.tests.store_all.Given as goal

abbrev pub invariant-loop-made : goal.invariant-loop-made
invariant-loop-made l = IsRestarting l.pool l.restart

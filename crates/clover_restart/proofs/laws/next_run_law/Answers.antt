use Rattle.clover_restart.proofs.laws.next_run_law.Goals as goal
use Rattle.clover_restart.proofs.NextRun as NextRun

pub returns : goal.returns
returns c = NextRun.next_run_law

use Rattle.clover_sched.proofs.laws.runs_stand_law.Goals as goal
use Rattle.clover_sched.proofs.Standing as Standing

pub returns : goal.returns
returns c = Standing.runs_stand

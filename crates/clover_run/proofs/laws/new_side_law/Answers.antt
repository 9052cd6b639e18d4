use Rattle.clover_run.proofs.Reopening.{agrees_reopened}
use Rattle.clover_run.proofs.laws.new_side_law.Goals as goal

pub returns : goal.returns
returns c = agrees_reopened

use Rattle.clover_rule.proofs.laws.restarted_law.Goals as goal
use Rattle.clover_rule.proofs.RestartedLaw as RestartedLaw

pub returns : goal.returns
returns c = RestartedLaw.restarted_law

use Rattle.clover_rule.proofs.laws.restart_law.Goals as goal
use Rattle.clover_rule.proofs.RestartLaw as RestartLaw

pub returns : goal.returns
returns c = RestartLaw.restart_law

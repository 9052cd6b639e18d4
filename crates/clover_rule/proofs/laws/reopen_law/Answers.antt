use Rattle.clover_rule.proofs.laws.reopen_law.Goals as goal
use Rattle.clover_rule.proofs.Reopening as Reopening

pub returns : goal.returns
returns c = Reopening.reopen_law

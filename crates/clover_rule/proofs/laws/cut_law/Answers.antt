use Rattle.clover_rule.proofs.laws.cut_law.Goals as goal
use Rattle.clover_rule.proofs.AfterCuts as AfterCuts

pub returns : goal.returns
returns c = AfterCuts.cut_law

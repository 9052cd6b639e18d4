use Rattle.clover_rule.proofs.laws.marks_law.Goals as goal
use Rattle.clover_rule.proofs.LossSeen as LossSeen

pub returns : goal.returns
returns c = LossSeen.marks_law

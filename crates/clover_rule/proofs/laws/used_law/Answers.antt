use Rattle.clover_rule.proofs.laws.used_law.Goals as goal
use Rattle.clover_rule.proofs.Marks as Marks

pub returns : goal.returns
returns c = Marks.used_law

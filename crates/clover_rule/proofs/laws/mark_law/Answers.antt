use Rattle.clover_rule.proofs.laws.mark_law.Goals as goal
use Rattle.clover_rule.proofs.Marks as Marks

pub returns : goal.returns
returns c = Marks.mark_law

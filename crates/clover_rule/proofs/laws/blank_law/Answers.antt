use Rattle.clover_rule.proofs.laws.blank_law.Goals as goal
use Rattle.clover_rule.proofs.Blank as Blank

pub returns : goal.returns
returns c = Blank.blank_law

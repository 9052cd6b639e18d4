use Rattle.clover_rule.proofs.laws.longest_law.Goals as goal
use Rattle.clover_rule.proofs.Longest as Longest

pub returns : goal.returns
returns c = Longest.longest_law

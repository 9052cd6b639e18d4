use Rattle.clover_rule.proofs.laws.rise_law.Goals as goal
use Rattle.clover_rule.proofs.Falling as Falling

pub returns : goal.returns
returns c = Falling.rise_law

use Rattle.clover_rule.proofs.laws.spent_law.Goals as goal
use Rattle.clover_rule.proofs.Moving as Moving

pub returns : goal.returns
returns c = Moving.spent_law

use Rattle.clover_rule.proofs.laws.hand_over_law.Goals as goal
use Rattle.clover_rule.proofs.Moving as Moving

pub returns : goal.returns
returns c = Moving.hand_over_law

use Rattle.clover_rule.proofs.laws.grant_law.Goals as goal
use Rattle.clover_rule.proofs.Moving as Moving

pub returns : goal.returns
returns c = Moving.grant_law

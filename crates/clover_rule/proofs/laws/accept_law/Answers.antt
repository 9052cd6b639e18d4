use Rattle.clover_rule.proofs.laws.accept_law.Goals as goal
use Rattle.clover_rule.proofs.Moving as Moving

pub returns : goal.returns
returns c = Moving.accept_law

use Rattle.clover_rule.proofs.laws.access_law.Goals as goal
use Rattle.clover_rule.proofs.Acting as Acting

pub returns : goal.returns
returns c = Acting.access_law

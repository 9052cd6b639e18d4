use Rattle.clover_rule.proofs.laws.opening_law.Goals as goal
use Rattle.clover_rule.proofs.Opened as Opened

pub returns : goal.returns
returns c = Opened.opening_law

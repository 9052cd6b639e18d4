use Rattle.clover_rule.proofs.laws.operation_law.Goals as goal
use Rattle.clover_rule.proofs.Accessing as Accessing

pub returns : goal.returns
returns c = Accessing.operation_law

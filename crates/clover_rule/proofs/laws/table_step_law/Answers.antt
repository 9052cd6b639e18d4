use Rattle.clover_rule.proofs.laws.table_step_law.Goals as goal
use Rattle.clover_rule.proofs.Accessing as Accessing

pub returns : goal.returns
returns c = Accessing.table_step_law

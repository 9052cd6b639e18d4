use Rattle.clover_run.proofs.Costing.{all_costs}
use Rattle.clover_run.proofs.laws.cost_law.Goals as goal

pub returns : goal.returns
returns c = all_costs

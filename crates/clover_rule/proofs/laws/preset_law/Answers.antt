use Rattle.clover_rule.proofs.laws.preset_law.Goals as goal
use Rattle.clover_rule.proofs.Presets as Presets

pub returns : goal.returns
returns c = Presets.preset_law

use Rattle.clover_rule.proofs.laws.one_reading_law.Goals as goal
use Rattle.clover_rule.proofs.OneReading as OneReading

pub returns : goal.returns
returns c = OneReading.one_reading_law

use Rattle.clover_script.proofs.LinesLaws.{one_saying}
use Rattle.clover_script.proofs.laws.lines_have_one_reading.Goals as goal

pub returns : goal.returns
returns c = one_saying

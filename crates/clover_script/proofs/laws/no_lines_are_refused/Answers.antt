use Rattle.clover_script.proofs.LinesLaws.{lines_not_refused}
use Rattle.clover_script.proofs.laws.no_lines_are_refused.Goals as goal

pub returns : goal.returns
returns c = lines_not_refused

use Rattle.clover_script.proofs.LinesLaws.{one_refused_line}
use Rattle.clover_script.proofs.laws.lines_are_refused_at_one.Goals as goal

pub returns : goal.returns
returns c = one_refused_line

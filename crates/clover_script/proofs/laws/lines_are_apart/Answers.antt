use Rattle.clover_script.proofs.SpokenLemmas.{apart_lines}
use Rattle.clover_script.proofs.laws.lines_are_apart.Goals as goal

pub returns : goal.returns
returns c = apart_lines

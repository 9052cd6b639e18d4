use Rattle.clover_script.proofs.ChoiceLemmas.{one_cut_line}
use Rattle.clover_script.proofs.laws.a_cut_has_one_reading.Goals as goal

pub returns : goal.returns
returns c = one_cut_line

use Rattle.clover_script.proofs.WordNameLemmas.{one_copy}
use Rattle.clover_script.proofs.laws.a_name_is_of_one_word.Goals as goal

pub returns : goal.returns
returns c = one_copy

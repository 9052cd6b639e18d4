use Rattle.clover_script.proofs.SpokenLemmas.{one_spoken, one_line}
use Rattle.clover_script.proofs.laws.a_text_has_one_line.Goals as goal

pub returns-clause-written : goal.returns-clause-written
returns-clause-written c = one_spoken

pub returns-clause-kept : goal.returns-clause-kept
returns-clause-kept c = one_line

use Rattle.clover_script.proofs.LineLemmas.{lacks_front, lacks_all, if_none}
use Rattle.clover_script.proofs.split.split_at_byte.Goals as goal

pub returns-in_err-at-clause-none : goal.returns-in_err-at-clause-none
returns-in_err-at-clause-none c = if_none c.from_residual.result (lacks_all c.args.byte c.args.text.now c.in_err-at.ensures.none)

pub returns-clause-first : goal.returns-clause-first
returns-clause-first c = lacks_front c.args.byte c.args.text.now c.in_ok-at.at c.in_ok-at.ensures.first

use Rattle.clover_script.proofs.LineLemmas.{if_none}
use Rattle.clover_script.proofs.SpokenLemmas.{no_asked}
use Rattle.clover_script.proofs.task.asked_of.Goals as goal

pub returns-in_err-task-clause-none : goal.returns-in_err-task-clause-none
returns-in_err-task-clause-none c =
    let actor = c.in_ok-actor.ensures.found in
    if_none c.from_residual-in_err-task.result (no_asked c.args.text.now c.in_ok-actor.rest.now c.in_ok-actor.actor actor.0 actor.1 c.in_err-task.ensures.none)

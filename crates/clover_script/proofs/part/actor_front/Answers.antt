use Rattle.std.proofs.Common.{◌∙◌, sym, arith}
use Rattle.std.specs.Prelude.{decimal}
use Rattle.clover_script.proofs.LineLemmas.{if_none, one_split, no_split}
use Rattle.clover_script.proofs.PartLemmas.{number_lacks}
use Rattle.clover_script.proofs.part.actor_front.Goals as goal

pub returns-in_err-word-clause-none : goal.returns-in_err-word-clause-none
returns-in_err-word-clause-none c = if_none c.from_residual.result (λ a rest is e. no_split 32 c.args.text.now (decimal a) rest c.in_err-word.ensures.none e)

pub returns-in_err-actor-clause-none : goal.returns-in_err-actor-clause-none
returns-in_err-actor-clause-none c = if_none c.from_residual-in_err-actor.result (λ a rest is e.
    let cut = c.in_ok-word.ensures in
    let same = one_split 32 c.in_ok-word.word.now (decimal a) c.in_ok-word.rest.now rest cut.first (number_lacks a (omega (arith, is))) (sym cut.found ∙ e) in
    c.in_err-actor.ensures.none a is same.0)

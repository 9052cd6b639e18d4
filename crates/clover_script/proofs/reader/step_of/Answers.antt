use Rattle.std.proofs.Common.{◌∙◌, sym, arith}
use Rattle.std.specs.Prelude.{decimal}
use Rattle.clover_script.proofs.LineLemmas.{if_none}
use Rattle.clover_script.proofs.PartLemmas.{number_split}
use Rattle.clover_script.proofs.reader.step_of.Goals as goal

pub returns-in_err-times-clause-none : goal.returns-in_err-times-clause-none
returns-in_err-times-clause-none c = if_none c.from_residual-in_err-times.result (λ a n is times e.
    let found = c.in_ok-actor.ensures.found in
    let same = number_split c.in_ok-actor.actor a c.in_ok-actor.rest.now (decimal n) (omega (arith, found.0)) (omega (arith, is)) (sym found.1 ∙ e) in
    c.in_err-times.ensures.none n times same.1)

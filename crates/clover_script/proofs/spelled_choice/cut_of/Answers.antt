use Rattle.std.proofs.Common.{refl}
use Rattle.std.specs.Prelude.{flat_map}
use Rattle.clover_script.specs.Choice.{further_cut}
use Rattle.clover_script.proofs.LineLemmas.{if_none}
use Rattle.clover_script.proofs.ChoiceLemmas.{cuts_end}
use Rattle.clover_script.proofs.spelled_choice.cut_of.Goals as goal

pub returns-in_err-first-clause-none : goal.returns-in_err-first-clause-none
returns-in_err-first-clause-none c = if_none c.from_residual.result (λ first more is are e. c.in_err-first.ensures.only first (flat_map further_cut more) is (cuts_end more) e)

pub returns-else-are_further_cuts-clause-none : goal.returns-else-are_further_cuts-clause-none
returns-else-are_further_cuts-clause-none c first more is are e =
    let found = c.in_ok-first.ensures.only first (flat_map further_cut more) is (cuts_end more) e in
    c.if-are_further_cuts.ensures.no refl more are found.1

use Rattle.clover_script.specs.Lines.{too_early}
use Rattle.clover_script.proofs.Reading.{bad_pool}
use Rattle.clover_script.proofs.check.opening_of.Goals as goal

pub returns-in-Some-clause-none : goal.returns-in-Some-clause-none
returns-in-Some-clause-none c = bad_pool c.args.line.now c.in-Some.numbers c.setup_from.result c.in-Some.ensures.found.0 c.in-Some.ensures.found.1 c.setup_from.ensures.none

pub returns-in-Some-spelled_line-clause-none : goal.returns-in-Some-spelled_line-clause-none
returns-in-Some-spelled_line-clause-none c =
    let said = c.in-Some-spelled_line.ensures.found in
    too_early (said.0, said.1, said.3)

use Rattle.clover_main.proofs.CutLines.{down_at_cut, down_at_line, down_at_first}
use Rattle.clover_main.proofs.uncut.check_uncut.Goals as goal

pub returns-in-Some-clause-bad : goal.returns-in-Some-clause-bad
returns-in-Some-clause-bad c =
    let lines = c.in-Ok.ensures.lines in
    let found = c.in-Some.ensures.found in
    down_at_cut c.args.text.now c.in-Ok.setup lines.0 c.in-Some.line lines.1 found.0 found.1

pub returns-in-None-cut-clause-bad : goal.returns-in-None-cut-clause-bad
returns-in-None-cut-clause-bad c = down_at_line c.args.text.now c.in-Err.bad.line c.in-Err.ensures.bad.1 c.in-None-cut.ensures.none

pub returns-in-Some-cut-clause-bad : goal.returns-in-Some-cut-clause-bad
returns-in-Some-cut-clause-bad c =
    let found = c.in-Some-cut.ensures.found in
    down_at_first c.args.text.now c.in-Err.bad.line c.in-Some-cut.line c.min.result c.in-Err.ensures.bad.1 found.0 found.1 c.min.ensures

use Rattle.std.proofs.Common.{ap, ◌∙◌}
use Rattle.clover_script.specs.Line.{lines_of}
use Rattle.clover_script.proofs.LineLemmas.{ended_line, last_line}
use Rattle.clover_script.proofs.split.first_line.Goals as goal

pub returns-in-Some-clause-lines : goal.returns-in-Some-clause-lines
returns-in-Some-clause-lines c =
    ap lines_of c.in-Some.ensures.found ∙ ended_line c.in-Some.cut.0.now c.in-Some.cut.1.now c.in-Some.ensures.first

pub returns-in-None-clause-lines : goal.returns-in-None-clause-lines
returns-in-None-clause-lines c = last_line c.args.text.now c.requires c.in-None.ensures.none

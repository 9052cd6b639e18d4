use Rattle.std.proofs.Common.{◌≡◌, arith, rules, length}
use Rattle.clover_main.proofs.CutLines.{passes_one, first_cut, passes_all}
use Rattle.clover_main.proofs.uncut.first_of_cuts.Goals as goal

pub returns-then-is_of_cuts-clause-found : goal.returns-then-is_of_cuts-clause-found
returns-then-is_of_cuts-clause-found c =
    first_cut c.args.text.now c.first_line.result.0.now c.loop-rest.rest.now c.first_line.result.1.now c.loop-rest.lines c.loop-rest.invariant.passes c.first_line.ensures.lines (c.is_of_cuts.ensures.yes c.if-is_of_cuts.true)

pub loop-rest-preserved : goal.loop-rest-preserved
loop-rest-preserved c = record {
  passes = passes_one c.args.text.now c.first_line.result.0.now c.loop-rest.rest.now c.first_line.result.1.now c.loop-rest.lines c.loop-rest.invariant.passes c.first_line.ensures.lines (c.is_of_cuts.ensures.no c.if-is_of_cuts.false);
  size = omega (arith, c.first_line.ensures.shorter, c.loop-rest.invariant.size);
}

pub returns-clause-none : goal.returns-clause-none
returns-clause-none c =
    let none : length c.loop-rest.rest.now ≡ 0 = search rules in
    passes_all c.args.text.now c.loop-rest.rest.now c.loop-rest.lines c.loop-rest.invariant.passes none

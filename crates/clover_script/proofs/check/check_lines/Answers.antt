use Rattle.std.proofs.Common.{◌≡◌, arith, rules, length}
use Rattle.clover_script.proofs.Reading.{read_first, read_next, read_bad, read_all}
use Rattle.clover_script.proofs.check.check_lines.Goals as goal

pub loop-rest-init : goal.loop-rest-init
loop-rest-init c = record {
  reads = read_first c.args.text.now c.first_line.result.0.now c.passed_over-over.result.1.now c.first_line.result.1.now c.passed_over-over.result.0 c.in-Some.setup
      c.passed_over-over.ensures.over c.first_line.ensures.lines c.in-Some.ensures.found;
  size = omega (arith, c.first_line.ensures.shorter, c.passed_over-over.ensures.size);
}

pub loop-rest-preserved : goal.loop-rest-preserved
loop-rest-preserved c = record {
  reads = read_next c.args.text.now c.first_line-in-loop-rest.result.0.now c.loop-rest.rest.now c.first_line-in-loop-rest.result.1.now c.in-Some.setup c.loop-rest.lines
      c.loop-rest.invariant.reads c.first_line-in-loop-rest.ensures.lines (c.is_built.ensures.yes (search rules));
  size = omega (arith, c.first_line-in-loop-rest.ensures.shorter, c.loop-rest.invariant.size);
}

pub returns-clause-lines : goal.returns-clause-lines
returns-clause-lines c =
    let none : length c.loop-rest.rest.now ≡ 0 = search rules in
    read_all c.args.text.now c.loop-rest.rest.now c.in-Some.setup c.loop-rest.lines c.loop-rest.invariant.reads none

pub returns-then-not-is_built-clause-bad : goal.returns-then-not-is_built-clause-bad
returns-then-not-is_built-clause-bad c =
    read_bad c.args.text.now c.first_line-in-loop-rest.result.0.now c.loop-rest.rest.now c.first_line-in-loop-rest.result.1.now c.in-Some.setup c.loop-rest.lines c.unbuilt-then-not-is_built.result
    c.loop-rest.invariant.reads c.first_line-in-loop-rest.ensures.lines (c.is_built.ensures.no (search rules)) c.unbuilt-then-not-is_built.ensures

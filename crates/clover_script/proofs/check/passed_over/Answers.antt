use Rattle.std.proofs.Common.{arith, rules}
use Rattle.clover_script.proofs.Reading.{over_next}
use Rattle.clover_script.proofs.check.passed_over.Goals as goal

pub loop-line-preserved : goal.loop-line-preserved
loop-line-preserved c = record {
  over = over_next c.args.text.now c.first_line.result.0.now c.loop-line.rest.now c.first_line.result.1.now c.loop-line.passed c.loop-line.invariant.over c.first_line.ensures.lines (search rules);
  size = omega (arith, c.first_line.ensures.shorter, c.loop-line.invariant.size);
}

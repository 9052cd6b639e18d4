use Rattle.std.proofs.Common.{◌+◌, ◌≤◌, length}
use Rattle.clover_script.proofs.Reading.{IsReadTo}
use Rattle.clover_script.proofs.check.check_lines.Given as goal

abbrev pub invariant-loop-rest : goal.invariant-loop-rest
invariant-loop-rest l = record {
  reads : IsReadTo l.text l.setup l.rest l.lines;
  size : l.lines + length l.rest ≤ length l.text + 1;
}

abbrev pub decreases-loop-rest : goal.decreases-loop-rest
decreases-loop-rest l = length l.rest

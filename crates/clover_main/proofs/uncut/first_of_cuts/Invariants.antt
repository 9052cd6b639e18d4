use Rattle.std.proofs.Common.{◌+◌, ◌≤◌, length}
use Rattle.clover_main.proofs.CutLines.{Passes}
use Rattle.clover_main.proofs.uncut.first_of_cuts.Given as goal

abbrev pub invariant-loop-rest : goal.invariant-loop-rest
invariant-loop-rest l = record {
  passes : Passes l.text l.rest l.lines;
  size : l.lines + length l.rest ≤ length l.text;
}

abbrev pub decreases-loop-rest : goal.decreases-loop-rest
decreases-loop-rest l = length l.rest

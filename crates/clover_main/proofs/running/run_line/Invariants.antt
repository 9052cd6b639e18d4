use Rattle.std.proofs.Common.{◌≡◌}
use Rattle.clover_run.specs.Running.{IsLeft}
use Rattle.clover_main.specs.Running.{Runs, most_steps}
use Rattle.clover_main.proofs.running.run_line.Given as goal

abbrev pub invariant-loop-left : goal.invariant-loop-left
invariant-loop-left g l = record {
  runs : Runs l.fn.machine l.machine (g.K.Sink.taken l.fn.sink) (g.K.Sink.taken l.sink) l.fn.out.waiting.items l.out.waiting.items (IsLeft l.fn.line l.left);
  quiet : g.K.Sink.faults l.sink ≡ g.K.Sink.faults l.fn.sink;
}

abbrev pub decreases-loop-left : goal.decreases-loop-left
decreases-loop-left g l = most_steps l.machine l.left

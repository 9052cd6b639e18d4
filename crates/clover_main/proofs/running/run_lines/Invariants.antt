use Rattle.std.proofs.Common.{◌≡◌, [], List, length}
use Rattle.clover_script.specs.Line.{lines_of}
use Rattle.clover_script.specs.declared.line.Line.{Line}
use Rattle.clover_run.specs.Machine.{Continues, IsAt}
use Rattle.clover_run.specs.Run.{Opening}
use Rattle.clover_main.specs.Cuts.{HasNoCuts}
use Rattle.clover_main.specs.Hearing.{Heard}
use Rattle.clover_main.specs.Running.{Reaches}
use Rattle.clover_main.proofs.running.run_lines.Given as goal

abbrev pub invariant-loop-rest : goal.invariant-loop-rest
invariant-loop-rest g l = record {
  ran : (o : Opening) (lines : List Line) → IsAt o l.fn.machine [] → Heard (lines_of l.fn.text) lines → Reaches o l.fn.machine.pool.traced lines (lines_of l.rest) l.machine (g.K.Sink.taken l.fn.sink) (g.K.Sink.taken l.sink) l.fn.out.waiting.items l.out.waiting.items;
  uncut : HasNoCuts l.rest;
  goes_on : Continues l.fn.machine l.machine;
  quiet : g.K.Sink.faults l.sink ≡ g.K.Sink.faults l.fn.sink;
}

abbrev pub decreases-loop-rest : goal.decreases-loop-rest
decreases-loop-rest g l = length l.rest

use Rattle.std.proofs.Common.{◌≡◌, take, flat_map}
use Rattle.clover_event.specs.Text.{access_line}
use Rattle.clover_main.specs.Running.{Says}
use Rattle.clover_main.proofs.access_text.put_accesses.Given as goal

-- the lines of the accesses so far were said
abbrev pub invariant-loop-access : goal.invariant-loop-access
invariant-loop-access g l = record {
  says : Says (g.K.Sink.taken l.fn.sink) (g.K.Sink.taken l.sink) l.fn.chunk l.chunk (flat_map access_line (take l.access-index l.accesses));
  quiet : g.K.Sink.faults l.sink ≡ g.K.Sink.faults l.fn.sink;
}

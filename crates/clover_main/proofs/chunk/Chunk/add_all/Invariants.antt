use Rattle.std.proofs.Common.{◌≡◌, take}
use Rattle.clover_main.specs.Chunks.{joined}
use Rattle.clover_main.specs.Running.{Says}
use Rattle.clover_main.proofs.chunk.Chunk.add_all.Given as goal

-- the pieces so far were said
abbrev pub invariant-loop-piece : goal.invariant-loop-piece
invariant-loop-piece g l = record {
  says : Says (g.K.Sink.taken l.fn.sink) (g.K.Sink.taken l.sink) l.fn.self l.self (joined (take l.piece-index l.pieces));
  quiet : g.K.Sink.faults l.sink ≡ g.K.Sink.faults l.fn.sink;
}

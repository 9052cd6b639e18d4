use Rattle.clover_restart.specs.Reading.{decoded}
use Rattle.clover_restart.proofs.BufferSteps.{AreLiftedTo}
use Rattle.clover_restart.proofs.buffers.read_buffers.Given as goal

abbrev pub invariant-loop-number : goal.invariant-loop-number
invariant-loop-number l = AreLiftedTo l.image.pool (decoded l.image) l.number l.fn.stores.items l.stores.items l.books

use Rattle.std.specs.Prelude.{◌*◌, ◌-◌, length, Some}
use Rattle.clover_words.specs.Tag.{tag_number}
use Rattle.clover_restart.specs.Chaining.{IsReadTo}
use Rattle.clover_restart.specs.Reading.{decoded}
use Rattle.clover_restart.proofs.chain.read_chain.Given as goal

abbrev pub invariant-loop-at : goal.invariant-loop-at
invariant-loop-at l = IsReadTo l.image.pool (decoded l.image) (Some (tag_number l.fn.root)) l.chain.items l.at

abbrev pub decreases-loop-at : goal.decreases-loop-at
decreases-loop-at l = l.image.pool.nodes * l.image.pool.buffers - length l.chain.items

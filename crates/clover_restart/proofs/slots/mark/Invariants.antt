use Rattle.std.specs.Prelude.{◌≡◌, ℕ, ◌*◌, ◌<◌, take, map, slice_index_or}
use Rattle.clover_words.specs.Tag.{tag_number}
use Rattle.clover_alloc.specs.declared.line.Place.TheVariants.{Free}
use Rattle.clover_restart.proofs.Marking.{outs}
use Rattle.clover_restart.proofs.slots.mark.Given as goal

abbrev pub invariant-loop-tag : goal.invariant-loop-tag
invariant-loop-tag l = (q : ℕ) → q < l.pool.nodes * l.pool.buffers → slice_index_or l.marks q Free ≡ outs l.pool (map tag_number (take l.tag-index l.chain)) l.initial.marks q

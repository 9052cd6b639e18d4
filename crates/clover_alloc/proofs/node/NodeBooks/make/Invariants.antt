use Rattle.std.proofs.Common.{◌≡◌, length, take, replicate}
use Rattle.clover_alloc.specs.Lines.{line}
use Rattle.clover_alloc.specs.declared.line.Place.TheVariants.{Free}
use Rattle.clover_alloc.proofs.node.NodeBooks.make.Given as goal

abbrev pub invariant-loop-index : goal.invariant-loop-index
invariant-loop-index l = record {
  free : take l.index l.node ≡ replicate l.index (line 0 Free);
  long : length l.node ≡ l.buffers;
}

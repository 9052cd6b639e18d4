use Rattle.std.proofs.Common.{◌≡◌, replicate}
use Rattle.clover_alloc.specs.Lines.{line}
use Rattle.clover_alloc.specs.declared.line.Place.TheVariants.{Free}
use Rattle.clover_alloc.proofs.books.Books.make.Given as goal

abbrev pub invariant-loop : goal.invariant-loop
invariant-loop l = l.nodes.items ≡ replicate l.counter (replicate l.pool.buffers (line 0 Free))

use Rattle.std.proofs.Common.{◌≡◌, List, get_or}
use Rattle.std.specs.List.{IsFirstMaxByKey}
use Rattle.clover_alloc.specs.declared.line.Line.{Line}
use Rattle.clover_alloc.specs.declared.line.Place.TheVariants.{Free}
use Rattle.clover_alloc.specs.Lines.{count_in}
use Rattle.clover_alloc.proofs.books.Books.fullest.Given as goal

abbrev pub invariant-loop-node : goal.invariant-loop-node
invariant-loop-node l = record {
  first : IsFirstMaxByKey (count_in Free) l.self-inside.nodes.items l.node l.best;
  most : (d : List Line) → l.most ≡ count_in Free (get_or l.self-inside.nodes.items l.best d);
}

use Rattle.std.proofs.Common.{◌≡◌, ◌-◌, ◌<◌, length}
use Rattle.clover_alloc.specs.Lines.{count_in}
use Rattle.clover_alloc.specs.Kept.{IsIndexed}
use Rattle.clover_alloc.specs.declared.line.Place.TheVariants.{Free}
use Rattle.clover_alloc.proofs.node.NodeBooks.first_free.Given as goal

abbrev pub invariant-loop-self : goal.invariant-loop-self
invariant-loop-self l = record {
  lines : l.self-inside.lines.items ≡ l.initial.self-inside.lines.items;
  some : 0 < count_in Free l.self-inside.lines.items;
  holds : IsIndexed l.self-inside.lines.items l.self-inside.words.items l.self-inside.free l.self-inside.low;
}

abbrev pub decreases-loop-self : goal.decreases-loop-self
decreases-loop-self l = length l.self-inside.words.items - l.self-inside.low

use Rattle.std.proofs.Common.{◌≡◌, ◌+◌, length}
use Rattle.clover_alloc.specs.Batch.{tags_of}
use Rattle.clover_alloc.specs.declared.line.Place.TheVariants.{Free}
use Rattle.clover_alloc.specs.Ledger.{IsLedger, count_of}
use Rattle.clover_alloc.specs.Taking.{Given}
use Rattle.clover_alloc.proofs.books.Books.take.Given as goal

abbrev pub invariant-loop : goal.invariant-loop
invariant-loop l = record {
  given : Given l.initial.self (tags_of l.batch) l.self;
  long : length (tags_of l.batch) ≡ l.counter;
  count : l.batch.count ≡ l.counter;
  left : count_of Free l.self + l.counter ≡ count_of Free l.initial.self;
  whole : IsLedger l.self;
}

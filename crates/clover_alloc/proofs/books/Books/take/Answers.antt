use Rattle.std.proofs.Common.{◌∷◌, [], subst, arith}
use Rattle.std.proofs.lemmas.List.{length-append}
use Rattle.clover_alloc.specs.Ledger.{IsLedger}
use Rattle.clover_alloc.specs.Batch.{tags_of}
use Rattle.clover_alloc.proofs.TakingLemmas.{Given-push, AreTaken-given, AreNew-given, Given-keeps, out_counts}
use Rattle.clover_alloc.proofs.books.Books.take.Goals as goal

pub loop-preserved : goal.loop-preserved
loop-preserved c = record {
  given = rw c.push.ensures.value (Given-push c.args.self.now (tags_of c.loop.batch) c.loop.self c.take_one.new.self c.take_one.result c.loop.invariant.given c.take_one.ensures.due c.take_one.ensures.taken);
  long = rw (c.push.ensures.value, length-append (tags_of c.loop.batch) (c.take_one.result ∷ [])) (omega (arith, c.loop.invariant.long));
  count = omega (arith, c.push.ensures.count, c.loop.invariant.count);
  left = rw c.take_one.ensures.taken (let one = out_counts c.loop.self c.loop.invariant.whole c.take_one.result c.take_one.ensures.due in omega (arith, one, c.loop.invariant.left));
  whole = c.take_one.ensures.whole;
}

pub returns-clause-moved : goal.returns-clause-moved
returns-clause-moved c = AreTaken-given c.args.self.now (tags_of c.loop.batch) c.loop.self (subst IsLedger c.self.view_is c.self.invariant.whole) c.loop.invariant.given

pub returns-clause-new : goal.returns-clause-new
returns-clause-new c = AreNew-given c.args.self.now (tags_of c.loop.batch) c.loop.self (subst IsLedger c.self.view_is c.self.invariant.whole) c.loop.invariant.given

pub returns-clause-spent : goal.returns-clause-spent
returns-clause-spent c = Given-keeps c.args.self.now (tags_of c.loop.batch) c.loop.self (subst IsLedger c.self.view_is c.self.invariant.whole) c.loop.invariant.given

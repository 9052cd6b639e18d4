use Rattle.std.proofs.Common.{◌≡◌, ◌≤◌, ◌∙◌, ℕ, [], ◌++◌, length, ap, arith, subst, sym}
use Rattle.clover_alloc.specs.Batch.{tags_of}
use Rattle.clover_node.specs.Node.{NodeState}
use Rattle.clover_words.specs.declared.setup.Setup.{Setup}
use Rattle.clover_plain.specs.Handing.{numbers_of}
use Rattle.clover_pools.specs.Grants.{AreNew, batch}
use Rattle.clover_pools.proofs.Granting.{dealt_so, first_two, handed_stands, hands_batch, may_batch, two_left}
use Rattle.clover_pools.proofs.grants.hand_batch.Goals as goal

pub hand_over-requires-clause-may : goal.hand_over-requires-clause-may
hand_over-requires-clause-may c =
    let p = c.args.pool.now in
    let b = c.take-batch.result in
    let is : numbers_of b ≡ batch = first_two p.setup c.requires.begun.new.small.numbers c.args.books.now c.take-batch.new.self b c.requires.books c.take-batch.ensures.taken in
    hands_batch p (numbers_of b) is c.requires.begun

pub returns-clause-dealt : goal.returns-clause-dealt
returns-clause-dealt c =
    let p = c.args.pool.now in
    let b = c.take-batch.result in
    let is : numbers_of b ≡ batch = first_two p.setup c.requires.begun.new.small.numbers c.args.books.now c.take-batch.new.self b c.requires.books c.take-batch.ensures.taken in
    dealt_so (numbers_of b) p c.hand_over.new.self is c.requires.begun c.hand_over.ensures.handed c.hand_over.ensures.history

pub returns-clause-books : goal.returns-clause-books
returns-clause-books c = record {
  before = c.args.books.now;
  new = subst (λ (s : Setup). AreNew s c.args.books.now) (sym c.hand_over.ensures.handed.setup) c.requires.books;
  tags = _;
  takes = c.take-batch.ensures.taken;
}

pub returns-clause-nameless : goal.returns-clause-nameless
returns-clause-nameless c =
    let b = c.take-batch.result in let n = c.args.node.now in let p = c.args.pool.now in
    let value = c.accept.ensures.value in
    let is : numbers_of b ≡ batch = first_two p.setup c.requires.begun.new.small.numbers c.args.books.now c.take-batch.new.self b c.requires.books c.take-batch.ensures.taken in
    let may = may_batch p n c.requires.begun.new.small.numbers c.requires.stands (tags_of b) is (ap (λ (m : NodeState). m.names) c.requires.first) in
    record {
      stands = handed_stands (numbers_of b) [] p c.hand_over.new.self c.requires.begun.new c.hand_over.ensures.handed c.hand_over.ensures.history n c.accept.new.self c.requires.stands
          (ap (λ (m : NodeState). m.client) value, ap (λ (m : NodeState). m.caller) value, ap (λ (m : NodeState). m.counting) value)
          (λ call room. c.accept.ensures.holds call _ room (c.requires.stands.holds call room) may);
      names = ap (λ (m : NodeState). m.names) value ∙ ap (λ (m : NodeState). m.names ++ []) c.requires.first;
      stock = subst (λ (k : ℕ). k ≤ 2) (sym (ap (λ (m : NodeState). length m.stock) value ∙ ap (λ (m : NodeState). length (m.stock ++ tags_of b)) c.requires.first ∙ two_left (tags_of b) is)) (omega arith);
    }

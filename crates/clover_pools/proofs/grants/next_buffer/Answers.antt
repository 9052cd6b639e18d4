use Rattle.clover_alloc.specs.Batch.{tags_of}
use Rattle.clover_pools.proofs.Granting.{first_is, next_one}
use Rattle.clover_pools.proofs.SmallPool.{third}
use Rattle.clover_pools.proofs.grants.next_buffer.Goals as goal

pub returns : goal.returns
returns c =
    let r = c.requires in
    first_is c.take.result.count c.take.result.tags c.index-take-0.result third (next_one r.0 r.1 c.args.books.now c.take.new.self (tags_of c.take.result) r.2 c.take.ensures.taken)

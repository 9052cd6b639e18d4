use Rattle.clover_alloc.specs.Batch.{tags_of}
use Rattle.clover_run.proofs.Grants.{batch_ranged}
use Rattle.clover_run.proofs.served.take_for.Goals as goal

-- the books are ahead of the view by the batch, whose tags are of the pool
pub returns-in-Stock-clause-ahead : goal.returns-in-Stock-clause-ahead
returns-in-Stock-clause-ahead c = λ p v a.
    let b = c.grant.ensures.ahead p v a in
    (b, batch_ranged p c.args.server.now c.grant.new.self v (tags_of c.grant.result) a b c.grant.ensures.taken.each)

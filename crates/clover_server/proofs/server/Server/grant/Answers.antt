use Rattle.std.proofs.Common.{subst, sym, ap}
use Rattle.clover_alloc.specs.Batch.{tags_of}
use Rattle.clover_alloc.specs.Ledger.{Ledger}
use Rattle.clover_alloc.specs.Taking.{Given}
use Rattle.clover_server.specs.Holding.{Agrees}
use Rattle.clover_server.specs.Server.{ServerState}
use Rattle.clover_server.proofs.Granting.{agrees_granted}
use Rattle.clover_server.proofs.server.Server.grant.Goals as goal

pub returns-clause-ahead : goal.returns-clause-ahead
returns-clause-ahead c = λ p v a.
    let e = c.self.view_is in
    subst (λ (z : ServerState). Agrees p (tags_of c.take.result) (record z { books = c.take.new.self }) v) (sym e)
    (agrees_granted p c.args.self.now v (tags_of c.take.result) c.take.new.self a (subst (λ (z : Ledger). Given z (tags_of c.take.result) c.take.new.self) (ap (λ (z : ServerState). z.books) e) c.take.ensures.taken.each))

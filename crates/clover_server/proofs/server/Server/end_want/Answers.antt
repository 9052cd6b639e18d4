use Rattle.std.proofs.Common.{[], subst, sym}
use Rattle.clover_server.specs.Holding.{Agrees}
use Rattle.clover_server.specs.Server.{ServerState}
use Rattle.clover_server.specs.Steps.{ended}
use Rattle.clover_server.proofs.Wants.{agrees_ended}
use Rattle.clover_server.proofs.server.Server.end_want.Goals as goal

pub returns-clause-agrees : goal.returns-clause-agrees
returns-clause-agrees c = λ p v a. subst (λ (z : ServerState). Agrees p [] (ended z) v) (sym c.self.view_is) (agrees_ended p c.args.self.now v a)

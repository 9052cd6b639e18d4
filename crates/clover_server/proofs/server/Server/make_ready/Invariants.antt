use Rattle.std.proofs.Common.{◌≡◌, []}
use Rattle.clover_server.specs.Holding.{Agrees}
use Rattle.clover_server.specs.Left.{work_left}
use Rattle.clover_server.specs.Whole.{StockStep, moment}
use Rattle.clover_server.proofs.Repeating.{Since}
use Rattle.clover_server.proofs.server.Server.make_ready.Given as goal

abbrev pub invariant-steps : goal.invariant-steps
invariant-steps g l = record {
  agrees : Agrees (g.P.Port.pool l.port) [] l.self (g.P.Port.view l.port);
  since : Since (StockStep (λ p a b x q. g.P.Port.made p a b x q) (λ p q. g.P.Port.failed p q)) (moment l.initial.self l.initial.port) (moment l.self l.port);
  same : (g.P.Port.pool l.port ≡ g.P.Port.pool l.initial.port) × (g.P.Port.table l.port ≡ g.P.Port.table l.initial.port) × (g.P.Port.lender l.port ≡ g.P.Port.lender l.initial.port);
  quiet : g.P.Port.faults l.port ≡ g.P.Port.faults l.initial.port;
}

abbrev pub decreases-steps : goal.decreases-steps
decreases-steps g l = work_left l.self

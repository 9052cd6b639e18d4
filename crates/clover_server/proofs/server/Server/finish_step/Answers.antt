use Rattle.std.proofs.Common.{◌≡◌, false, true, refl}
use Rattle.clover_server.proofs.Lessening.{lessened, gives_on}
use Rattle.clover_server.proofs.Steps.{finished}
use Rattle.clover_server.proofs.server.Server.finish_step.Goals as goal

pub returns-clause-step : goal.returns-clause-step
returns-clause-step g c =
    let P = g.P.Port in let p = c.args.port.now in let q = c.go_on.new.port in
    finished (λ a x. P.made p a false x q) (P.failed p q) (q ≡ p) c.args.self.now c.args.self.now c.go_on.new.self c.go_on.result c.go_on.ensures.made c.tell.result c.tell.ensures refl

pub returns-clause-lessens : goal.returns-clause-lessens
returns-clause-lessens g c =
    let P = g.P.Port in let p = c.args.port.now in let q = c.go_on.new.port in
    lessened (λ a x. P.made p a false x q) (P.failed p q) c.args.self.now c.go_on.new.self true c.go_on.result c.tell.result c.tell.ensures c.go_on.ensures.made c.go_on.ensures.lowers

pub returns-clause-gives : goal.returns-clause-gives
returns-clause-gives g c =
    let P = g.P.Port in let p = c.args.port.now in let q = c.go_on.new.port in
    gives_on (λ a x. P.made p a false x q) (P.failed p q) c.args.self.now c.go_on.new.self c.go_on.result c.go_on.ensures.made

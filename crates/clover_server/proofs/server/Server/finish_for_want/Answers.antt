use Rattle.std.proofs.Common.{◌≡◌, [], false, refl, subst, sym}
use Rattle.clover_server.specs.Holding.{Agrees}
use Rattle.clover_server.specs.Server.{ServerState}
use Rattle.clover_server.proofs.Steps.{want_finished, want_refused}
use Rattle.clover_server.proofs.Wants.{agrees_ended}
use Rattle.clover_server.proofs.server.Server.finish_for_want.Goals as goal

pub returns-in-Unreached-clause-step : goal.returns-in-Unreached-clause-step
returns-in-Unreached-clause-step g c =
    let P = g.P.Port in let p = c.args.port.now in let q = c.go_on.new.port in
    want_refused (λ a x. P.made p a false x q) (P.failed p q) (q ≡ p) c.args.self.now c.args.self.now c.go_on.new.self c.go_on.result c.go_on.ensures.made refl c.in-Unreached.is c.answer.new.self c.answer.result c.answer.ensures.value c.answer.ensures.answer

pub returns-in-Unreached-clause-agrees : goal.returns-in-Unreached-clause-agrees
returns-in-Unreached-clause-agrees g c =
    let P = g.P.Port in let q = c.go_on.new.port in
    subst (λ (z : ServerState). Agrees (P.pool q) [] z (P.view q)) (sym c.answer.ensures.value) (agrees_ended (P.pool q) c.go_on.new.self (P.view q) c.go_on.ensures.agrees)

pub returns-in_default-clause-step : goal.returns-in_default-clause-step
returns-in_default-clause-step g c =
    let P = g.P.Port in let p = c.args.port.now in let q = c.go_on.new.port in
    want_finished (λ a x. P.made p a false x q) (P.failed p q) (q ≡ p) c.args.self.now c.args.self.now c.go_on.new.self c.go_on.result c.go_on.ensures.made refl c.in_default.not-Unreached

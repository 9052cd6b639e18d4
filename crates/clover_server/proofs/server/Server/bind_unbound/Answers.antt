use Rattle.std.proofs.Common.{◌≡◌, ℕ, [], false, subst, sym}
use Rattle.std.specs.Prelude.{Option}
use Rattle.clover_server.specs.Holding.{Agrees}
use Rattle.clover_server.specs.Server.{ServerState}
use Rattle.clover_server.specs.Steps.{WantStep, unbound_due}
use Rattle.clover_server.proofs.Wants.{agrees_ended}
use Rattle.clover_server.proofs.server.Server.bind_unbound.Goals as goal

pub returns-in-None-clause-agrees : goal.returns-in-None-clause-agrees
returns-in-None-clause-agrees g c =
    let P = g.P.Port in let p = c.args.port.now in
    subst (λ (z : ServerState). Agrees (P.pool p) [] z (P.view p)) (sym c.answer.ensures.value) (agrees_ended (P.pool p) c.args.self.now (P.view p) c.requires.agrees)

pub returns-in-Some-clause-step : goal.returns-in-Some-clause-step
returns-in-Some-clause-step g c =
    let P = g.P.Port in let p = c.args.port.now in let q = c.bind_slot.new.port in
    subst (λ (z : Option ℕ). WantStep (unbound_due c.args.self.now c.args.key.now z) c.args.self.now c.bind_slot.new.self c.bind_slot.result (λ a x. P.made p a false x q) (P.failed p q) (q ≡ p)) (sym c.in-Some.is) c.bind_slot.ensures.step

use Rattle.std.proofs.Common.{◌≡◌, ℕ, [], false, subst, sym, ap}
use Rattle.std.specs.Prelude.{Option}
use Rattle.std.specs.Option.{is_some}
use Rattle.clover_server.specs.Holding.{Agrees}
use Rattle.clover_server.specs.Server.{ServerState}
use Rattle.clover_server.specs.Steps.{WantStep, named_due}
use Rattle.clover_server.proofs.Wants.{agrees_ended}
use Rattle.clover_server.proofs.server.Server.bind_key.Goals as goal

pub returns-in-Some-clause-agrees : goal.returns-in-Some-clause-agrees
returns-in-Some-clause-agrees g c =
    let P = g.P.Port in let p = c.args.port.now in
    subst (λ (z : ServerState). Agrees (P.pool p) [] z (P.view p)) (sym c.answer.ensures.value) (agrees_ended (P.pool p) c.args.self.now (P.view p) c.requires.agrees)

pub bind_unbound-requires-clause-new : goal.bind_unbound-requires-clause-new
bind_unbound-requires-clause-new g c = c.requires.found.none.0 (ap is_some c.in-None.is)

pub returns-in-None-clause-step : goal.returns-in-None-clause-step
returns-in-None-clause-step g c =
    let P = g.P.Port in let p = c.args.port.now in let q = c.bind_unbound.new.port in
    subst (λ (z : Option ℕ). WantStep (named_due c.args.self.now c.args.key.now z c.args.free) c.args.self.now c.bind_unbound.new.self c.bind_unbound.result (λ a x. P.made p a false x q) (P.failed p q) (q ≡ p)) (sym c.in-None.is) c.bind_unbound.ensures.step

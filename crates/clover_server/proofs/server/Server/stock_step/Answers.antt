use Rattle.std.proofs.Common.{◌≡◌, [], false, refl, subst, sym, ap, ◌∙◌}
use Rattle.std.specs.Option.{is_some}
use Rattle.clover_server.specs.Holding.{Agrees}
use Rattle.clover_server.specs.Looking.{room_of}
use Rattle.clover_server.specs.Server.{ServerState}
use Rattle.clover_server.specs.declared.due.Room.TheVariants.{Swept, Full, Free}
use Rattle.clover_server.proofs.Steps.{found_room, not_full, told_full, stock_finishes, stock_told}
use Rattle.clover_server.proofs.Wants.{agrees_ended, none_is}
use Rattle.clover_server.proofs.server.Server.stock_step.Goals as goal

pub finish_for_want-requires : goal.finish_for_want-requires
finish_for_want-requires g c = record { task = sym (ap (λ (z : ServerState). is_some z.task) c.self.view_is) ∙ sym c.is_some.ensures ∙ c.if-is_some.true; agrees = c.requires }

pub sweep_slot-requires : goal.sweep_slot-requires
sweep_slot-requires g c =
    let s = c.args.self.now in
    record {
      idle = none_is s.task (sym (ap (λ (z : ServerState). is_some z.task) c.self.view_is) ∙ sym c.is_some.ensures ∙ c.if-is_some.false);
      at = found_room s s.setup.batch (Swept c.in-Swept.slot) s.setup.some_batch (c.in-Swept.ensures ∙ ap (λ (z : ServerState). room_of s z.setup.batch) c.self.view_is);
      agrees = c.requires;
    }

pub returns-then-is_some-clause-step : goal.returns-then-is_some-clause-step
returns-then-is_some-clause-step g c =
    let P = g.P.Port in let p = c.args.port.now in let q = c.finish_for_want.new.port in
    stock_finishes c.args.self.now c.finish_for_want.new.self c.finish_for_want.result (λ a x. P.made p a false x q) (P.failed p q) (q ≡ p)
    (sym (ap (λ (z : ServerState). is_some z.task) c.self.view_is) ∙ sym c.is_some.ensures ∙ c.if-is_some.true) c.finish_for_want.ensures.step

pub returns-then-is_some-clause-full : goal.returns-then-is_some-clause-full
returns-then-is_some-clause-full g c = not_full c.finish_for_want.result _ c.finish_for_want.ensures.not_full

pub returns-in-Swept-clause-step : goal.returns-in-Swept-clause-step
returns-in-Swept-clause-step g c =
    let P = g.P.Port in let p = c.args.port.now in let q = c.sweep_slot.new.port in let s = c.args.self.now in
    stock_told s c.sweep_slot.new.self c.sweep_slot.result (λ a x. P.made p a false x q) (P.failed p q) (q ≡ p) (Swept c.in-Swept.slot)
    (none_is s.task (sym (ap (λ (z : ServerState). is_some z.task) c.self.view_is) ∙ sym c.is_some.ensures ∙ c.if-is_some.false))
    (c.in-Swept.ensures ∙ ap (λ (z : ServerState). room_of s z.setup.batch) c.self.view_is) c.sweep_slot.ensures.step

pub returns-in-Full-clause-step : goal.returns-in-Full-clause-step
returns-in-Full-clause-step g c =
    let P = g.P.Port in let p = c.args.port.now in let s = c.args.self.now in
    stock_told s c.answer_full.new.self c.answer_full.result (λ a x. P.made p a false x p) (P.failed p p) (p ≡ p) Full
    (none_is s.task (sym (ap (λ (z : ServerState). is_some z.task) c.self.view_is) ∙ sym c.is_some.ensures ∙ c.if-is_some.false))
    (c.in-Full.ensures ∙ ap (λ (z : ServerState). room_of s z.setup.batch) c.self.view_is) (refl, c.answer_full.ensures.answer, c.answer_full.ensures.value)

pub returns-in-Full-clause-full : goal.returns-in-Full-clause-full
returns-in-Full-clause-full g c =
    let P = g.P.Port in let p = c.args.port.now in let s = c.args.self.now in
    told_full (P.pool p) s c.answer_full.new.self (P.view p) c.answer_full.result c.requires
    (found_room s s.setup.batch Full s.setup.some_batch (c.in-Full.ensures ∙ ap (λ (z : ServerState). room_of s z.setup.batch) c.self.view_is))
    c.answer_full.ensures.value c.answer_full.ensures.answer c.answer_full.ensures.adds_up

pub returns-in-Full-clause-agrees : goal.returns-in-Full-clause-agrees
returns-in-Full-clause-agrees g c =
    let P = g.P.Port in let p = c.args.port.now in
    subst (λ (z : ServerState). Agrees (P.pool p) [] z (P.view p)) (sym c.answer_full.ensures.value) (agrees_ended (P.pool p) c.args.self.now (P.view p) c.requires)

pub returns-in-Free-clause-step : goal.returns-in-Free-clause-step
returns-in-Free-clause-step g c =
    let P = g.P.Port in let p = c.args.port.now in let s = c.args.self.now in
    stock_told s c.answer.new.self c.answer.result (λ a x. P.made p a false x p) (P.failed p p) (p ≡ p) Free
    (none_is s.task (sym (ap (λ (z : ServerState). is_some z.task) c.self.view_is) ∙ sym c.is_some.ensures ∙ c.if-is_some.false))
    (c.in-Free.ensures ∙ ap (λ (z : ServerState). room_of s z.setup.batch) c.self.view_is) (refl, c.answer.ensures.answer, c.answer.ensures.value)

pub returns-in-Free-clause-agrees : goal.returns-in-Free-clause-agrees
returns-in-Free-clause-agrees g c =
    let P = g.P.Port in let p = c.args.port.now in
    subst (λ (z : ServerState). Agrees (P.pool p) [] z (P.view p)) (sym c.answer.ensures.value) (agrees_ended (P.pool p) c.args.self.now (P.view p) c.requires)

use Rattle.std.proofs.Common.{◌≡◌, [], false, refl, subst, sym, ap, arith}
use Rattle.std.specs.Prelude.{IsSome, ◌<◌, ◌≤◌}
use Rattle.clover_alloc.specs.Ledger.{IsLedger}
use Rattle.clover_server.specs.Holding.{Agrees}
use Rattle.clover_server.specs.Server.{ServerState}
use Rattle.clover_server.specs.Steps.{Binds, WantStep, by_room}
use Rattle.clover_server.specs.declared.due.Room.{Room}
use Rattle.clover_server.specs.declared.due.Room.TheVariants.{Swept, Full, Free}
use Rattle.clover_server.proofs.Steps.{found_room, want_began, not_full, told_full}
use Rattle.clover_server.proofs.Wants.{agrees_ended, begun_binding}
use Rattle.clover_server.proofs.server.Server.bind_slot.Goals as goal

pub sweep_slot-requires : goal.sweep_slot-requires
sweep_slot-requires g c = record { idle = c.requires.idle; at = found_room c.args.self.now 1 (Swept c.in-Swept.slot) (let z : 1 ≤ 1 = omega arith in z) c.in-Swept.ensures; agrees = c.requires.agrees }

pub begin_binding-requires-clause-free : goal.begin_binding-requires-clause-free
begin_binding-requires-clause-free g c = found_room c.args.self.now 1 Free (let z : 1 ≤ 1 = omega arith in z) c.in-Free.ensures

pub finish_for_want-requires : goal.finish_for_want-requires
finish_for_want-requires g c =
    let P = g.P.Port in let p = c.args.port.now in let e = c.begin_binding.ensures.begun in
    record {
      task = subst (λ (z : ServerState). IsSome z.task) (sym e.4) refl;
      agrees = subst (λ (z : ServerState). Agrees (P.pool p) [] z (P.view p)) (sym e.4)
          (begun_binding (P.pool p) c.args.self.now (P.view p) c.args.slot c.args.key.now e.0 c.requires.agrees c.requires.idle c.requires.may e.3 e.1
          (e.2.within 0 e.0 (let z : 0 < 1 = omega arith in z))
          (subst IsLedger (ap (λ (z : ServerState). z.books) e.4) c.begin_binding.ensures.whole));
    }

pub returns-in-Swept-clause-step : goal.returns-in-Swept-clause-step
returns-in-Swept-clause-step g c =
    let P = g.P.Port in let p = c.args.port.now in let q = c.sweep_slot.new.port in
    subst (λ (z : Room). WantStep (by_room c.args.self.now z (Binds c.args.slot c.args.key.now)) c.args.self.now c.sweep_slot.new.self c.sweep_slot.result (λ a x. P.made p a false x q) (P.failed p q) (q ≡ p)) c.in-Swept.ensures c.sweep_slot.ensures.step

pub returns-in-Full-clause-step : goal.returns-in-Full-clause-step
returns-in-Full-clause-step g c =
    let P = g.P.Port in let p = c.args.port.now in
    subst (λ (z : Room). WantStep (by_room c.args.self.now z (Binds c.args.slot c.args.key.now)) c.args.self.now c.answer_full.new.self c.answer_full.result (λ a x. P.made p a false x p) (P.failed p p) (p ≡ p)) c.in-Full.ensures (refl, c.answer_full.ensures.answer, c.answer_full.ensures.value)

pub returns-in-Full-clause-full : goal.returns-in-Full-clause-full
returns-in-Full-clause-full g c =
    let P = g.P.Port in let p = c.args.port.now in
    told_full (P.pool p) c.args.self.now c.answer_full.new.self (P.view p) c.answer_full.result c.requires.agrees (found_room c.args.self.now 1 Full (let z : 1 ≤ 1 = omega arith in z) c.in-Full.ensures) c.answer_full.ensures.value c.answer_full.ensures.answer c.answer_full.ensures.adds_up

pub returns-in-Full-clause-agrees : goal.returns-in-Full-clause-agrees
returns-in-Full-clause-agrees g c =
    let P = g.P.Port in let p = c.args.port.now in
    subst (λ (z : ServerState). Agrees (P.pool p) [] z (P.view p)) (sym c.answer_full.ensures.value) (agrees_ended (P.pool p) c.args.self.now (P.view p) c.requires.agrees)

pub returns-in-Free-clause-step : goal.returns-in-Free-clause-step
returns-in-Free-clause-step g c =
    let P = g.P.Port in let p = c.args.port.now in let q = c.finish_for_want.new.port in let e = c.begin_binding.ensures.begun in
    subst (λ (z : Room). WantStep (by_room c.args.self.now z (Binds c.args.slot c.args.key.now)) c.args.self.now c.finish_for_want.new.self c.finish_for_want.result (λ a x. P.made p a false x q) (P.failed p q) (q ≡ p)) c.in-Free.ensures
    (want_began c.args.self.now c.begin_binding.new.self c.finish_for_want.new.self c.finish_for_want.result c.args.slot c.args.key.now (λ a x. P.made p a false x q) (P.failed p q) (q ≡ p) (e.0, e.1, e.4) c.finish_for_want.ensures.step)

pub returns-in-Free-clause-full : goal.returns-in-Free-clause-full
returns-in-Free-clause-full g c = not_full c.finish_for_want.result _ c.finish_for_want.ensures.not_full

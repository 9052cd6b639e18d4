use Rattle.std.proofs.Common.{◌≡◌, true, false, subst, sym, ap, ◌∙◌}
use Rattle.std.specs.Option.{is_some}
use Rattle.clover_server.specs.Looking.{IsSlotOf, IsLowestFree}
use Rattle.clover_server.specs.Server.{ServerState}
use Rattle.clover_server.proofs.Steps.{not_full}
use Rattle.clover_server.proofs.Wants.{none_is}
use Rattle.clover_server.proofs.server.Server.bind_step.Goals as goal

pub finish_for_want-requires : goal.finish_for_want-requires
finish_for_want-requires g c = record { task = sym (ap (λ (z : ServerState). is_some z.task) c.self.view_is) ∙ sym c.is_some.ensures ∙ c.if-is_some.true; agrees = c.requires }

pub bind_key-requires : goal.bind_key-requires
bind_key-requires g c = record {
  idle = none_is c.args.self.now.task (sym (ap (λ (z : ServerState). is_some z.task) c.self.view_is) ∙ sym c.is_some.ensures ∙ c.if-is_some.false);
  found = subst (λ (z : ServerState). IsSlotOf c.args.key.now z.directory c.find-found.result) c.self.view_is (record { found = c.find-found.ensures.found; none = c.find-found.ensures.none });
  free = subst (λ (z : ServerState). IsLowestFree z.directory c.free_slot-free.result) c.self.view_is (record { free = c.free_slot-free.ensures.free; lowest = c.free_slot-free.ensures.lowest; none = c.free_slot-free.ensures.none });
  agrees = c.requires;
}

pub returns-then-is_some-clause-finishes : goal.returns-then-is_some-clause-finishes
returns-then-is_some-clause-finishes g c = λ h. c.finish_for_want.ensures.step

pub returns-then-is_some-clause-step : goal.returns-then-is_some-clause-step
returns-then-is_some-clause-step g c = λ h. absurd (let z : true ≡ false = sym (sym (ap (λ (z : ServerState). is_some z.task) c.self.view_is) ∙ sym c.is_some.ensures ∙ c.if-is_some.true) ∙ ap is_some h in cc)

pub returns-then-is_some-clause-full : goal.returns-then-is_some-clause-full
returns-then-is_some-clause-full g c = not_full c.finish_for_want.result _ c.finish_for_want.ensures.not_full

pub returns-clause-finishes : goal.returns-clause-finishes
returns-clause-finishes g c = λ h. absurd (let z : true ≡ false = sym h ∙ sym (ap (λ (z : ServerState). is_some z.task) c.self.view_is) ∙ sym c.is_some.ensures ∙ c.if-is_some.false in cc)

pub returns-clause-step : goal.returns-clause-step
returns-clause-step g c = λ h. (
  c.find-found.result,
  c.free_slot-free.result,
  subst (λ (z : ServerState). IsSlotOf c.args.key.now z.directory c.find-found.result) c.self.view_is (record { found = c.find-found.ensures.found; none = c.find-found.ensures.none }),
  subst (λ (z : ServerState). IsLowestFree z.directory c.free_slot-free.result) c.self.view_is (record { free = c.free_slot-free.ensures.free; lowest = c.free_slot-free.ensures.lowest; none = c.free_slot-free.ensures.none }),
  c.bind_key.ensures.step,
)

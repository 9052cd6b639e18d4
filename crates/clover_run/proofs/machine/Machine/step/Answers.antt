use Rattle.std.proofs.Common.{◌≡◌, ◌-◌, ◌<◌, arith, inl, inr, subst, sym, ◌∙◌}
use Rattle.std.proofs.lemmas.Result.{IfOk-weaker}
use Rattle.clover_run.specs.Kept.{meaning}
use Rattle.clover_run.specs.Left.{left}
use Rattle.clover_run.specs.Machine.{IsBusy, OnlyWaits, WantsNothing}
use Rattle.clover_run.specs.declared.event.Note.{Note}
use Rattle.clover_run.specs.declared.want.Want.TheVariants.{Nothing, Stock, Names}
use Rattle.clover_run.proofs.Busies.{busy_within, client_read}
use Rattle.clover_run.proofs.OnlyWaiting.{idle_happens}
use Rattle.clover_run.proofs.machine.Machine.step.Goals as goal

pub returns-then-not-is_busy-clause-happened : goal.returns-then-not-is_busy-clause-happened
returns-then-not-is_busy-clause-happened c = idle_happens c.args.self.now c.args.actor (λ b. let t = c.is_busy.ensures.busy.1 b in cc (t, c.if-not-is_busy.true))

pub step_own-requires-clause-own : goal.step_own-requires-clause-own
step_own-requires-clause-own c =
    let busy : IsBusy c.args.self.now c.args.actor = c.is_busy.ensures.busy.0 c.if-not-is_busy.false in
    subst WantsNothing (sym (client_read (meaning c.self.inside) c.args.self.now c.args.actor c.index.result.now c.self.view_is c.if-actor-eq0.false busy c.index.ensures)) c.in-Nothing.is

pub step_served-requires : goal.step_served-requires
step_served-requires c =
    let busy : IsBusy c.args.self.now c.args.actor = c.is_busy.ensures.busy.0 c.if-not-is_busy.false in
    let here = client_read (meaning c.self.inside) c.args.self.now c.args.actor c.index.result.now c.self.view_is c.if-actor-eq0.false busy c.index.ensures in
    record {
      here = omega (arith, c.if-actor-eq0.false);
      there = busy_within c.args.self.now (c.args.actor - 1) c.args.actor (omega (arith, c.if-actor-eq0.false)) busy;
      wants = λ none.
          let free : c.index.result.now.want ≡ Nothing = subst WantsNothing here none in
          elim c.in-Stock.is [
            | inl stock ↦ (let e : Stock ≡ Nothing = sym stock ∙ free in absurd cc)
            | inr names ↦ (let e : Names ≡ Nothing = sym names ∙ free in absurd cc)
          ];
    }

pub returns-in-Stock : goal.returns-in-Stock
returns-in-Stock c = record {
  happened = c.step_served.ensures.happened;
  parts = c.step_served.ensures.parts;
  less = IfOk-weaker c.step_served.result
      (λ (note : Note). (OnlyWaits c.args.self.now c.args.actor → ⊥) → left c.step_served.new.self c.args.actor < left c.args.self.now c.args.actor)
      (λ (note : Note). IsBusy c.args.self.now c.args.actor → (OnlyWaits c.args.self.now c.args.actor → ⊥) → left c.step_served.new.self c.args.actor < left c.args.self.now c.args.actor)
      (λ note less busy. less) c.step_served.ensures.less;
  same = c.step_served.ensures.same;
}

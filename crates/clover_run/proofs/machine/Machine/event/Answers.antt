use Rattle.std.proofs.Common.{◌≡◌, ℕ, ◌<◌, sym, ◌∙◌, subst}
use Rattle.std.proofs.lemmas.Result.{IfOk-weaker}
use Rattle.clover_event.specs.declared.event.Event.{Event}
use Rattle.clover_event.specs.declared.event.Event.TheVariants.{Step}
use Rattle.clover_run.specs.Left.{left}
use Rattle.clover_run.specs.Machine.{Happens, IsBusy, OnlyWaits}
use Rattle.clover_run.specs.declared.event.Note.{Note}
use Rattle.clover_run.specs.declared.event.Note.TheVariants.{Quiet}
use Rattle.clover_run.proofs.machine.Machine.event.Goals as goal

pub returns-in-Begin-clause-happened : goal.returns-in-Begin-clause-happened
returns-in-Begin-clause-happened c = subst (λ (e : Event). Happens c.args.self.now c.begin.new.self e c.begin.result) (sym c.in-Begin.is) c.begin.ensures.happened

pub returns-in-Step-clause-less : goal.returns-in-Step-clause-less
returns-in-Step-clause-less c =
    IfOk-weaker c.step.result
    (λ (note : Note). IsBusy c.args.self.now c.in-Step.actor → (OnlyWaits c.args.self.now c.in-Step.actor → ⊥) → left c.step.new.self c.in-Step.actor < left c.args.self.now c.in-Step.actor)
    (λ (note : Note). (a : ℕ) → c.args.event ≡ Step a → IsBusy c.args.self.now a → (OnlyWaits c.args.self.now a → ⊥) → left c.step.new.self a < left c.args.self.now a)
    (λ note less a is.
    let same : c.in-Step.actor ≡ a = (let q : Step c.in-Step.actor ≡ Step a = sym c.in-Step.is ∙ is in cc) in
    subst (λ (b : ℕ). IsBusy c.args.self.now b → (OnlyWaits c.args.self.now b → ⊥) → left c.step.new.self b < left c.args.self.now b) same less)
    c.step.ensures.less

pub returns-in-Refuse-clause-happened : goal.returns-in-Refuse-clause-happened
returns-in-Refuse-clause-happened c = subst (λ (e : Event). Happens c.args.self.now c.refuse.new.self e Quiet) (sym c.in-Refuse.is) c.refuse.ensures.happened

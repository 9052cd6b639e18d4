use Rattle.std.proofs.Common.{sym, subst}
use Rattle.clover_run.specs.Kept.{meaning}
use Rattle.clover_run.specs.Machine.{Parts, IsBusy}
use Rattle.clover_run.proofs.CleanedSteps.{cleaned_may, cleaned_behind, cleaned_ok, cleaned_parts, cleaned_same, cleaned_lowers}
use Rattle.clover_run.proofs.machine.Machine.step_recycler.Goals as goal

pub clean-done-requires : goal.clean-done-requires
clean-done-requires c =
    let m : Parts = meaning c.self.inside in
    let busy : IsBusy m 0 = subst (λ (p : Parts). IsBusy p 0) (sym c.self.view_is) c.requires.busy in
    record { may = cleaned_may m busy c.self.invariant }

pub invariant_of-self : goal.invariant_of-self
invariant_of-self c =
    let m : Parts = meaning c.self.inside in
    let busy : IsBusy m 0 = subst (λ (p : Parts). IsBusy p 0) (sym c.self.view_is) c.requires.busy in
    cleaned_behind m busy c.clean-done.new.recycler c.clean-done.new.self c.clean-done.new.pool c.stands-2.ensures.running c.clean-done.result c.clean-done.ensures.cleaned c.clean-done.ensures.same c.self.invariant

pub returns-clause-happened : goal.returns-clause-happened
returns-clause-happened c =
    let m : Parts = meaning c.self.inside in
    let busy : IsBusy m 0 = subst (λ (p : Parts). IsBusy p 0) (sym c.self.view_is) c.requires.busy in
    cleaned_ok m busy c.clean-done.new.recycler c.clean-done.new.self c.clean-done.new.pool c.stands-2.ensures.running c.args.self.now c.clean-done.result c.self.view_is c.clean-done.ensures.cleaned

pub returns-clause-parts : goal.returns-clause-parts
returns-clause-parts c =
    let m : Parts = meaning c.self.inside in
    let busy : IsBusy m 0 = subst (λ (p : Parts). IsBusy p 0) (sym c.self.view_is) c.requires.busy in
    cleaned_parts m busy c.clean-done.new.recycler c.clean-done.new.self c.clean-done.new.pool c.stands-2.ensures.running c.args.self.now c.clean-done.result c.self.view_is c.clean-done.ensures.cleaned c.self.invariant

pub returns-clause-less : goal.returns-clause-less
returns-clause-less c =
    let m : Parts = meaning c.self.inside in
    let busy : IsBusy m 0 = subst (λ (p : Parts). IsBusy p 0) (sym c.self.view_is) c.requires.busy in
    cleaned_lowers m busy c.clean-done.new.recycler c.clean-done.new.self c.clean-done.new.pool c.stands-2.ensures.running c.args.self.now c.clean-done.result c.self.view_is c.clean-done.ensures.cleaned c.self.invariant

pub returns-clause-same : goal.returns-clause-same
returns-clause-same c =
    let m : Parts = meaning c.self.inside in
    let busy : IsBusy m 0 = subst (λ (p : Parts). IsBusy p 0) (sym c.self.view_is) c.requires.busy in
    cleaned_same m busy c.clean-done.new.recycler c.clean-done.new.self c.clean-done.new.pool c.stands-2.ensures.running c.args.self.now c.clean-done.result c.self.view_is c.clean-done.ensures.same

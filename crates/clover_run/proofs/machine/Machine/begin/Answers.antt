use Rattle.std.proofs.Common.{refl, sym, subst}
use Rattle.clover_script.specs.declared.line.Task.{Task}
use Rattle.clover_event.specs.declared.event.Event.TheVariants.{Begin}
use Rattle.clover_run.specs.Kept.{meaning}
use Rattle.clover_run.specs.Machine.{Parts, Happens}
use Rattle.clover_run.specs.declared.recycler.Chore.TheVariants.{OfSlot, OfAll}
use Rattle.clover_run.proofs.BehindRecycler.{with_recycler}
use Rattle.clover_run.proofs.Chores.{chore_comes}
use Rattle.clover_run.proofs.Happening.{behind}
use Rattle.clover_run.proofs.machine.Machine.begin.Goals as goal

pub invariant_of-self : goal.invariant_of-self
invariant_of-self c =
    let m : Parts = meaning c.self.inside in
    behind m (with_recycler m c.begin.new.recycler c.begin.new.self m.pool) (Begin c.args.actor c.args.task) c.begin.result
    (chore_comes m m refl c.args.actor c.args.task (OfSlot c.in-Recycle.slot) c.in-Recycle.is c.requires.may c.begin.new.recycler c.begin.new.self c.begin.result c.begin.ensures) c.self.invariant

pub invariant_of-self-in-Sweep : goal.invariant_of-self-in-Sweep
invariant_of-self-in-Sweep c =
    let m : Parts = meaning c.self-in-Sweep.inside in
    behind m (with_recycler m c.begin-in-Sweep.new.recycler c.begin-in-Sweep.new.self m.pool) (Begin c.args.actor c.args.task) c.begin-in-Sweep.result
    (chore_comes m m refl c.args.actor c.args.task OfAll c.in-Sweep.is c.requires.may c.begin-in-Sweep.new.recycler c.begin-in-Sweep.new.self c.begin-in-Sweep.result c.begin-in-Sweep.ensures) c.self-in-Sweep.invariant

pub returns-in-Client-clause-happened : goal.returns-in-Client-clause-happened
returns-in-Client-clause-happened c = subst (λ (t : Task). Happens c.args.self.now c.begin_call.new.self (Begin c.args.actor t) c.begin_call.result) (sym c.in-Client.is) c.begin_call.ensures.happened

pub returns-in-Recycle-clause-happened : goal.returns-in-Recycle-clause-happened
returns-in-Recycle-clause-happened c =
    chore_comes (meaning c.self.inside) c.args.self.now c.self.view_is c.args.actor c.args.task (OfSlot c.in-Recycle.slot) c.in-Recycle.is c.requires.may c.begin.new.recycler c.begin.new.self c.begin.result c.begin.ensures

pub returns-in-Sweep-clause-happened : goal.returns-in-Sweep-clause-happened
returns-in-Sweep-clause-happened c =
    chore_comes (meaning c.self-in-Sweep.inside) c.args.self.now c.self-in-Sweep.view_is c.args.actor c.args.task OfAll c.in-Sweep.is c.requires.may c.begin-in-Sweep.new.recycler c.begin-in-Sweep.new.self c.begin-in-Sweep.result c.begin-in-Sweep.ensures

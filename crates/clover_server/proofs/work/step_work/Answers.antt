use Rattle.std.proofs.Common.{◌≡◌, ℕ, false, refl, sym, ap, subst}
use Rattle.clover_server.specs.Going.{work_step, work_on, directory_on, outcome_of, OnMade}
use Rattle.clover_server.specs.declared.work.Work.{Work}
use Rattle.clover_server.specs.declared.work.Work.TheVariants.{Binding, Recycling}
use Rattle.clover_server.proofs.Outcomes.{made_so}
use Rattle.clover_server.proofs.work.step_work.Goals as goal

pub returns-in-Binding-clause-made : goal.returns-in-Binding-clause-made
returns-in-Binding-clause-made g c =
    let P : Work → Type 0 = λ k. OnMade c.step_binding.result ((x : ℕ) × g.P.Port.made c.args.port.now (work_step c.args.directory.now k) false x c.step_binding.new.port × (c.step_binding.result ≡ outcome_of k x) × (Binding c.in-Binding.own c.step_binding.new.task ≡ work_on k x) × (c.step_binding.new.directory ≡ directory_on c.args.directory.now k)) in
    subst P (sym c.in-Binding.is) (made_so c.step_binding.result (λ e. (e.0, e.1, e.2, ap (Binding c.in-Binding.own) e.3, e.4)) c.step_binding.ensures.made)

pub returns-in-Recycling-clause-made : goal.returns-in-Recycling-clause-made
returns-in-Recycling-clause-made g c =
    let P : Work → Type 0 = λ k. OnMade c.step_recycling.result ((x : ℕ) × g.P.Port.made c.args.port.now (work_step c.args.directory.now k) false x c.step_recycling.new.port × (c.step_recycling.result ≡ outcome_of k x) × (Recycling c.in-Recycling.slot c.step_recycling.new.task ≡ work_on k x) × (c.args.directory.now ≡ directory_on c.args.directory.now k)) in
    subst P (sym c.in-Recycling.is) (made_so c.step_recycling.result (λ e. (e.0, e.1, e.2, ap (Recycling c.in-Recycling.slot) e.3, refl)) c.step_recycling.ensures.made)

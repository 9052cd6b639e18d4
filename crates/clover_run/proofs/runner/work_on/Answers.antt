use Rattle.std.proofs.Common.{ap, refl, [], arith, inl, inr}
use Rattle.clover_script.specs.declared.line.Line.TheVariants as line
use Rattle.clover_run.specs.Running.{steps_line}
use Rattle.clover_event.specs.declared.event.Event.TheVariants.{Step}
use Rattle.clover_run.proofs.OnlyWaiting.{busy_task}
use Rattle.clover_run.proofs.Waiting.{acts_so, last_follows}
use Rattle.clover_run.proofs.Remainders.{advances_idle, advances_nowhere, advances_on, idle_steps, idle_finish, waiting_steps, waiting_finish, leaves_steps, leaves_finish}
use Rattle.clover_run.proofs.runner.work_on.Goals as goal
use Rattle.clover_run.proofs.runner.work_on.Goals.{then-times-eq0-via-then-times-eq0, then-times-eq0-via-else-times-eq0+then-not-acts}

pub returns-then-times-eq0-clause-came : goal.returns-then-times-eq0-clause-came
returns-then-times-eq0-clause-came c =
    let m = c.args.machine.now in
    let a = c.in-Steps.actor in
    elim c.then-times-eq0.branch [
      | then-times-eq0-via-then-times-eq0 w ↦ advances_nowhere m _ a c.in-Steps.times (ap steps_line c.in-Steps.is) w.if-times-eq0.true
      | then-times-eq0-via-else-times-eq0+then-not-acts w ↦ elim (w.acts.ensures.no w.if-not-acts.true) [
        | inl idle ↦ advances_idle m _ (line.Step a c.in-Steps.times) (ap steps_line c.in-Steps.is) (λ o rs at. idle_steps o m a idle c.in-Steps.times rs at)
        | inr only ↦ advances_idle m _ (line.Step a c.in-Steps.times) (ap steps_line c.in-Steps.is) (λ o rs at. waiting_steps o m a only c.in-Steps.times rs at)
      ]
    ]

pub returns-then-not-acts-2-clause-came : goal.returns-then-not-acts-2-clause-came
returns-then-not-acts-2-clause-came c =
    let m = c.args.machine.now in
    let a = c.in-Finish.actor in
    elim (c.acts-in-Finish.ensures.no c.if-not-acts-2.true) [
      | inl idle ↦ advances_idle m _ (line.Finish a) (ap steps_line c.in-Finish.is) (λ o rs at. idle_finish o m a idle rs at)
      | inr only ↦ advances_idle m _ (line.Finish a) (ap steps_line c.in-Finish.is) (λ o rs at. waiting_finish o m a only rs at)
    ]

pub returns-in_ok-note-in-Steps-clause-came : goal.returns-in_ok-note-in-Steps-clause-came
returns-in_ok-note-in-Steps-clause-came c =
    let a = c.in-Steps.actor in
    advances_on c.args.machine.now c.step.new.self _ (line.Step a c.in-Steps.times) (Step a) c.in_ok-note-in-Steps.note (ap steps_line c.in-Steps.is) c.in_ok-note-in-Steps.ensures.happened c.in_ok-note-in-Steps.ensures.parts _ refl
    (λ o rs r at next is note. leaves_steps a rs r c.in-Steps.times (omega (arith, c.if-times-eq0.false)) is)

pub returns-in_ok-note-in-Finish-clause-came : goal.returns-in_ok-note-in-Finish-clause-came
returns-in_ok-note-in-Finish-clause-came c =
    let m = c.args.machine.now in
    let a = c.in-Finish.actor in
    let acts = c.acts-in-Finish.ensures.yes c.if-not-acts-2.false in
    advances_on m c.step-in-Finish.new.self _ (line.Finish a) (Step a) c.in_ok-note-in-Finish.note (ap steps_line c.in-Finish.is) c.in_ok-note-in-Finish.ensures.happened c.in_ok-note-in-Finish.ensures.parts _ refl
    (λ o rs r at next is note. leaves_finish a rs r is (busy_task o m rs at a acts.0) (acts_so o m rs r a acts.1 at (last_follows o [] rs r next.run) is))

use Rattle.std.proofs.Common.{◌≡◌, ◌∙◌, true, false, refl, subst, sym}
use Rattle.clover_script.specs.declared.line.Line.TheVariants as line
use Rattle.clover_run.specs.Lines.{IsTurnedAway}
use Rattle.clover_event.specs.declared.event.Event.TheVariants.{Begin, Refuse}
use Rattle.clover_run.specs.declared.event.Note.TheVariants.{Quiet}
use Rattle.clover_run.proofs.Remainders.{advances_last, advances_on, leaves_call, turned_away}
use Rattle.clover_run.proofs.runner.begin_line.Goals as goal

pub returns-in-Begin-clause-came : goal.returns-in-Begin-clause-came
returns-in-Begin-clause-came c =
    let m = c.args.machine.now in
    let a = c.in-Begin.actor in
    let t = c.in-Begin.task in
    advances_last m c.begin-note.new.self _ (line.Begin a t) (Begin a t) c.begin-note.result c.in-Begin.is c.begin-note.ensures.happened c.begin-note.ensures.parts c.last_of.result a c.last_of.ensures.note c.last_of.ensures.left
    (λ rs r is note. (r, refl, is))

pub returns-then-is_turned_away-clause-came : goal.returns-then-is_turned_away-clause-came
returns-then-is_turned_away-clause-came c =
    let m = c.args.machine.now in
    let a = c.in-Call.actor in
    let t = c.in-Call.task in
    let away : IsTurnedAway c.begin-note-in-Call.result = c.is_turned_away.ensures.0 c.if-is_turned_away.true in
    let last = c.last_of-then-is_turned_away in
    advances_last m c.begin-note-in-Call.new.self _ (line.Call a t) (Begin a t) c.begin-note-in-Call.result c.in-Call.is c.begin-note-in-Call.ensures.happened c.begin-note-in-Call.ensures.parts last.result a last.ensures.note last.ensures.left
    (λ rs r is note. turned_away a rs r t is (subst IsTurnedAway (sym note) away))

pub returns-else-is_turned_away-clause-came : goal.returns-else-is_turned_away-clause-came
returns-else-is_turned_away-clause-came c =
    let m = c.args.machine.now in
    let a = c.in-Call.actor in
    let t = c.in-Call.task in
    let kept : IsTurnedAway c.begin-note-in-Call.result → ⊥ = λ away. let no : true ≡ false = sym (c.is_turned_away.ensures.1 away) ∙ c.if-is_turned_away.false in cc in
    advances_on m c.begin-note-in-Call.new.self _ (line.Call a t) (Begin a t) c.begin-note-in-Call.result c.in-Call.is c.begin-note-in-Call.ensures.happened c.begin-note-in-Call.ensures.parts _ refl
    (λ o rs r at next is note. leaves_call a rs r t is (λ away. kept (subst IsTurnedAway note away)))

pub returns-in-Refuse-clause-came : goal.returns-in-Refuse-clause-came
returns-in-Refuse-clause-came c =
    let m = c.args.machine.now in
    let a = c.in-Refuse.actor in
    advances_last m c.refuse.new.self _ (line.Refuse a) (Refuse a) Quiet c.in-Refuse.is c.refuse.ensures.happened c.refuse.ensures.parts c.last_of-in-Refuse.result a c.last_of-in-Refuse.ensures.note c.last_of-in-Refuse.ensures.left
    (λ rs r is note. (r, refl, is))

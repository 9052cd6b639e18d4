use Rattle.std.proofs.Common.{◌≡◌, ◌<◌, ◌∙◌, ℕ, Option, Err, ap, subst, sym}
use Rattle.std.proofs.lemmas.Result.{err_from_is_err_and}
use Rattle.clover_run.specs.Running.{IsLeft}
use Rattle.clover_run.specs.declared.runner.Work.{Work}
use Rattle.clover_main.specs.Causes.{HasStopCause}
use Rattle.clover_main.specs.declared.output.Stop.TheVariants.{Write}
use Rattle.clover_main.specs.Running.{Runs, most_steps}
use Rattle.clover_main.proofs.Loops.{left_next, left_stop}
use Rattle.clover_main.proofs.running.run_line.Goals as goal

pub loop-left-init : goal.loop-left-init
loop-left-init g c = record { runs = c.in_ok-left.ensures.ok; quiet = c.in_ok-left.ensures.cause.kept }

pub returns-in_err-left-2-clause-err : goal.returns-in_err-left-2-clause-err
returns-in_err-left-2-clause-err g c =
    let l = c.loop-left in
    let P : Option Work → Type 0 = λ x. Runs c.args.machine.now l.machine (g.K.Sink.taken c.args.sink.now) (g.K.Sink.taken l.sink) c.args.out.now.waiting.items l.out.waiting.items (IsLeft c.args.line x) in
    let p = err_from_is_err_and c.from_residual-in_err-left-2.result c.from_residual-in_err-left-2.ensures.1 in
    rw (p.1, p.2) (left_stop _ c.args.machine.now l.machine _ _ _ _ _ c.args.line c.in-Some.work (subst P c.in-Some.is l.invariant.runs) c.in_err-left-2.ensures.err)

pub returns-in_err-left-2-clause-cause : goal.returns-in_err-left-2-clause-cause
returns-in_err-left-2-clause-cause g c =
    let p = err_from_is_err_and c.from_residual-in_err-left-2.result c.from_residual-in_err-left-2.ensures.1 in
    let why = c.in_err-left-2.ensures.cause in
    subst (λ (n : ℕ). HasStopCause n (g.K.Sink.faults c.go_on.new.sink) c.from_residual-in_err-left-2.result) c.loop-left.invariant.quiet (rw (p.1, p.2) record {
      later = why.later;
      failed = λ e. let same : c.in_err-left-2.field-0.0 ≡ Write = cc in why.failed (ap Err same);
      kept = tt;
    })

pub loop-left-smaller : goal.loop-left-smaller
loop-left-smaller g c = subst (λ (x : Option Work). most_steps c.go_on.new.machine c.in_ok-left-2.left < most_steps c.loop-left.machine x) (sym c.in-Some.is) c.in_ok-left-2.ensures.less

pub loop-left-preserved : goal.loop-left-preserved
loop-left-preserved g c =
    let l = c.loop-left in
    let P : Option Work → Type 0 = λ x. Runs c.args.machine.now l.machine (g.K.Sink.taken c.args.sink.now) (g.K.Sink.taken l.sink) c.args.out.now.waiting.items l.out.waiting.items (IsLeft c.args.line x) in
    record {
      runs = left_next c.args.machine.now l.machine c.go_on.new.machine _ _ _ _ _ _ c.args.line c.in-Some.work c.in_ok-left-2.left (subst P c.in-Some.is l.invariant.runs) c.in_ok-left-2.ensures.ok;
      quiet = c.in_ok-left-2.ensures.cause.kept ∙ l.invariant.quiet;
    }

pub returns-clause-ok : goal.returns-clause-ok
returns-clause-ok g c =
    let l = c.loop-left in
    let P : Option Work → Type 0 = λ x. Runs c.args.machine.now l.machine (g.K.Sink.taken c.args.sink.now) (g.K.Sink.taken l.sink) c.args.out.now.waiting.items l.out.waiting.items (IsLeft c.args.line x) in
    subst P c.in_default.is l.invariant.runs

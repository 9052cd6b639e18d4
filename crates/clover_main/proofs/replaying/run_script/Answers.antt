use Rattle.std.proofs.Common.{◌≡◌, ℕ, Bool, List, [], Err, ap, map, subst}
use Rattle.std.proofs.lemmas.Result.{err_from_is_err_and, IfErr-weaker, on_ok_weaker}
use Rattle.clover_script.specs.Line.{kept_line}
use Rattle.clover_script.specs.declared.line.Line.{Line}
use Rattle.clover_run.specs.Lines.{Covers}
use Rattle.clover_run.specs.Machine.{first_opening}
use Rattle.clover_main.specs.Beginnings.{CoversFront}
use Rattle.clover_main.specs.Running.{Ran, Fails}
use Rattle.clover_main.specs.declared.output.Stop.TheVariants.{Write}
use Rattle.clover_main.proofs.Endings.{script_begins, performs, stops_closing, stops_running}
use Rattle.clover_main.proofs.Listening.{lines_heard}
use Rattle.clover_main.proofs.replaying.run_script.Goals as goal

pub returns-in_err-run_lines-clause-cause : goal.returns-in_err-run_lines-clause-cause
returns-in_err-run_lines-clause-cause g c =
    let p = err_from_is_err_and c.from_residual-in_err-run_lines.result c.from_residual-in_err-run_lines.ensures.1 in
    let why = c.in_err-run_lines.ensures.cause in
    rw (p.1, p.2) record {
      later = why.later;
      failed = λ e. let same : c.in_err-run_lines.field-0.0 ≡ Write = cc in why.failed (ap Err same);
      kept = tt;
    }

pub returns-in_err-run_lines-clause-err : goal.returns-in_err-run_lines-clause-err
returns-in_err-run_lines-clause-err g c =
    let said = c.requires.0 in
    let lines : List Line = map kept_line said in
    let from = first_opening c.args.setup in
    let P : Bool → List ℕ → Type 0 = λ t w. Fails from t [] c.in_err-run_lines.field-0.0 (g.K.Sink.taken c.args.sink.now) (g.K.Sink.taken c.run_lines.new.sink) w (CoversFront lines) in
    let p = err_from_is_err_and c.from_residual-in_err-run_lines.result c.from_residual-in_err-run_lines.ensures.1 in
    rw (p.1, p.2) (stops_running c.args.text.now from lines c.args.trace (script_begins c.args.text.now c.args.setup said c.requires.1 c.requires.2) c.in_err-run_lines.field-0.0 _ _
    (subst (λ t. P t []) c.in_ok-machine.ensures.parts.1 (subst (P c.in_ok-machine.machine.pool.traced) c.new-out.ensures (c.in_err-run_lines.ensures.err from lines c.in_ok-machine.ensures.at (lines_heard c.args.text.now c.args.setup said c.requires.1)))))

pub returns-clause-ok : goal.returns-clause-ok
returns-clause-ok g c =
    let said = c.requires.0 in
    let lines : List Line = map kept_line said in
    let from = first_opening c.args.setup in
    let P : Bool → List ℕ → Type 0 = λ t w. Ran from t [] c.run_lines.new.machine (g.K.Sink.taken c.args.sink.now) (g.K.Sink.taken c.run_lines.new.sink) w c.run_lines.new.out.waiting.items (Covers lines []) in
    on_ok_weaker c.close.result (λ closed. performs c.args.text.now from lines c.args.trace (script_begins c.args.text.now c.args.setup said c.requires.1 c.requires.2) c.run_lines.new.machine _ _ _ _
    (subst (λ t. P t []) c.in_ok-machine.ensures.parts.1 (subst (P c.in_ok-machine.machine.pool.traced) c.new-out.ensures (c.in_ok-run_lines.ensures.ok from lines c.in_ok-machine.ensures.at (lines_heard c.args.text.now c.args.setup said c.requires.1)))) closed) c.close.ensures.ok

pub returns-clause-err : goal.returns-clause-err
returns-clause-err g c =
    let said = c.requires.0 in
    let lines : List Line = map kept_line said in
    let from = first_opening c.args.setup in
    let P : Bool → List ℕ → Type 0 = λ t w. Ran from t [] c.run_lines.new.machine (g.K.Sink.taken c.args.sink.now) (g.K.Sink.taken c.run_lines.new.sink) w c.run_lines.new.out.waiting.items (Covers lines []) in
    IfErr-weaker c.close.result _ _ (λ stop closed. stops_closing c.args.text.now from lines c.args.trace (script_begins c.args.text.now c.args.setup said c.requires.1 c.requires.2) stop c.run_lines.new.machine _ _ _ _
    (subst (λ t. P t []) c.in_ok-machine.ensures.parts.1 (subst (P c.in_ok-machine.machine.pool.traced) c.new-out.ensures (c.in_ok-run_lines.ensures.ok from lines c.in_ok-machine.ensures.at (lines_heard c.args.text.now c.args.setup said c.requires.1)))) closed) c.close.ensures.err

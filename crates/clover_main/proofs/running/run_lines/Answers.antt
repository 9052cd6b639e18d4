use Rattle.std.proofs.Common.{ℕ, List, ◌∙◌, refl, subst, sym}
use Rattle.std.proofs.lemmas.Result.{err_from_is_err_and}
use Rattle.std.proofs.lemmas.List.Elements.{All-head, All-tail}
use Rattle.std.specs.Prelude.{All}
use Rattle.clover_main.specs.Cuts.{IsUncut}
use Rattle.clover_main.specs.Running.{Reaches}
use Rattle.clover_main.proofs.Loops.{lines_first, lines_next, lines_stop, lines_last, lines_none, continues_then}
use Rattle.clover_main.proofs.running.run_lines.Goals as goal

pub loop-rest-init : goal.loop-rest-init
loop-rest-init g c = record { ran = λ o lines at heard. lines_first o c.args.machine.now.pool.traced lines _ c.args.machine.now _ _ at heard; uncut = c.requires.uncut; goes_on = record { setup = refl; traced = refl }; quiet = refl }

pub returns-in_err-run_text-clause-err : goal.returns-in_err-run_text-clause-err
returns-in_err-run_text-clause-err g c =
    let p = err_from_is_err_and c.from_residual.result c.from_residual.ensures.1 in
    rw (p.1, p.2) (λ o lines at heard.
    let l = c.loop-rest in
    let P : List (List ℕ) → Type 0 = λ texts. Reaches o c.args.machine.now.pool.traced lines texts l.machine (g.K.Sink.taken c.args.sink.now) (g.K.Sink.taken l.sink) c.args.out.now.waiting.items l.out.waiting.items in
    let x = subst P c.first_line.ensures.lines (l.invariant.ran o lines at heard) in
    lines_stop o c.args.machine.now.pool.traced lines c.first_line.result.0.now _ l.machine _ _ _ _ _ x l.invariant.goes_on.traced _ (c.in_err-run_text.ensures.err o x.ran.more x.ran.at))

pub run_text-requires : goal.run_text-requires
run_text-requires g c = record { uncut = All-head IsUncut _ _ (subst (All IsUncut) c.first_line.ensures.lines c.loop-rest.invariant.uncut) }

pub loop-rest-preserved : goal.loop-rest-preserved
loop-rest-preserved g c =
    let l = c.loop-rest in
    record {
      ran = λ o lines at heard.
          let P : List (List ℕ) → Type 0 = λ texts. Reaches o c.args.machine.now.pool.traced lines texts l.machine (g.K.Sink.taken c.args.sink.now) (g.K.Sink.taken l.sink) c.args.out.now.waiting.items l.out.waiting.items in
          let x = subst P c.first_line.ensures.lines (l.invariant.ran o lines at heard) in
          lines_next o c.args.machine.now.pool.traced lines c.first_line.result.0.now _ l.machine _ _ _ _ _ x l.invariant.goes_on.traced c.run_text.new.machine _ (c.in_ok-run_text.ensures.ok.ran o x.ran.more x.ran.at);
      uncut = All-tail IsUncut _ _ (subst (All IsUncut) c.first_line.ensures.lines l.invariant.uncut);
      goes_on = continues_then _ _ _ l.invariant.goes_on c.in_ok-run_text.ensures.ok.goes_on;
      quiet = c.in_ok-run_text.ensures.cause.kept ∙ l.invariant.quiet;
    }

pub returns-clause-ok : goal.returns-clause-ok
returns-clause-ok g c o lines at heard =
    let l = c.loop-rest in
    let P : List (List ℕ) → Type 0 = λ texts. Reaches o c.args.machine.now.pool.traced lines texts l.machine (g.K.Sink.taken c.args.sink.now) (g.K.Sink.taken l.sink) c.args.out.now.waiting.items l.out.waiting.items in
    lines_last o c.args.machine.now.pool.traced lines l.machine _ _ _ _ (subst P (lines_none l.rest.now (sym c.is_empty.ensures ∙ c.loop-rest-test.false)) (l.invariant.ran o lines at heard))

use Rattle.std.proofs.Common.{Option, inl, refl, subst}
use Rattle.std.proofs.lemmas.Result.{on_ok_weaker, IfErr-weaker}
use Rattle.std.specs.Prelude.{IfNone, IfSome}
use Rattle.clover_script.specs.Line.{IsLineOf, IsNoLine}
use Rattle.clover_script.specs.declared.line.Line.{Line}
use Rattle.clover_main.specs.Running.{IsSaidBy, IsPartOfSaid}
use Rattle.clover_run.proofs.Following.{lawful_at}
use Rattle.clover_main.proofs.Listening.{line_may, over_none}
use Rattle.clover_main.proofs.Loops.{said_runs, said_stops}
use Rattle.clover_main.proofs.Pieces.{ran_nothing, fails_none}
use Rattle.clover_main.proofs.running.run_text.Goals as goal

pub returns-then-is_ignored-clause-ok : goal.returns-then-is_ignored-clause-ok
returns-then-is_ignored-clause-ok g c =
    let none : IsNoLine c.args.text.now = over_none c.args.text.now (c.is_ignored.ensures.0 c.if-is_ignored.true) in
    record { goes_on = record { setup = refl; traced = refl }; ran = λ o rs at. ran_nothing o c.args.machine.now.pool.traced rs c.args.machine.now _ _ (IsSaidBy c.args.text.now rs) at (inl (none, refl)) }

pub run_line-requires : goal.run_line-requires
run_line-requires g c = record { may = line_may c.args.text.now c.in-Ok-Some.line c.requires.uncut (subst (λ (l : Option Line). IfSome l (IsLineOf c.args.text.now)) c.in-Ok-Some.field-0-is c.in-Ok-Some.ensures.found) }

pub returns-in-Ok-Some-clause-ok : goal.returns-in-Ok-Some-clause-ok
returns-in-Ok-Some-clause-ok g c = on_ok_weaker c.run_line.result (said_runs _ _ _ _ _ _ c.args.text.now c.in-Ok-Some.line (subst (λ (l : Option Line). IfSome l (IsLineOf c.args.text.now)) c.in-Ok-Some.field-0-is c.in-Ok-Some.ensures.found)) c.run_line.ensures.ok

pub returns-in-Ok-Some-clause-err : goal.returns-in-Ok-Some-clause-err
returns-in-Ok-Some-clause-err g c =
    let is = subst (λ (l : Option Line). IfSome l (IsLineOf c.args.text.now)) c.in-Ok-Some.field-0-is c.in-Ok-Some.ensures.found in
    IfErr-weaker c.run_line.result _ _ (λ stop stops. said_stops stop c.args.machine.now _ _ c.args.out.now.waiting.items c.args.text.now c.in-Ok-Some.line is stops) c.run_line.ensures.err

pub returns-in-Ok-None-clause-ok : goal.returns-in-Ok-None-clause-ok
returns-in-Ok-None-clause-ok g c =
    let none : IsNoLine c.args.text.now = subst (λ (l : Option Line). IfNone l (IsNoLine c.args.text.now)) c.in-Ok-None.field-0-is c.in-Ok-None.ensures.none in
    record { goes_on = record { setup = refl; traced = refl }; ran = λ o rs at. ran_nothing o c.args.machine.now.pool.traced rs c.args.machine.now _ _ (IsSaidBy c.args.text.now rs) at (inl (none, refl)) }

pub returns-in-Err-clause-err : goal.returns-in-Err-clause-err
returns-in-Err-clause-err g c o rs at = fails_none o c.args.machine.now.pool.traced rs c.give_up.result _ _ _ (IsPartOfSaid c.args.text.now rs) (lawful_at o c.args.machine.now rs at) (inl refl) c.give_up.ensures.puts

use Rattle.std.proofs.Common.{◌≡◌, ◌++◌, ◌∷◌, [], ℕ, List, Option, Some, None, inl, subst}
use Rattle.std.proofs.lemmas.Result.{err_from_is_err_and}
use Rattle.clover_run.specs.Machine.{IsAt}
use Rattle.clover_run.specs.Record.{Record}
use Rattle.clover_run.specs.Running.{Comes, IsLeft, IsPartOrAll}
use Rattle.clover_run.specs.declared.runner.Advance.{Advance}
use Rattle.clover_run.proofs.Remainders.{part_none, part_here}
use Rattle.clover_main.specs.Running.{Puts}
use Rattle.clover_main.proofs.Pieces.{fails_none, fails_event, ran_silent}
use Rattle.clover_main.proofs.running.tell.Goals as goal

pub returns-in_default-clause-ok : goal.returns-in_default-clause-ok
returns-in_default-clause-ok g c o rs more line at came here =
    let comes : Comes line None rs more = subst (λ (x : Option Advance). Comes line x rs more) c.in_default.is came in
    ran_silent o c.args.machine.now.pool.traced rs c.args.machine.now _ _ (IsLeft line None rs) more comes.0 at comes.1

pub returns-in-Err-clause-err : goal.returns-in-Err-clause-err
returns-in-Err-clause-err g c o rs more line lawful at came here =
    fails_none o c.args.machine.now.pool.traced rs c.give_up.result _ _ _ (IsPartOrAll line rs) lawful (inl (part_none line rs))
    (subst (λ (w : List ℕ). Puts c.give_up.result (g.K.Sink.taken c.args.sink.now) (g.K.Sink.taken c.give_up.new.sink) w) c.in-Err.ensures.err c.give_up.ensures.puts)

pub returns-in_err-put_much-clause-err : goal.returns-in_err-put_much-clause-err
returns-in_err-put_much-clause-err g c =
    let p = err_from_is_err_and c.from_residual.result c.from_residual.ensures.1 in
    rw (p.1, p.2) (λ o rs more line lawful at came here.
    let x : Advance = c.in-Some.field-0 in
    let comes : Comes line (Some x) rs more = subst (λ (y : Option Advance). Comes line y rs more) c.in-Some.is came in
    let one : more ≡ comes.0 ∷ [] = comes.1 in
    fails_event o c.args.machine.now.pool.traced rs _ c.args.machine.now _ _ _ _ (IsPartOrAll line rs) more comes.0 c.in_err-put_much.ensures.why one (part_here line x.left rs more comes.3) at
    (c.in-Ok.ensures.ok o rs comes.0 (subst (λ (qs : List Record). IsAt o c.args.machine.now (rs ++ qs)) one at) comes.2 here) c.in_err-put_much.ensures.err)

use Rattle.std.proofs.Common.{List, ℕ, ◌++◌, codes, refl}
use Rattle.std.proofs.lemmas.Result.{err_from_is_err_and}
use Rattle.clover_event.specs.Text.{act_text, came_text}
use Rattle.clover_main.proofs.Printing.{first_fails, then_said, then_fails}
use Rattle.clover_main.proofs.access_text.put_done.Goals as goal

pub returns-in_err-put_act-clause-err : goal.returns-in_err-put_act-clause-err
returns-in_err-put_act-clause-err g c =
    let x : List ℕ = act_text c.args.act.now in
    let y : List ℕ = came_text c.args.refused c.args.act.now ++ codes "\n" in
    let p = err_from_is_err_and c.from_residual.result c.from_residual.ensures.1 in
    rw p.1 (first_fails _ _ _ x y _ (refl) c.in_err-put_act.ensures.err)

pub returns-clause-ok : goal.returns-clause-ok
returns-clause-ok g c =
    let x : List ℕ = act_text c.args.act.now in
    let y : List ℕ = came_text c.args.refused c.args.act.now ++ codes "\n" in
    then_said c.put_came.result _ _ _ _ _ _ x y _ (refl) c.in_ok-put_act.ensures.ok c.put_came.ensures.ok

pub returns-clause-err : goal.returns-clause-err
returns-clause-err g c =
    let x : List ℕ = act_text c.args.act.now in
    let y : List ℕ = came_text c.args.refused c.args.act.now ++ codes "\n" in
    then_fails c.put_came.result _ _ _ _ _ x y _ (refl) c.in_ok-put_act.ensures.ok c.put_came.ensures.err

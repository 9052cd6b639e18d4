use Rattle.std.proofs.lemmas.Result.{on_err_weaker, err_from_is_err_and}
use Rattle.clover_main.proofs.Puts.{front_of_first, front_of_second}
use Rattle.clover_main.proofs.io.put_both.Goals as goal

pub returns-clause-err : goal.returns-clause-err
returns-clause-err g c =
    on_err_weaker c.put-2.result
    (front_of_second _ _ _ c.args.first.now c.args.second.now c.in_ok-put.ensures.ok)
    c.put-2.ensures.err

pub returns-in_err-put-clause-err : goal.returns-in_err-put-clause-err
returns-in_err-put-clause-err g c =
    let p = err_from_is_err_and c.from_residual.result c.from_residual.ensures.1 in
    rw p.1 (front_of_first _ _ c.args.first.now c.args.second.now c.in_err-put.ensures.err)

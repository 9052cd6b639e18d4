-- A step that waits has changed nothing; room that was made before the server's access changes nothing of what is said.
use Rattle.clover_run.proofs.RecyclerKept.{clean_kept, was_kept}
use Rattle.clover_run.proofs.RecyclerSteps.{clean_waits}
use Rattle.clover_run.proofs.served.Served.clean.Goals as goal

pub returns-then-is_elsewhere-clause-cleaned : goal.returns-then-is_elsewhere-clause-cleaned
returns-then-is_elsewhere-clause-cleaned c = λ o may.
    clean_waits o c.args.recycler.now c.args.self.now c.args.pool.now may (c.is_elsewhere.ensures.0 c.if-is_elsewhere.true)

pub recycle-requires-clause-may : goal.recycle-requires-clause-may
recycle-requires-clause-may c =
    let (o, may) = c.requires.may in
    (o, clean_kept c.args.pool.now c.reserve.new.self c.reserve.ensures.same o c.args.recycler.now c.args.self.now may)

pub returns-clause-cleaned : goal.returns-clause-cleaned
returns-clause-cleaned c = λ o may.
    let may1 = clean_kept c.args.pool.now c.reserve.new.self c.reserve.ensures.same o c.args.recycler.now c.args.self.now may in
    was_kept c.args.pool.now c.reserve.new.self c.reserve.ensures.same c.recycle.new.pool o c.args.recycler.now c.recycle.new.recycler c.args.self.now c.recycle.new.self c.recycle.result (c.recycle.ensures o may1)

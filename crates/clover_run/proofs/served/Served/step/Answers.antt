-- A step that waits has changed nothing; room that was made before the server's step changes nothing of what is said.
use Rattle.std.proofs.Common.{ap, ◌∙◌}
use Rattle.clover_run.specs.Served.{is_elsewhere}
use Rattle.clover_run.proofs.ServedKept.{may_kept, served_kept}
use Rattle.clover_run.proofs.ServedSteps.{was_waiting}
use Rattle.clover_run.proofs.served.Served.step.Goals as goal

pub returns-then-is_elsewhere-clause-served : goal.returns-then-is_elsewhere-clause-served
returns-then-is_elsewhere-clause-served c = λ o i e may.
    let (call, is) = may.stands.phase.2 in
    was_waiting o i c.args.client.now c.args.self.now c.args.pool.now may call is (ap (is_elsewhere c.args.self.now.holder) e ∙ c.is_elsewhere.ensures.0 c.if-is_elsewhere.true)

pub serve-requires-clause-may : goal.serve-requires-clause-may
serve-requires-clause-may c =
    let (o, i, e, may) = c.requires.may in
    (o, i, e, may_kept c.args.pool.now c.reserve.new.self c.reserve.ensures.same o i c.args.client.now c.args.self.now may)

pub returns-clause-served : goal.returns-clause-served
returns-clause-served c = λ o i e may.
    let may1 = may_kept c.args.pool.now c.reserve.new.self c.reserve.ensures.same o i c.args.client.now c.args.self.now may in
    served_kept c.args.pool.now c.reserve.new.self c.reserve.ensures.same c.serve.new.pool o i c.args.client.now c.serve.new.client c.args.self.now c.serve.new.self c.serve.result (c.serve.ensures o i e may1)

use Rattle.clover_node.specs.declared.answer.NodeTurn.{NodeTurn}
use Rattle.clover_pools.specs.Calls.{Acted}
use Rattle.clover_pools.proofs.Serving.{by_stored, put_over}
use Rattle.clover_pools.proofs.calls.finish.Goals as goal

pub call_on-requires : goal.call_on-requires
call_on-requires g c = c.requires.serves

pub returns : goal.returns
returns g c =
    let e = c.in_ok-outcome.ensures in let n = c.args.node.now in let m = c.call_on.new.node in let p = c.args.pool.now in let q = c.call_on.new.pool in let room = c.call_on.new.room in
    let h = by_stored (λ (t : NodeTurn). Acted t g.call n m p q room) e.0 e.2 c.in_ok-outcome.outcome e.1 c.in-Stored.tag c.in-Stored.is in
    put_over g.call n m p q c.args.room.now room h.0 c.requires h.2

use Rattle.std.proofs.Common.{subst}
use Rattle.clover_node.proofs.Counted.{made_so}
use Rattle.clover_node.specs.Turning.{OnMade}
use Rattle.clover_node.specs.declared.answer.NodeRefusal.TheVariants.{Unreached}
use Rattle.clover_node.specs.declared.answer.NodeTurn.{NodeTurn}
use Rattle.clover_node.specs.declared.answer.NodeTurn.TheVariants.{Refused}
use Rattle.clover_pools.specs.Calls.{Acted}
use Rattle.clover_pools.specs.Turns.{IsOutcome}
use Rattle.clover_pools.specs.declared.turns.Outcome.{Outcome}
use Rattle.clover_pools.specs.declared.turns.Outcome.TheVariants.{More}
use Rattle.clover_pools.proofs.Calling.{acted_since, goes_on, since_none}
use Rattle.clover_pools.proofs.calls.call_on.Goals as goal

pub loop-init : goal.loop-init
loop-init g c = (c.requires, since_none c.args.node.now c.args.pool.now)

pub loop-preserved : goal.loop-preserved
loop-preserved g c =
    let e = c.in_ok-outcome.ensures in
    let more : IsOutcome e.0 More = subst (λ (z : Outcome). IsOutcome e.0 z) c.in-More.is e.1 in
    goes_on c.args.node.now c.loop.node c.call_next.new.node c.args.pool.now c.loop.pool c.call_next.new.pool g.call c.loop.room c.call_next.new.room c.loop.invariant.0 c.loop.invariant.1
    (subst (λ (t : NodeTurn). OnMade t (Acted t g.call c.loop.node c.call_next.new.node c.loop.pool c.call_next.new.pool c.call_next.new.room)) more e.2)

pub returns : goal.returns
returns g c = (Refused Unreached, tt, tt)

pub returns-in_default : goal.returns-in_default
returns-in_default g c =
    let e = c.in_ok-outcome.ensures in
    (e.0, e.1, made_so e.0 (acted_since c.args.node.now c.loop.node c.call_next.new.node c.args.pool.now c.loop.pool c.call_next.new.pool g.call c.call_next.new.room c.loop.invariant.1 e.0) e.2)

use Rattle.clover_node.specs.declared.answer.NodeTurn.{NodeTurn}
use Rattle.clover_pools.specs.Calls.{Came}
use Rattle.clover_pools.proofs.Serving.{by_names, names_kept, names_same, names_stand}
use Rattle.clover_pools.proofs.calls.needs_names.Goals as goal

pub returns-in-NeedsNames-clause-stands : goal.returns-in-NeedsNames-clause-stands
returns-in-NeedsNames-clause-stands c =
    let e = c.in_ok-known.ensures in let n = c.args.node.now in let m = c.begin.new.node in let p = c.args.pool.now in let q = c.begin.new.pool in let room = c.begin.new.room in let k = c.in-NeedsNames in
    names_stand c.args.call.now n m p q room c.requires.stands k.known k.bound (by_names (λ (t : NodeTurn). Came t c.args.call.now n m p q room) e.0 e.2 c.in_ok-known.field-0 e.1 k.known k.bound k.is)

pub returns-in-NeedsNames-clause-same : goal.returns-in-NeedsNames-clause-same
returns-in-NeedsNames-clause-same c =
    let e = c.in_ok-known.ensures in let n = c.args.node.now in let m = c.begin.new.node in let p = c.args.pool.now in let q = c.begin.new.pool in let room = c.begin.new.room in let k = c.in-NeedsNames in
    names_same c.args.call.now n m p q room c.requires.stands k.known k.bound (by_names (λ (t : NodeTurn). Came t c.args.call.now n m p q room) e.0 e.2 c.in_ok-known.field-0 e.1 k.known k.bound k.is)

pub returns-in-NeedsNames-clause-kept : goal.returns-in-NeedsNames-clause-kept
returns-in-NeedsNames-clause-kept c =
    let e = c.in_ok-known.ensures in let n = c.args.node.now in let m = c.begin.new.node in let p = c.args.pool.now in let q = c.begin.new.pool in let room = c.begin.new.room in let k = c.in-NeedsNames in
    names_kept c.args.call.now n m p q room c.requires.stands k.known k.bound (by_names (λ (t : NodeTurn). Came t c.args.call.now n m p q room) e.0 e.2 c.in_ok-known.field-0 e.1 k.known k.bound k.is)

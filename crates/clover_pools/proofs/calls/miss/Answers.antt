use Rattle.clover_node.specs.declared.answer.NodeTurn.{NodeTurn}
use Rattle.clover_pools.specs.Calls.{Came}
use Rattle.clover_pools.proofs.Serving.{by_absent, miss_due, miss_stands}
use Rattle.clover_pools.proofs.calls.miss.Goals as goal

pub enter-requires-clause-opened : goal.enter-requires-clause-opened
enter-requires-clause-opened c =
    let e = c.in_ok-outcome.ensures in
    (by_absent (λ (t : NodeTurn). Came t c.args.call c.args.node.now c.begin.new.node c.args.pool.now c.begin.new.pool c.begin.new.room) e.0 e.2 c.in_ok-outcome.outcome e.1 c.in-Absent.is).acted.opened

pub enter-requires-clause-room : goal.enter-requires-clause-room
enter-requires-clause-room c =
    let e = c.in_ok-outcome.ensures in
    (by_absent (λ (t : NodeTurn). Came t c.args.call c.args.node.now c.begin.new.node c.args.pool.now c.begin.new.pool c.begin.new.room) e.0 e.2 c.in_ok-outcome.outcome e.1 c.in-Absent.is).acted.free

pub enter-requires-clause-due : goal.enter-requires-clause-due
enter-requires-clause-due c =
    let e = c.in_ok-outcome.ensures in let n = c.args.node.now in let m = c.begin.new.node in let p = c.args.pool.now in let q = c.begin.new.pool in let room = c.begin.new.room in
    let h = by_absent (λ (t : NodeTurn). Came t c.args.call n m p q room) e.0 e.2 c.in_ok-outcome.outcome e.1 c.in-Absent.is in
    miss_due c.args.call n m p q room c.requires.stands h

pub returns : goal.returns
returns c = λ yes.
    let e = c.in_ok-outcome.ensures in let n = c.args.node.now in let m = c.begin.new.node in let p = c.args.pool.now in let q = c.begin.new.pool in let room = c.begin.new.room in
    let h = by_absent (λ (t : NodeTurn). Came t c.args.call n m p q room) e.0 e.2 c.in_ok-outcome.outcome e.1 c.in-Absent.is in
    miss_stands c.args.call n m p q room c.requires.stands h c.enter.new.pool c.enter.ensures.same c.enter.ensures.entered

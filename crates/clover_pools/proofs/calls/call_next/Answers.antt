use Rattle.std.proofs.Common.{◌≡◌, arith, rules}
use Rattle.clover_node.proofs.Counted.{made_so}
use Rattle.clover_pools.proofs.Calling.{acted_so}
use Rattle.clover_pools.proofs.calls.call_next.Goals as goal

pub returns : goal.returns
returns g c =
    let e = c.step.ensures in
    let s = c.port-port.result.seat in
    let seat : s ≡ 0 = (let z = c.port-port.ensures.seat.2 in omega arith) in (
      c.step.result,
      c.outcome_of.ensures,
      made_so c.step.result (λ m.
          acted_so c.args.node.now c.step.new.self g.call c.args.room.now c.step.new.into c.step.result c.port-port.result.list m.0 c.args.pool.now c.reserve.new.self c.port-port.result.pool.now c.step.new.port.pool.now _ s c.step.new.port.seat
          c.requires c.in_ok-reserve.ensures.same c.in_ok-reserve.ensures.room c.port-port.ensures.pool.0 seat m.1.2 (search rules)
          (record { stepped = m.1.0; made = m.1.1; went = e.went; holds = e.holds })) e.made,
    )

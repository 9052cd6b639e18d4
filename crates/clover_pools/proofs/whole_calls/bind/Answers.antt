use Rattle.std.proofs.Common.{rules}
use Rattle.clover_plain.specs.contracts.port.PlainPortPort.TheImpl.{ghosts}
use Rattle.clover_pools.specs.Server.{IsPortLeft}
use Rattle.clover_pools.proofs.ServerSteps.{named_keeps, port_made, port_failed, port_first, served_so}
use Rattle.clover_pools.proofs.whole_calls.bind.Goals as goal

pub returns : goal.returns
returns c =
    let p0 = c.args.pool.now in let port = c.port-port.result in let new = c.bind.new.port in
    let start = c.requires in
    let first = port_first p0 c.reserve.new.self port.pool.now port.seat start.ready start.small c.in_ok-reserve.ensures.same c.port-port.ensures.seat c.port-port.ensures.pool.0 in
    let k = named_keeps c.args.key.now (λ p a b x q. ghosts.made p a b x q) (λ p q. ghosts.failed p q) c.bind.ensures.came (λ p. IsPortLeft p0 p.pool.now p.seat) (port_made p0) (port_failed p0) first in
    served_so c.bind.new.self p0 new.pool.now _ new.seat start.small k c.bind.ensures.agrees (search rules)

use Rattle.std.proofs.Common.{◌≡◌, rules, ap, sym, subst}
use Rattle.clover_plain.specs.contracts.port.PlainPortPort.TheImpl.{ghosts}
use Rattle.clover_server.specs.Whole.{moment}
use Rattle.clover_server.proofs.Repeating.{named_leaves}
use Rattle.clover_pools.specs.Server.{IsPortLeft}
use Rattle.clover_pools.proofs.ServerSteps.{port_made, port_failed, port_first, served_so}
use Rattle.clover_pools.proofs.whole_calls.bind_next.Goals as goal

pub returns : goal.returns
returns c =
    let p0 = c.args.pool.now in let port = c.port-port.result in let new = c.bind_step.new.port in
    let start = c.requires in
    let first = port_first p0 c.reserve.new.self port.pool.now port.seat start.ready start.small c.in_ok-reserve.ensures.same c.port-port.ensures.seat c.port-port.ensures.pool.0 in
    let k : (new.pool.ghost_name ≡ port.pool.ghost_name) × IsPortLeft p0 new.pool.now new.seat = named_leaves c.args.key.now (λ p a b x q. ghosts.made p a b x q) (λ p q. ghosts.failed p q) (moment c.args.server.now port) (moment c.bind_step.new.self new) c.bind_step.result (c.bind_step.ensures.finishes, c.bind_step.ensures.step)
    (λ m x z. (z.4, port_made p0 m port new x z first)) (λ z. (z.3, port_failed p0 port new z first)) (λ e. (ap (λ p. p.pool.ghost_name) e, subst (λ p. IsPortLeft p0 p.pool.now p.seat) (sym e) first)) in
    served_so c.bind_step.new.self p0 new.pool.now _ new.seat start.small k.1 c.bind_step.ensures.agrees (search rules)

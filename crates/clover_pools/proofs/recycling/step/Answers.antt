use Rattle.std.proofs.Common.{◌≡◌, ◌∙◌, ap, rules}
use Rattle.clover_words.specs.declared.setup.Setup.{Setup}
use Rattle.clover_rule.specs.Steps.{act_of}
use Rattle.clover_pools.proofs.RecyclingSteps.{recycles}
use Rattle.clover_pools.proofs.recycling.step.Goals as goal

pub returns : goal.returns
returns c =
    let port = c.port-port.result in
    let new = c.step.new.port in
    let same = c.in_ok-reserve.ensures.same in
    let seat : port.seat ≡ 1 = c.port-port.ensures.seat.0 ∙ ap (λ (s : Setup). s.clients) same.setup ∙ c.requires.small.numbers.clients in
    recycles c.args.task.now c.step.new.self port.list port.seat new.seat c.args.pool.now c.reserve.new.self port.pool.now new.pool.now _
    c.requires.ready c.requires.small same c.port-port.ensures.pool.0 seat (search rules) c.requires.holds c.step.result c.step.ensures.made c.step.ensures.unreached
    (λ m. (m.0, (m.1.0, m.1.1, m.1.2), m.2)) (λ u. ((act_of u.0.0.0 0, u.0.0.1), u.1))

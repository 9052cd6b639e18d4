use Rattle.std.proofs.Common.{rules, ◌∙◌, ap, suc, sym, subst}
use Rattle.clover_plain.specs.Plain.{Plain}
use Rattle.clover_restart.specs.UnderWay.{IsRestarting}
use Rattle.clover_restart.proofs.UnderWaySteps.{entered, restarting_kept, restarting_on}
use Rattle.clover_restart.proofs.tests.store_next.Goals as goal

pub port-port-requires-clause-entered : goal.port-port-requires-clause-entered
port-port-requires-clause-entered c = entered c.reserve.new.self (c.stands.ensures.down (c.reserve.ensures.same.opened ∙ c.requires.down))

pub returns-in-Ok-clause-goes : goal.returns-in-Ok-clause-goes
returns-in-Ok-clause-goes c =
    let same = c.port-port.ensures.pool.0 in
    let a = restarting_kept c.args.pool.now c.reserve.new.self c.args.restart.now c.reserve.ensures.same c.requires in
    let b = subst (λ (z : Plain). IsRestarting z c.args.restart.now) (sym same) a in
    let at = c.port-port.ensures.seat.0 ∙ ap (λ (z : Plain). suc z.setup.clients) (sym same) in
    subst (λ (z : Plain). IsRestarting z c.step.new.self) (search rules) (restarting_on c.port-port.result c.step.new.port c.args.restart.now c.step.new.self c.in-Ok.stored b at c.in-Ok.ensures.stored c.in-Ok.ensures.end)

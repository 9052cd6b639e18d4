use Rattle.std.proofs.Common.{rules, ◌∙◌, ap, suc, sym, subst}
use Rattle.clover_plain.specs.Plain.{Kept, Plain}
use Rattle.clover_sched.proofs.Storing.{entered, next_made, none_made}
use Rattle.clover_sched.proofs.stores.store_next.Goals as goal

pub port-port-requires-clause-entered : goal.port-port-requires-clause-entered
port-port-requires-clause-entered c = entered c.args.pool.now c.reserve.new.self (c.stands.ensures.down c.requires.down) c.reserve.ensures.same

pub returns-in_err-reserve-clause-refused : goal.returns-in_err-reserve-clause-refused
returns-in_err-reserve-clause-refused c =
    let none = none_made c.args.pool.now c.reserve.new.self c.args.restart.now c.requires (c.stands.ensures.down c.requires.down) c.reserve.ensures.same in
    search rules

pub returns-clause-made : goal.returns-clause-made
returns-clause-made c =
    let same = c.port-port.ensures.pool.0 in
    let kept = subst (Kept c.args.pool.now) (sym same) c.reserve.ensures.same in
    let at = c.port-port.ensures.seat.0 ∙ ap (λ (z : Plain). suc z.setup.clients) (sym same) in
    let made = next_made c.args.pool.now c.port-port.result c.step.new.port c.args.restart.now c.step.new.self c.in-Ok.stored c.requires (c.stands.ensures.down c.requires.down) kept at c.port-port.ensures.fresh.1 c.in-Ok.ensures.stored c.in-Ok.ensures.end in
    search rules

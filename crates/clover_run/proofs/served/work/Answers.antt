use Rattle.std.proofs.Common.{◌≡◌, ◌<◌, ◌-◌, ◌^◌, ◌∙◌, ap, rules, sym, subst}
use Rattle.clover_plain.specs.Plain.{Plain}
use Rattle.clover_run.specs.Working.{HasServer}
use Rattle.clover_run.proofs.ServerMoves.{same_lender, worked_as, worked_so}
use Rattle.clover_run.proofs.served.work.Goals as goal

pub returns : goal.returns
returns c =
    let port = c.port-port.result in let new = c.step_for-turn.new.port in
    let s = c.args.server.now in let n = c.step_for-turn.new.server in
    let same = c.port-port.ensures.pool.0 in
    let stands = subst (λ (z : Plain). HasServer z s) (sym same) c.requires.stands in
    let few = subst (λ (z : Plain). z.made < 2 ^ 64 - 1) (sym same) c.requires.made in
    let seat = c.port-port.ensures.seat.0 ∙ sym (ap (λ (z : Plain). z.setup.clients) same) in
    let says = c.step_for-turn.ensures in
    let lender : new.pool.ghost_name ≡ port.pool.ghost_name = same_lender c.args.want c.args.call.now s n c.step_for-turn.result port new stands few seat c.port-port.ensures.fresh.1 says.agrees says.lowers says.serves in
    worked_as _ _ _ _ _ _ _ _ _ _ _ _ same (search rules) c.port-port.ensures.fresh.0
    (worked_so c.args.want c.args.call.now s n c.step_for-turn.result port new stands few seat c.port-port.ensures.fresh.1 says.agrees says.lowers says.serves)

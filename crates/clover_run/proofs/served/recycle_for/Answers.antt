use Rattle.std.proofs.Common.{◌≡◌, ◌<◌, ◌-◌, ◌^◌, ◌∙◌, ap, rules, sym, subst}
use Rattle.clover_plain.specs.Plain.{Plain}
use Rattle.clover_run.specs.Working.{HasServer}
use Rattle.clover_run.proofs.RecyclerMoves.{recycled_as, recycled_lender, recycled_so}
use Rattle.clover_run.proofs.served.recycle_for.Goals as goal

pub returns : goal.returns
returns c =
    let port = c.port-port.result in let new = c.clean_for-turn.new.port in
    let s = c.args.server.now in let n = c.clean_for-turn.new.server in
    let same = c.port-port.ensures.pool.0 in
    let stands = subst (λ (z : Plain). HasServer z s) (sym same) c.requires.stands in
    let few = subst (λ (z : Plain). z.made < 2 ^ 64 - 1) (sym same) c.requires.made in
    let seat = c.port-port.ensures.seat.0 ∙ sym (ap (λ (z : Plain). z.setup.clients) same) in
    let says = c.clean_for-turn.ensures in
    let lender : new.pool.ghost_name ≡ port.pool.ghost_name = recycled_lender c.args.slot s n c.clean_for-turn.result port new stands few seat c.port-port.ensures.fresh.1 says.agrees says.lessens says.gives says.own says.cleans in
    recycled_as _ _ _ _ _ _ _ _ _ _ _ same (search rules) c.port-port.ensures.fresh.0
    (recycled_so c.args.slot s n c.clean_for-turn.result port new stands few seat c.port-port.ensures.fresh.1 says.agrees says.lessens says.gives says.own says.cleans)

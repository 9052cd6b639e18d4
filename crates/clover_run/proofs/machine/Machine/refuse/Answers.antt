use Rattle.std.proofs.Common.{◌≡◌, ◌-◌, ◌≤◌, length, refl, sym, subst, arith}
use Rattle.std.specs.Prelude.{Some}
use Rattle.clover_rule.specs.Lists.{nth}
use Rattle.clover_event.specs.declared.event.Event.TheVariants.{Refuse}
use Rattle.clover_event.proofs.Places.{nth_here}
use Rattle.clover_run.specs.Kept.{meaning}
use Rattle.clover_run.specs.Machine.{Parts, IsAt}
use Rattle.clover_run.specs.declared.event.Note.TheVariants.{Quiet}
use Rattle.clover_run.proofs.Chores.{refusing_comes, refusing_recycler}
use Rattle.clover_run.proofs.Happening.{behind, refused_happens, refused_nobody}
use Rattle.clover_run.proofs.machine.Machine.refuse.Goals as goal

pub invariant_of-self : goal.invariant_of-self
invariant_of-self c =
    let m : Parts = meaning c.self.inside in
    behind m (refusing_recycler m) (Refuse c.args.actor) Quiet (refusing_comes m m refl c.args.actor (omega (arith, c.if-actor-eq0.true))) c.self.invariant

pub returns-then-actor-eq0-clause-happened : goal.returns-then-actor-eq0-clause-happened
returns-then-actor-eq0-clause-happened c = refusing_comes (meaning c.self.inside) c.args.self.now c.self.view_is c.args.actor (omega (arith, c.if-actor-eq0.true))

pub invariant_of-self-then-seat-len : goal.invariant_of-self-then-seat-len
invariant_of-self-then-seat-len c =
    let x = c.index_mut.result.now in
    let here : nth c.self.inside.clients.items (c.args.actor - 1) ≡ Some x = nth_here c.self.inside.clients.items (c.args.actor - 1) x (omega (arith, c.self.inside.clients.ok.0)) c.index_mut.ensures.value in
    behind _ _ (Refuse c.args.actor) Quiet (refused_happens (meaning c.self.inside) (c.args.actor - 1) c.args.actor (omega (arith, c.if-actor-eq0.false)) x here) c.self.invariant

pub returns-then-seat-len-clause-happened : goal.returns-then-seat-len-clause-happened
returns-then-seat-len-clause-happened c o rs at =
    let x = c.index_mut.result.now in
    let here : nth c.self.inside.clients.items (c.args.actor - 1) ≡ Some x = nth_here c.self.inside.clients.items (c.args.actor - 1) x (omega (arith, c.self.inside.clients.ok.0)) c.index_mut.ensures.value in
    refused_happens (meaning c.self.inside) (c.args.actor - 1) c.args.actor (omega (arith, c.if-actor-eq0.false)) x here o rs (subst (λ (p : Parts). IsAt o p rs) (sym c.self.view_is) at)

pub returns-else-seat-len-clause-happened : goal.returns-else-seat-len-clause-happened
returns-else-seat-len-clause-happened c o rs at =
    let past : length c.args.self.now.clients ≤ c.args.actor - 1 = subst (λ (p : Parts). length p.clients ≤ c.args.actor - 1) c.self.view_is (omega (arith, c.self.inside.clients.ok.0)) in
    refused_nobody c.args.self.now (c.args.actor - 1) c.args.actor (omega (arith, c.if-actor-eq0.false)) past o rs at

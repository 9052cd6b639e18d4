use Rattle.std.proofs.Common.{◌≡◌, ◌-◌, ◌≤◌, length, sym, subst, arith}
use Rattle.std.specs.Prelude.{Some}
use Rattle.clover_rule.specs.Lists.{nth}
use Rattle.clover_script.specs.declared.line.Task.TheVariants.{Client as ClientTask}
use Rattle.clover_event.specs.declared.event.Event.TheVariants.{Begin}
use Rattle.clover_event.proofs.Places.{nth_here}
use Rattle.clover_run.specs.Client.{HasTask}
use Rattle.clover_run.specs.Kept.{meaning}
use Rattle.clover_run.specs.Machine.{Parts, IsAt, Happens}
use Rattle.clover_run.specs.declared.client.ClientState.{ClientState}
use Rattle.clover_run.proofs.Happening.{missing_happens, busy_happens, asked_happens, asked_rests, behind}
use Rattle.clover_run.proofs.Onward.{with_client}
use Rattle.clover_run.proofs.machine.Machine.begin_call.Goals as goal

pub returns-then-seat-len-clause-happened : goal.returns-then-seat-len-clause-happened
returns-then-seat-len-clause-happened c o rs at =
    let past : length c.args.self.now.clients ≤ c.args.actor - 1 = subst (λ (p : Parts). length p.clients ≤ c.args.actor - 1) c.self.view_is (omega (arith, c.self.inside.clients.ok.0)) in
    missing_happens c.args.self.now (c.args.actor - 1) c.args.actor (omega (arith, c.requires.client)) c.args.call c.args.written past o rs at

pub returns-then-is_busy-clause-happened : goal.returns-then-is_busy-clause-happened
returns-then-is_busy-clause-happened c o rs at =
    let x = c.index.result.now in
    let here : nth c.self.inside.clients.items (c.args.actor - 1) ≡ Some x = nth_here c.self.inside.clients.items (c.args.actor - 1) x (omega (arith, c.self.inside.clients.ok.0)) c.index.ensures in
    let there : nth c.args.self.now.clients (c.args.actor - 1) ≡ Some x = subst (λ (p : Parts). nth p.clients (c.args.actor - 1) ≡ Some x) c.self.view_is here in
    busy_happens c.args.self.now (c.args.actor - 1) c.args.actor (omega (arith, c.requires.client)) c.args.call c.args.written x there (c.is_busy.ensures.0 c.if-is_busy.true) o rs at

pub begin-requires-clause-rests : goal.begin-requires-clause-rests
begin-requires-clause-rests c =
    let m : Parts = meaning c.self.inside in
    let a = c.args.actor in
    let x = c.index_mut.result.now in
    let here : nth m.clients (a - 1) ≡ Some x = nth_here m.clients (a - 1) x (omega (arith, c.self.inside.clients.ok.0)) c.index_mut.ensures.value in
    let was : nth m.clients (a - 1) ≡ Some c.index.result.now = nth_here m.clients (a - 1) c.index.result.now (omega (arith, c.self.inside.clients.ok.0)) c.index.ensures in
    let same : c.index.result.now ≡ x = cc (here, was) in
    asked_rests m (a - 1) a (omega (arith, c.requires.client)) x here (subst (λ (z : ClientState). HasTask z → ⊥) same (λ busy. let t = c.is_busy.ensures.1 busy in cc (t, c.if-is_busy.false))) c.self.invariant

pub invariant_of-self : goal.invariant_of-self
invariant_of-self c =
    let m : Parts = meaning c.self.inside in
    let a = c.args.actor in
    let x = c.index_mut.result.now in
    let here : nth m.clients (a - 1) ≡ Some x = nth_here m.clients (a - 1) x (omega (arith, c.self.inside.clients.ok.0)) c.index_mut.ensures.value in
    let was : nth m.clients (a - 1) ≡ Some c.index.result.now = nth_here m.clients (a - 1) c.index.result.now (omega (arith, c.self.inside.clients.ok.0)) c.index.ensures in
    let same : c.index.result.now ≡ x = cc (here, was) in
    let idle = subst (λ (z : ClientState). HasTask z → ⊥) same (λ busy. let t = c.is_busy.ensures.1 busy in cc (t, c.if-is_busy.false)) in
    let happens : Happens m (with_client m (a - 1) c.begin.new.self) (Begin a (ClientTask c.args.call c.args.written)) c.begin.result = asked_happens m (a - 1) a (omega (arith, c.requires.client)) c.args.call c.args.written x c.begin.new.self c.begin.result here idle c.requires.may c.begin.ensures c.stands.ensures.running in
    behind m (with_client m (a - 1) c.begin.new.self) (Begin a (ClientTask c.args.call c.args.written)) c.begin.result happens c.self.invariant

pub returns-clause-happened : goal.returns-clause-happened
returns-clause-happened c o rs at =
    let m : Parts = meaning c.self.inside in
    let a = c.args.actor in
    let x = c.index_mut.result.now in
    let here : nth m.clients (a - 1) ≡ Some x = nth_here m.clients (a - 1) x (omega (arith, c.self.inside.clients.ok.0)) c.index_mut.ensures.value in
    let was : nth m.clients (a - 1) ≡ Some c.index.result.now = nth_here m.clients (a - 1) c.index.result.now (omega (arith, c.self.inside.clients.ok.0)) c.index.ensures in
    let same : c.index.result.now ≡ x = cc (here, was) in
    let idle = subst (λ (z : ClientState). HasTask z → ⊥) same (λ busy. let t = c.is_busy.ensures.1 busy in cc (t, c.if-is_busy.false)) in
    let happens : Happens m (with_client m (a - 1) c.begin.new.self) (Begin a (ClientTask c.args.call c.args.written)) c.begin.result = asked_happens m (a - 1) a (omega (arith, c.requires.client)) c.args.call c.args.written x c.begin.new.self c.begin.result here idle c.requires.may c.begin.ensures c.stands.ensures.running in
    happens o rs (subst (λ (p : Parts). IsAt o p rs) (sym c.self.view_is) at)

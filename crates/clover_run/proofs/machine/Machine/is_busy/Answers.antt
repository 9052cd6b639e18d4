use Rattle.std.proofs.Common.{◌≡◌, ◌-◌, List, ap, ◌∙◌, subst, arith}
use Rattle.std.specs.Prelude.{Some, None}
use Rattle.clover_rule.specs.Lists.{nth}
use Rattle.clover_rule.proofs.Tools.{nth_none}
use Rattle.clover_event.proofs.Places.{nth_here}
use Rattle.clover_run.specs.declared.client.ClientState.{ClientState}
use Rattle.clover_run.proofs.Busies.{busy_there, busy_nowhere}
use Rattle.clover_run.proofs.machine.Machine.is_busy.Goals as goal

pub returns-in-Some : goal.returns-in-Some
returns-in-Some c =
    let m = c.args.self.now in
    let i = c.args.actor - 1 in
    let x = c.in-Some.client.now in
    let found = c.in-Some.ensures.lookup in
    let all : c.deref.result.now ≡ m.clients = c.deref.ensures.value ∙ ap (λ n. n.clients) c.self.view_is in
    let here : nth m.clients i ≡ Some x = subst (λ (l : List ClientState). nth l i ≡ Some x) all (nth_here c.deref.result.now i x found.3.0 found.1) in
    record { busy = busy_there m i c.args.actor x c.is_busy-in-Some.result (omega (arith, c.if-actor-eq0.false)) here c.is_busy-in-Some.ensures }

pub returns-in-None : goal.returns-in-None
returns-in-None c =
    let m = c.args.self.now in
    let i = c.args.actor - 1 in
    let found = c.in-None.ensures.lookup in
    let all : c.deref.result.now ≡ m.clients = c.deref.ensures.value ∙ ap (λ n. n.clients) c.self.view_is in
    let past : nth m.clients i ≡ None = subst (λ (l : List ClientState). nth l i ≡ None) all (nth_none c.deref.result.now i found.3) in
    record { busy = (λ t. cc, busy_nowhere m i c.args.actor (omega (arith, c.if-actor-eq0.false)) past) }

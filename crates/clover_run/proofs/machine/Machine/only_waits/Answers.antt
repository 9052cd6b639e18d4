use Rattle.std.proofs.Common.{◌≡◌, ◌-◌, List, ap, sym, ◌∙◌, subst, arith, rules}
use Rattle.std.specs.Prelude.{Some, None, ◌↔◌, IsTrue}
use denote.Enum.Bare.{differs_true, differs_false}
use Rattle.clover_rule.specs.Lists.{nth}
use Rattle.clover_rule.proofs.Tools.{nth_none}
use Rattle.clover_event.proofs.Places.{nth_here}
use Rattle.clover_run.specs.Kept.{meaning}
use Rattle.clover_run.specs.Machine.{Parts, OnlyWaits}
use Rattle.clover_run.specs.contracts.want.Want.{the_type}
use Rattle.clover_run.specs.declared.client.ClientState.{ClientState}
use Rattle.clover_run.proofs.Busies.{waits_there, waits_nowhere}
use Rattle.clover_run.proofs.machine.Machine.only_waits.Goals as goal

pub returns-then-ne : goal.returns-then-ne
returns-then-ne c =
    let m : Parts = meaning c.self.inside in
    let i = c.args.actor - 1 in
    let x = c.in-Some.client.now in
    let found = c.in-Some.ensures.lookup in
    let here : nth m.clients i ≡ Some x = subst (λ (l : List ClientState). nth l i ≡ Some x) c.deref.ensures.value (nth_here c.deref.result.now i x found.3.0 found.1) in
    subst (λ (p : Parts). IsTrue c.is_elsewhere-then-ne.result ↔ OnlyWaits p c.args.actor) c.self.view_is
    (waits_there m i c.args.actor x c.is_elsewhere-then-ne.result (omega (arith, c.if-actor-eq0.false)) here (λ t. (differs_true the_type _ _ (sym c.ne.ensures ∙ c.if-ne.true), c.is_elsewhere-then-ne.ensures.0 t), λ w. c.is_elsewhere-then-ne.ensures.1 w.1))

pub returns-else-ne : goal.returns-else-ne
returns-else-ne c =
    let m : Parts = meaning c.self.inside in
    let i = c.args.actor - 1 in
    let x = c.in-Some.client.now in
    let found = c.in-Some.ensures.lookup in
    let here : nth m.clients i ≡ Some x = subst (λ (l : List ClientState). nth l i ≡ Some x) c.deref.ensures.value (nth_here c.deref.result.now i x found.3.0 found.1) in
    subst (λ (p : Parts). IsTrue c.ne.result ↔ OnlyWaits p c.args.actor) c.self.view_is
    (waits_there m i c.args.actor x c.ne.result (omega (arith, c.if-actor-eq0.false)) here (λ t. absurd (cc (t, c.if-ne.false)), λ w. absurd (w.0 (differs_false the_type (search rules) _ _ (sym c.ne.ensures ∙ c.if-ne.false)))))

pub returns-in-None : goal.returns-in-None
returns-in-None c =
    let m = c.args.self.now in
    let i = c.args.actor - 1 in
    let found = c.in-None.ensures.lookup in
    let all : c.deref.result.now ≡ m.clients = c.deref.ensures.value ∙ ap (λ n. n.clients) c.self.view_is in
    let past : nth m.clients i ≡ None = subst (λ (l : List ClientState). nth l i ≡ None) all (nth_none c.deref.result.now i found.3) in
    (λ t. cc, waits_nowhere m i c.args.actor (omega (arith, c.if-actor-eq0.false)) past)

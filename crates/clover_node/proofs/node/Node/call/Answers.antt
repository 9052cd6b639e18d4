use Rattle.std.proofs.Common.{◌≡◌, ℕ, ap, ◌∙◌, sym, subst}
use Rattle.clover_node.specs.Going.{NodeGoesOn, NodeIsDue, NodeWent, stock_behind}
use Rattle.clover_node.specs.Node.{NodeState, NodeHolds, IsIdle, node_first, node_step}
use Rattle.clover_node.specs.Turning.{OnMade, of_turn}
use Rattle.clover_node.specs.declared.answer.NodeTurn.{NodeTurn}
use Rattle.clover_node.specs.declared.counting.Counting.TheVariants.{No}
use Rattle.clover_node.proofs.OnSlot.{at_node, behind, made_too, map_made, map_refused, slot_holds, slot_made, slot_went}
use Rattle.clover_node.proofs.node.Node.call.Goals as goal

pub returns-clause-made : goal.returns-clause-made
returns-clause-made g c =
    let p = c.args.port.now in let q = c.step.new.port in let P = g.P.Port in let v = P.view p in let w = P.view q in let into = c.args.into.now in let into1 = c.step.new.into in let k = c.step.new.self in let r = c.step.result in let n = c.args.self.now in
    let z : NodeState = record { client = c.self.inside.client; caller = c.self.inside.caller; counting = c.self.inside.counting; stock = c.self.inside.stock; names = c.self.inside.names.list } in
    let holds = subst (λ (s : NodeState). NodeHolds s g.call v into) (sym c.self.view_is) c.requires.1.1.1.1 in
    let calls = subst (λ (s : NodeState). s.counting ≡ No) (sym c.self.view_is) c.requires.1.0 in
    let busy = subst (λ (s : NodeState). IsIdle s → ⊥) (sym c.self.view_is) c.requires.1.1.0 in
    let after = c.spend.ensures ∙ ap (λ (t : NodeTurn). record z { caller = k; stock = stock_behind t z.stock }) c.turn_of-turn.ensures in
    at_node (λ s m t. OnMade t ((x : ℕ) × P.made p (node_step s g.call v into) (node_first s) x q × NodeGoesOn s v into (node_step s g.call v into) x t m w into1 × NodeIsDue s into (node_step s g.call v into) x m into1 t))
    z n c.spend.new.self (behind z k r) c.turn_of-turn.result (of_turn r) c.self.view_is after c.turn_of-turn.ensures
    (made_too r (λ m. slot_made z g.call into v holds calls busy k into1 w r m.0 (λ a b x. P.made p a b x q) m.1 m.2 m.3 m.4) c.step.ensures.made)

pub returns-clause-went : goal.returns-clause-went
returns-clause-went g c =
    let p = c.args.port.now in let q = c.step.new.port in let P = g.P.Port in let v = P.view p in let w = P.view q in let into = c.args.into.now in let into1 = c.step.new.into in let k = c.step.new.self in let r = c.step.result in let n = c.args.self.now in
    let z : NodeState = record { client = c.self.inside.client; caller = c.self.inside.caller; counting = c.self.inside.counting; stock = c.self.inside.stock; names = c.self.inside.names.list } in
    let holds = subst (λ (s : NodeState). NodeHolds s g.call v into) (sym c.self.view_is) c.requires.1.1.1.1 in
    let calls = subst (λ (s : NodeState). s.counting ≡ No) (sym c.self.view_is) c.requires.1.0 in
    let busy = subst (λ (s : NodeState). IsIdle s → ⊥) (sym c.self.view_is) c.requires.1.1.0 in
    let after = c.spend.ensures ∙ ap (λ (t : NodeTurn). record z { caller = k; stock = stock_behind t z.stock }) c.turn_of-turn.ensures in
    let made = map_made r (λ m. (m.0, g.met.P.Port.made_tells p q _ _ m.0 m.1, m.4)) c.step.ensures.made in
    let refused = map_refused r (λ f. (g.met.P.Port.failed_leaves p q f.0).4) c.step.ensures.refused in
    at_node (λ s m t. NodeWent s g.call into1 v (P.told p) m w (P.told q) t)
    z n c.spend.new.self (behind z k r) c.turn_of-turn.result (of_turn r) c.self.view_is after c.turn_of-turn.ensures
    (slot_went z g.call into v holds calls busy (P.pool p) (P.told p) k into1 w (P.told q) r made refused c.step.ensures.went c.step.ensures.pool)

pub returns-clause-holds : goal.returns-clause-holds
returns-clause-holds g c =
    let p = c.args.port.now in let q = c.step.new.port in let P = g.P.Port in let v = P.view p in let w = P.view q in let into = c.args.into.now in let into1 = c.step.new.into in let k = c.step.new.self in let r = c.step.result in let n = c.args.self.now in
    let z : NodeState = record { client = c.self.inside.client; caller = c.self.inside.caller; counting = c.self.inside.counting; stock = c.self.inside.stock; names = c.self.inside.names.list } in
    let holds = subst (λ (s : NodeState). NodeHolds s g.call v into) (sym c.self.view_is) c.requires.1.1.1.1 in
    let calls = subst (λ (s : NodeState). s.counting ≡ No) (sym c.self.view_is) c.requires.1.0 in
    let busy = subst (λ (s : NodeState). IsIdle s → ⊥) (sym c.self.view_is) c.requires.1.1.0 in
    let after = c.spend.ensures ∙ ap (λ (t : NodeTurn). record z { caller = k; stock = stock_behind t z.stock }) c.turn_of-turn.ensures in
    let made = map_made r (λ m. (m.0, g.met.P.Port.made_tells p q _ _ m.0 m.1, m.4)) c.step.ensures.made in
    let refused = map_refused r (λ f. (g.met.P.Port.failed_leaves p q f.0).4) c.step.ensures.refused in
    at_node (λ s m t. NodeHolds m g.call w into1)
    z n c.spend.new.self (behind z k r) c.turn_of-turn.result (of_turn r) c.self.view_is after c.turn_of-turn.ensures
    (slot_holds z g.call into v holds calls busy (P.pool p) (P.told p) k into1 w (P.told q) r made refused c.step.ensures.went c.step.ensures.pool c.step.ensures.holds)

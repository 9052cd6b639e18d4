use Rattle.std.proofs.Common.{◌≡◌, ℕ, ◌⊎◌, true, sym, subst}
use Rattle.clover_words.specs.declared.pool.Pool.{Pool}
use Rattle.clover_port.specs.Told.{Made}
use Rattle.clover_node.specs.Going.{NodeGoesOn, NodeIsDue, NodeWent}
use Rattle.clover_node.specs.Node.{NodeState, NodeHolds, count_of, node_first, node_step}
use Rattle.clover_node.specs.Turning.{OnMade}
use Rattle.clover_node.specs.declared.counting.Counting.TheVariants.{Names, Absence}
use Rattle.clover_node.proofs.Counted.{asked_counting, count_made, made_so, refused_so}
use Rattle.clover_node.proofs.Loading.{count_says}
use Rattle.clover_node.proofs.node.Node.step.Goals as goal

pub returns-in-Names-clause-made : goal.returns-in-Names-clause-made
returns-in-Names-clause-made g c =
    let p = c.args.port.now in let q = c.count.new.port in let P = g.P.Port in let v = P.view p in let w = P.view q in let into = c.args.into.now in let n = c.args.self.now in let t = c.count.result in
    let asks = asked_counting n.counting n v g.call (subst (λ (s : NodeState). (s.counting ≡ Names) ⊎ (s.counting ≡ Absence)) c.self.view_is c.in-Names.is) c.requires.1.1.1.asked in
    subst (λ (m : NodeState). OnMade t ((x : ℕ) × P.made p (node_step n g.call v into) (node_first n) x q × NodeGoesOn n v into (node_step n g.call v into) x t m w into × NodeIsDue n into (node_step n g.call v into) x m into t)) (sym c.count.ensures.value)
    (made_so t (λ m. count_made n g.call v into w (λ a b x. P.made p a b x q) t asks m) c.count.ensures.made)

pub returns-in-Names-clause-went : goal.returns-in-Names-clause-went
returns-in-Names-clause-went g c =
    let p = c.args.port.now in let q = c.count.new.port in let P = g.P.Port in let v = P.view p in let w = P.view q in let into = c.args.into.now in let n = c.args.self.now in let t = c.count.result in
    let asks = asked_counting n.counting n v g.call (subst (λ (s : NodeState). (s.counting ≡ Names) ⊎ (s.counting ≡ Absence)) c.self.view_is c.in-Names.is) c.requires.1.1.1.asked in
    let made = made_so t (λ m. (m.0, subst (λ (y : Pool). Made y (count_of n.counting g.call) true v (P.told p) m.0 w (P.told q)) c.requires.1.1.0 (g.met.P.Port.made_tells p q _ _ m.0 m.1), m.2)) c.count.ensures.made in
    let refused = refused_so t (λ f. ((g.met.P.Port.failed_leaves p q f.0).4, f.1)) c.count.ensures.refused in
    subst (λ (m : NodeState). NodeWent n g.call into v (P.told p) m w (P.told q) t) (sym c.count.ensures.value) (count_says n g.call into v c.requires.1.1.1 asks (P.told p) w (P.told q) t made refused).0

pub returns-in-Names-clause-holds : goal.returns-in-Names-clause-holds
returns-in-Names-clause-holds g c =
    let p = c.args.port.now in let q = c.count.new.port in let P = g.P.Port in let v = P.view p in let w = P.view q in let into = c.args.into.now in let n = c.args.self.now in let t = c.count.result in
    let asks = asked_counting n.counting n v g.call (subst (λ (s : NodeState). (s.counting ≡ Names) ⊎ (s.counting ≡ Absence)) c.self.view_is c.in-Names.is) c.requires.1.1.1.asked in
    let made = made_so t (λ m. (m.0, subst (λ (y : Pool). Made y (count_of n.counting g.call) true v (P.told p) m.0 w (P.told q)) c.requires.1.1.0 (g.met.P.Port.made_tells p q _ _ m.0 m.1), m.2)) c.count.ensures.made in
    let refused = refused_so t (λ f. ((g.met.P.Port.failed_leaves p q f.0).4, f.1)) c.count.ensures.refused in
    subst (λ (m : NodeState). NodeHolds m g.call w into) (sym c.count.ensures.value) (count_says n g.call into v c.requires.1.1.1 asks (P.told p) w (P.told q) t made refused).1

use Rattle.std.proofs.Common.{[], refl, sym, ◌∙◌, subst}
use Rattle.std.specs.FinMap as finite
use Rattle.clover_rule.specs.Views.{alone, start_pass}
use Rattle.clover_rule.specs.declared.view.Role.TheVariants.{Client}
use Rattle.clover_node.specs.Node.{NodeState, NodeHolds}
use Rattle.clover_node.proofs.node.tests.node.Goals as goal

pub returns : goal.returns
returns c = (
  _,
  c.sent.ensures ∙ c.in_ok-make.ensures.value,
  refl,
  λ call room.
      let v = alone (start_pass _ finite.empty [] (Client 1)) in
      (v, subst (λ (n : NodeState). NodeHolds n call v room) (sym c.sent.ensures) (c.in_ok-make.ensures.holds call v room refl refl refl refl)),
)

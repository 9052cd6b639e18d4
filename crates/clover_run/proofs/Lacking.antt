-- A client that wants names lacks some: it does so too where its next access is to be refused, and one that has started its call, or wants nothing, wants no names.
use Rattle.std.proofs.Common.{◌≡◌, ◌⊎◌, ◌<◌, length, Bool, inl, inr, sym, ◌∙◌, subst}
use Rattle.clover_map.specs.declared.call.Call.{Call}
use Rattle.clover_rule.specs.declared.view.View.{View}
use Rattle.clover_node.specs.Beginning.{NodeStarts, Refuses}
use Rattle.clover_node.specs.Node.{IsPut}
use Rattle.clover_node.specs.declared.answer.NodeRefusal.TheVariants.{NeedsStock}
use Rattle.clover_run.specs.Client.{LacksNames, Started}
use Rattle.clover_run.specs.declared.client.ClientState.{ClientState}
use Rattle.clover_run.specs.declared.want.Want.TheVariants.{Nothing, Stock, Names}
use Rattle.clover_run.proofs.Keeping.{call_refusing}

pub refusing_lacks : (x : ClientState) (b : Bool) (v : View) → LacksNames x v → LacksNames (record x { refusing = b }) v
refusing_lacks x b v h want = subst (λ (c : Call). IsPut c ⊎ (length x.node.names < v.pass.most)) (sym (call_refusing x b v)) (h want)

pub free_lacks : (y : ClientState) (v : View) → y.want ≡ Nothing → LacksNames y v
free_lacks y v free want = absurd (let q : Nothing ≡ Names = sym free ∙ want in cc)

pub started_lacks : (x y : ClientState) (call : Call) (v : View) → Started x y call → LacksNames y v
started_lacks x y call v s want = absurd (go s.how)
  where
    go : (NodeStarts x.node call y.node × (y.want ≡ Nothing)) ⊎ ((y.node ≡ x.node) × (y.want ≡ Stock) × Refuses x.node call NeedsStock) → ⊥
    go (inl h) = let q : Nothing ≡ Names = sym h.1 ∙ want in cc
    go (inr h) = let q : Stock ≡ Names = sym h.1 ∙ want in cc

-- What a call wants before its first access, against whether its client's node starts it.
use Rattle.std.proofs.Common.{◌≡◌, ◌≢◌, ℕ, List, [], ◌∷◌, map, refl, ap, ◌∙◌}
use Rattle.std.specs.Prelude.{Option, Some, None}
use Rattle.clover_words.specs.Tag.{TagParts, tag_number}
use Rattle.clover_map.specs.History.{key_of}
use Rattle.clover_map.specs.declared.call.Call.{Call}
use Rattle.clover_map.specs.declared.call.Call.TheVariants.{Get, Put, Delete, Swap}
use Rattle.clover_node.specs.Beginning.{NeedsBuffer, NodeStarts, Refuses}
use Rattle.clover_node.specs.Node.{NodeState}
use Rattle.clover_node.specs.declared.answer.NodeRefusal.TheVariants.{NeedsStock}
use Rattle.clover_run.specs.Wanting.{slot_for, unless_stocked, wants_first}
use Rattle.clover_run.specs.declared.want.Want.TheVariants.{Nothing, Stock}
use Rattle.clover_run.proofs.Slots.{slot_found, slot_there}

-- with a tag in the stock no buffer is wanted, and without one it is
stocked : (tags : List TagParts) → tags ≢ [] → unless_stocked (map tag_number tags) ≡ Nothing
stocked [] ne = absurd (ne refl)
stocked (t ∷ ts) ne = refl

bare : (tags : List TagParts) → tags ≡ [] → unless_stocked (map tag_number tags) ≡ Stock
bare tags e = ap (λ (l : List TagParts). unless_stocked (map tag_number l)) e

-- the node's stock serves a call that needs a buffer
module _ (n : NodeState) where
  abbrev slot : List ℕ → Option ℕ
  slot key = slot_for key n.names

  serves_stocked : (call : Call) → (NeedsBuffer n call → n.stock ≢ []) → wants_first call (slot (key_of call)) (map tag_number n.stock) ≡ Nothing
  serves_stocked (Get key) h = refl
  serves_stocked (Put key value) h = stocked n.stock (h tt)
  serves_stocked (Delete key) h = by (slot key) refl
    where
      by : (o : Option ℕ) → slot key ≡ o → wants_first (Delete key) o (map tag_number n.stock) ≡ Nothing
      by None e = refl
      by (Some s) e = stocked n.stock (h (s, slot_found key n.names s e))
  serves_stocked (Swap key expected value) h = by (slot key) refl
    where
      by : (o : Option ℕ) → slot key ≡ o → wants_first (Swap key expected value) o (map tag_number n.stock) ≡ Nothing
      by None e = refl
      by (Some s) e = stocked n.stock (h (s, slot_found key n.names s e))

  -- a call that the node has started wants nothing, and one that it has refused for want of stock wants that
  pub starts_nothing : (call : Call) (n1 : NodeState) → NodeStarts n call n1 → wants_first call (slot (key_of call)) (map tag_number n.stock) ≡ Nothing
  starts_nothing call n1 s = serves_stocked call s.stocked

  pub refused_stock : (call : Call) → Refuses n call NeedsStock → wants_first call (slot (key_of call)) (map tag_number n.stock) ≡ Stock
  refused_stock (Get key) r = absurd r.2
  refused_stock (Put key value) r = bare n.stock r.1
  refused_stock (Delete key) r = let f = slot_there key n.names r.2.0 r.2.1 in ap (λ (o : Option ℕ). wants_first (Delete key) o (map tag_number n.stock)) f.1 ∙ bare n.stock r.1
  refused_stock (Swap key expected value) r = let f = slot_there key n.names r.2.0 r.2.1 in ap (λ (o : Option ℕ). wants_first (Swap key expected value) o (map tag_number n.stock)) f.1 ∙ bare n.stock r.1

-- What a node's client has been given, the node has.
use Rattle.std.proofs.Common.{ℕ, ◌<◌, List, [], ◌∷◌, ◌++◌, map, sym, ap, ◌∙◌, subst}
use Rattle.std.proofs.lemmas.List.{map-append}
use Rattle.clover_words.specs.declared.bytes.ValueBuf.{ValueBuf}
use Rattle.clover_words.specs.Tag.{TagParts, tag_number}
use Rattle.clover_map.specs.declared.call.Call.{Call}
use Rattle.clover_rule.specs.Content.{InRange}
use Rattle.clover_rule.specs.Lists.{Each}
use Rattle.clover_rule.specs.Moves.{given}
use Rattle.clover_rule.specs.declared.view.View.{View}
use Rattle.clover_call.specs.Caller.{CallHolds}
use Rattle.clover_call.specs.declared.under.Underway.{Underway}
use Rattle.clover_node.specs.Accepting.{MayTake}
use Rattle.clover_node.specs.Node.{NodeState, NodeHolds, IsAsked, IsIdle, IsUnder}
use Rattle.clover_node.specs.declared.counting.Counting.{Counting}

each_append : {A : Type 0} (P : A → Type 0) (xs ys : List A) → Each P xs → Each P ys → Each P (xs ++ ys)
each_append P [] ys h k = k
each_append P (x ∷ xs) ys h k = (h.0, each_append P xs ys h.1 k)

-- it holds of the view that the grant leaves
pub granted : (n : NodeState) (batch : List TagParts) (added : List (ℕ × List ℕ)) (call : Call) (v : View) (room : ValueBuf) → IsIdle n → NodeHolds n call v room → MayTake n batch added → NodeHolds (record n { stock = n.stock ++ batch; names = n.names ++ added }) call (given (map tag_number batch) added v) room
granted n batch added call v room idle h may =
    let w = given (map tag_number batch) added v in
    let m : NodeState = record n { stock = n.stock ++ batch; names = n.names ++ added } in
    record {
      role = h.role;
      stock = ap (λ (ts : List ℕ). ts ++ map tag_number batch) h.stock ∙ sym (map-append tag_number n.stock batch);
      names = ap (λ (ns : List (ℕ × List ℕ)). ns ++ added) h.names;
      tags = each_append (λ (t : TagParts). InRange n.caller.pool (tag_number t)) n.stock batch h.tags may.tags;
      slots = each_append (λ (q : ℕ × List ℕ). q.0 < n.caller.pool.slots) n.names added h.slots may.slots;
      once = may.once;
      caller = record {
        pool = h.caller.pool;
        client = h.caller.client;
        cursors = record { last = h.caller.cursors.last; list = h.caller.cursors.list };
        call = subst (λ (u : Underway). CallHolds n.caller.pool u w room) (sym idle.calls) tt;
      };
      asked = subst (λ (c : Counting). IsAsked c m w call) (sym idle.counts) (subst (λ (u : Underway). IsUnder u w call) (sym idle.calls) tt);
    }

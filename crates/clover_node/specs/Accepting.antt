-- What a node's client is given.
use Rattle.std.specs.Prelude.{ℕ, ◌<◌, List, ◌++◌}
use Rattle.clover_words.specs.Tag.{TagParts, tag_number}
use Rattle.clover_rule.specs.Content.{InRange}
use Rattle.clover_rule.specs.Lists.{Each}
use Rattle.clover_rule.specs.Views.{SlotsOnce}
use Rattle.clover_node.specs.Node.{NodeState}

-- the tags and the names are of the pool, and no slot stands twice among the names
pub record MayTake (n : NodeState) (batch : List TagParts) (added : List (ℕ × List ℕ)) : Type 0 where
  pub tags : Each (λ (t : TagParts). InRange n.caller.pool (tag_number t)) batch
  pub slots : Each (λ (q : ℕ × List ℕ). q.0 < n.caller.pool.slots) added
  pub once : SlotsOnce (n.names ++ added)

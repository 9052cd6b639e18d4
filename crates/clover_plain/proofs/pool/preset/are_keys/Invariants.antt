use Rattle.std.proofs.Common.{◌≡◌, ◌<◌, ℕ, List}
use Rattle.std.specs.Prelude.{Some}
use Rattle.clover_map.specs.Key.{IsKey}
use Rattle.clover_rule.specs.Lists.{nth}
use Rattle.clover_plain.proofs.pool.preset.are_keys.Given as goal

abbrev pub invariant-loop-key : goal.invariant-loop-key
invariant-loop-key l = (i : ℕ) (k : List ℕ) → nth l.keys i ≡ Some k → i < l.key-index → IsKey k

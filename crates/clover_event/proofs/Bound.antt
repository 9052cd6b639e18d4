-- A slot of a key among the bindings.
use Rattle.std.proofs.Common.{◌≡◌, ℕ, zero, suc, ◌+◌, List, [], ◌∷◌, Bool, cond, inl, inr, ap, ◌∙◌, arith, eq-eqb, ne_eqb}
use Rattle.std.specs.Prelude.{Some}
use Rattle.clover_rule.specs.Lists.{nth, Within}
use Rattle.clover_rule.specs.Preset.{bindings_from}
use Rattle.clover_plain.specs.Preset.{AreDistinct}
use Rattle.clover_walk.specs.Walking.{key_at}

-- bindings in which a key has one slot, and a slot the key of its binding
pub record AreBindings (names : List (ℕ × List ℕ)) : Type 0 where
  pub slot : (s r : ℕ) (k : List ℕ) → Within (s, k) names → Within (r, k) names → s ≡ r
  pub key : (s : ℕ) (k : List ℕ) → Within (s, k) names → key_at names s ≡ k

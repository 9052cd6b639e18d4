-- Bindings as pairs of a slot and the bytes of its key, which is how the rule sees them.
use Rattle.std.specs.Prelude.{ℕ, List, map}
use Rattle.clover_dir.specs.declared.binding.Binding.{Binding}

-- the pair of a binding, and those of a list of them
abbrev pub pair_of : Binding → ℕ × List ℕ
pair_of b = (b.slot, b.key)

abbrev pub pairs_of : List Binding → List (ℕ × List ℕ)
pairs_of = map pair_of

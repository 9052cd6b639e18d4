-- A directory as contracts see it: the bindings in order, and the root version of each slot.
use Rattle.std.specs.Prelude.{◌≡◌, ℕ, List, [], ◌∷◌, ◌++◌, length, replicate, slice_index_or, slice_set, Option, Some, None, IsSome}
use Rattle.clover_words.specs.declared.pool.Pool.{Pool}
use Rattle.clover_words.specs.Tag.{TagParts}
use Rattle.clover_rule.specs.Lists.{Within}
use Rattle.clover_rule.specs.Names.{KeysOnce}
use Rattle.clover_rule.specs.Views.{SlotsOnce}

-- the pool, the pairs of slot and key in the order of their binding, and the root version of each slot of the pool
pub record Bindings : Type 0 where
  pub pool : Pool
  pub list : List (ℕ × List ℕ)
  pub roots : List (Option TagParts)

-- the root version of a slot; none past the last slot
abbrev pub root_of : Bindings → ℕ → Option TagParts
root_of d slot = slice_index_or d.roots slot None

-- a key is bound to the slot
abbrev pub IsBound : ℕ → Bindings → Type 0
IsBound slot d = (key : List ℕ) × Within (slot, key) d.list

-- no slot and no key stands twice, and exactly the bound slots have a root version
pub record IsDirectory (d : Bindings) : Type 0 where
  pub keys : KeysOnce d.list
  pub slots : SlotsOnce d.list
  pub sized : length d.roots ≡ d.pool.slots
  pub rooted : (slot : ℕ) → IsBound slot d → IsSome (root_of d slot)
  pub bound : (slot : ℕ) → IsSome (root_of d slot) → IsBound slot d

-- nothing is bound
abbrev pub nothing_bound : Pool → Bindings
nothing_bound p = record { pool = p; list = []; roots = replicate p.slots None }

-- the slot's root version is this one, and with a binding besides
abbrev pub with_root : Bindings → ℕ → TagParts → Bindings
with_root d slot root = record d { roots = slice_set d.roots slot (Some root) }

abbrev pub with_binding : Bindings → ℕ → List ℕ → TagParts → Bindings
with_binding d slot key root = record d { list = d.list ++ (slot, key) ∷ []; roots = slice_set d.roots slot (Some root) }

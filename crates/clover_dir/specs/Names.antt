-- A list of bindings that is looked up by key, as contracts see it.
use Rattle.std.specs.Prelude.{ℕ, ◌≤◌, List, length}
use Rattle.clover_rule.specs.Lists.{Within}
use Rattle.clover_rule.specs.Names.{KeysOnce}

-- the pairs of slot and key, in the order in which they were pushed, and how many there is room for
pub record NameList : Type 0 where
  pub list : List (ℕ × List ℕ)
  pub most : ℕ

-- no key stands twice, and there are no more than there is room for
pub record IsNameList (names : NameList) : Type 0 where
  pub once : KeysOnce names.list
  pub fits : length names.list ≤ names.most

-- no pair has the key
abbrev pub IsNew : List ℕ → List (ℕ × List ℕ) → Type 0
IsNew key list = (slot : ℕ) → Within (slot, key) list → ⊥

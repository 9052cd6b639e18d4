-- The value of a restart from its fields, and what it keeps.
use Rattle.std.specs.Prelude.{◌≤◌, List, length, drop, map}
use Rattle.clover_words.specs.declared.pool.Pool.{Pool}
use Rattle.clover_words.specs.Place.{IsWithin}
use Rattle.clover_rule.specs.Lists.{Each}
use Rattle.clover_rule.specs.Steps.{restart_word}
use Rattle.clover_rule.specs.declared.view.RestartStore.{RestartStore}
use Rattle.clover_restart.specs.Restart.{RestartState}
use Rattle.clover_restart.specs.Stores.{store_of}
use Rattle.clover_restart.specs.declared.steps.Restart.TheInside.{Inside}

-- each store is on a word of the pool
abbrev pub AreWithin : Pool → List RestartStore → Type 0
AreWithin p xs = Each (λ (x : RestartStore). IsWithin p (restart_word x)) xs

-- what is left are the stores behind those that were made
abbrev pub restart_in : Inside → RestartState
restart_in r = record { pool = r.pool; rest = map store_of (drop r.made r.stores.items); books = r.books; directory = r.directory; stores = length r.stores.items }

-- no more were made than there are, and those that are left are on words of the pool
pub record IsRestartKept (r : Inside) : Type 0 where
  pub made : r.made ≤ length r.stores.items
  pub within : AreWithin r.pool (map store_of (drop r.made r.stores.items))

-- A restart as contracts see it: what it has still to store, and what the next run begins with.
use Rattle.std.specs.Prelude.{ℕ, List}
use Rattle.clover_words.specs.declared.pool.Pool.{Pool}
use Rattle.clover_rule.specs.declared.view.RestartStore.{RestartStore}
use Rattle.clover_alloc.specs.Ledger.{Ledger}
use Rattle.clover_dir.specs.Directory.{Bindings}

-- the pool, the stores that are left in their order, the books and the directory of the next run, and how many stores there are in all
pub record RestartState : Type 0 where
  pub pool : Pool
  pub rest : List RestartStore
  pub books : Ledger
  pub directory : Bindings
  pub stores : ℕ

-- The metadata server as contracts see it.
use Rattle.std.specs.Prelude.{ℕ, Option, None}
use Rattle.clover_words.specs.declared.setup.Setup.{Setup}
use Rattle.clover_alloc.specs.Ledger.{Ledger}
use Rattle.clover_dir.specs.Directory.{Bindings}
use Rattle.clover_server.specs.declared.work.Unfinished.{Unfinished}

-- the pool and who works on it, the books, the directory, the unfinished task, and how many bindings the sweep of a want has left behind, none before it began
pub record ServerState : Type 0 where
  pub setup : Setup
  pub books : Ledger
  pub directory : Bindings
  pub task : Option Unfinished
  pub sweep : Option ℕ

-- a server that has begun nothing
abbrev pub new_server : Setup → Ledger → Bindings → ServerState
new_server setup books directory = record { setup = setup; books = books; directory = directory; task = None; sweep = None }

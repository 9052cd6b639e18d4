use Rattle.std.specs.Prelude.{false}
use Rattle.clover_rule.specs.Steps.{Restart}
use Rattle.clover_restart.specs.Stores.{store_of}
use Rattle.clover_restart.proofs.steps.Restart.step.Given as goal

abbrev pub ghosts-make_store : goal.ghosts-make_store
ghosts-make_store g a = record { step = Restart (store_of a.store.now); first = false }

use Rattle.std.specs.Prelude.{true}
use Rattle.clover_rule.specs.Steps.{StoreContent}
use Rattle.clover_plain.proofs.pool.tests.hand_and_write.Given as goal

abbrev pub ghosts-store : goal.ghosts-store
ghosts-store a = record { step = StoreContent 0 0 7; first = true }

use Rattle.std.specs.Prelude.{true}
use Rattle.clover_rule.specs.Steps.{ReadRoot}
use Rattle.clover_plain.proofs.pool.tests.read_root.Given as goal

abbrev pub ghosts-load : goal.ghosts-load
ghosts-load a = record { step = ReadRoot 0; first = true }

use Rattle.std.specs.Prelude.{◌∷◌, [], true}
use Rattle.clover_rule.specs.Steps.{StoreTombstone}
use Rattle.clover_plain.proofs.pool.tests.begin_binding.Given as goal

abbrev pub ghosts-store : goal.ghosts-store
ghosts-store a = record { step = StoreTombstone (record { slot = 0; key = 97 ∷ []; tag = 1048576 }); first = true }

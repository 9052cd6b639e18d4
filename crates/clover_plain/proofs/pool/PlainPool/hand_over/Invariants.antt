use Rattle.std.specs.Prelude.{cond}
use Rattle.clover_rule.specs.Moves.{given, giving}
use Rattle.clover_dir.specs.Bindings.{pairs_of}
use Rattle.clover_plain.specs.Handing.{numbers_of}
use Rattle.clover_plain.proofs.pool.PlainPool.hand_over.Given as goal

abbrev pub ghosts-hand_view : goal.ghosts-hand_view
ghosts-hand_view a = record { becomes = λ v. cond a.serving (giving (numbers_of a.batch.now) v) (given (numbers_of a.batch.now) (pairs_of a.names.now) v) }

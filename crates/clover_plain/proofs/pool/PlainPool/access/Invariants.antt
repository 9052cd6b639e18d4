use Rattle.std.proofs.Common.{◌++◌}
use Rattle.clover_rule.specs.Rule.{longest}
use Rattle.clover_rule.specs.Learned.{next_view}
use Rattle.clover_plain.specs.Kept.{views_of}
use Rattle.clover_plain.proofs.pool.PlainPool.access.Given as goal

abbrev pub ghosts-set_view : goal.ghosts-set_view
ghosts-set_view g a = record { becomes = λ v. next_view g.M.StepName.first g.M.StepName.step (longest (views_of a.seats.now.items ++ a.begun.now.me.0.views)) v a.found }

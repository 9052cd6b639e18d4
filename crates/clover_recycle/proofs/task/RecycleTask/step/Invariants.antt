use Rattle.std.specs.Prelude.{false}
use Rattle.clover_recycle.specs.Recycling.{recycle_step}
use Rattle.clover_recycle.proofs.task.RecycleTask.step.Given as goal

abbrev pub ghosts-access : goal.ghosts-access
ghosts-access g a = record { step = recycle_step a.task.now; first = false }

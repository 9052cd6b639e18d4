use Rattle.std.specs.Prelude.{false}
use Rattle.clover_dir.specs.Task.{bind_step}
use Rattle.clover_dir.proofs.task.BindTask.step.Given as goal

abbrev pub ghosts-access : goal.ghosts-access
ghosts-access g a = record { step = bind_step a.task.now a.directory.now; first = false }

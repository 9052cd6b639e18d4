use Rattle.clover_walk.specs.Walking.{walk_step}
use Rattle.clover_walk.proofs.walk.Walk.step.Given as goal

abbrev pub ghosts-access : goal.ghosts-access
ghosts-access g a = record { step = walk_step a.walk.now; first = a.walk.now.first }

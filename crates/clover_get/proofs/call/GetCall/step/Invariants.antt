use Rattle.clover_get.specs.Getting.{get_step}
use Rattle.clover_get.specs.Going.{key_of}
use Rattle.clover_get.proofs.call.GetCall.step.Given as goal

abbrev pub ghosts-access : goal.ghosts-access
ghosts-access g a = record { step = get_step a.call.now (key_of a.call.now (g.P.Port.view a.port.now)) a.into.now; first = a.call.now.walk.first }

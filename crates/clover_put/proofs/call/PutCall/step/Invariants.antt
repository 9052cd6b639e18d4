use Rattle.clover_put.specs.Putting.{put_step}
use Rattle.clover_put.proofs.call.PutCall.step.Given as goal

abbrev pub ghosts-access : goal.ghosts-access
ghosts-access g a = record { step = put_step a.call.now (g.P.Port.view a.port.now); first = a.call.now.walk.first }

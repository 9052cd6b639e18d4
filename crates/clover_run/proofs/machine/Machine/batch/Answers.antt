use Rattle.std.proofs.Common.{ap, ◌∙◌}
use Rattle.clover_run.specs.Machine.{Parts}
use Rattle.clover_run.specs.declared.served.Served.{Served}
use Rattle.clover_run.proofs.Pasts.{served_more}
use Rattle.clover_run.proofs.machine.Machine.batch.Goals as goal

pub returns : goal.returns
returns c = λ o rs r at. ap (λ (m : Parts). m.served.batch) c.self.view_is ∙ ap (λ (v : Served). v.batch) (at.served ∙ served_more o.served rs r)

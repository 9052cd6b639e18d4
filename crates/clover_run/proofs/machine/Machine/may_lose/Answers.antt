use Rattle.std.proofs.Common.{◌≡◌, true, ap, ◌∙◌, subst}
use Rattle.clover_plain.specs.Plain.{Running}
use Rattle.clover_run.specs.Kept.{meaning}
use Rattle.clover_run.specs.Machine.{Parts}
use Rattle.clover_run.proofs.Lost.{may_leave}
use Rattle.clover_run.proofs.machine.Machine.may_lose.Goals as goal

pub returns : goal.returns
returns c o rs at image cut =
    let opened : (meaning c.self.inside).pool.opened ≡ true = ap (λ (m : Parts). m.pool.opened) c.self.view_is ∙ at.pool.opened in
    may_leave o rs c.args.self.now at (subst (λ (m : Parts). Running m.pool) c.self.view_is (c.stands.ensures.running opened)) image cut

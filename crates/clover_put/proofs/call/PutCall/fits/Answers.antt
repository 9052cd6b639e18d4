use Rattle.std.proofs.Common.{◌+◌, ◌≤◌, length, subst, arith}
use Rattle.clover_put.specs.Putting.{Putting, body}
use Rattle.clover_put.proofs.Body.{body_fits}
use Rattle.clover_put.proofs.call.PutCall.fits.Goals as goal

pub returns : goal.returns
returns c =
    let i = c.self.inside in
    let least = body_fits i.walk.pool i.job _ c.self.invariant.fits in
    subst (λ (p : Putting). length (body p) ≤ p.walk.pool.words + 1) c.self.view_is (omega arith)

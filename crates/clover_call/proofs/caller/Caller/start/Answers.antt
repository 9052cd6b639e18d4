use Rattle.std.proofs.Common.{sym, subst}
use Rattle.clover_call.specs.Beginning.{Starts, given_number}
use Rattle.clover_call.specs.Caller.{CallerState}
use Rattle.clover_call.proofs.Begins.{starts}
use Rattle.clover_call.proofs.caller.Caller.start.Goals as goal

pub returns-clause-started : goal.returns-clause-started
returns-clause-started c =
    let h = starts c.args.self.now _ c.args.slot (given_number c.args.own) c.args.call.now c.walk-walk.result _ c.walk-walk.ensures.walk c.walk-walk.ensures.asked c.call_on.ensures in
    subst (λ (z : CallerState). Starts c.args.self.now c.args.slot (given_number c.args.own) c.args.call.now z) (sym c.place.ensures) h

use Rattle.std.proofs.Common.{sym, ap, subst}
use Rattle.clover_map.specs.declared.call.Call.TheVariants.{Get as GetOf}
use Rattle.clover_call.specs.Beginning.{Starts}
use Rattle.clover_call.specs.Caller.{CallerState}
use Rattle.clover_call.specs.declared.under.Underway.TheVariants.{Get}
use Rattle.clover_call.proofs.Begins.{starts}
use Rattle.clover_call.proofs.caller.Caller.start_get.Goals as goal

pub returns : goal.returns
returns c = λ key.
    let h = starts c.args.self.now _ c.args.slot 0 (GetOf key) c.walk-walk.result _ c.walk-walk.ensures.walk c.walk-walk.ensures.asked (ap (λ g. Get g) c.make.ensures.value) in
    subst (λ (z : CallerState). Starts c.args.self.now c.args.slot 0 (GetOf key) z) (sym c.place_get.ensures) h

use Rattle.std.proofs.Common.{◌≡◌, true, false, refl, sym, subst}
use Rattle.clover_map.specs.declared.call.Call.{Call}
use Rattle.clover_server.specs.declared.turn.ServerTurn.TheVariants.{Ready}
use Rattle.clover_run.specs.Serving.{Serves, Telling}
use Rattle.clover_run.specs.declared.want.Want.{Want}
use Rattle.clover_run.specs.declared.want.Want.TheVariants.{Names}
use Rattle.clover_run.proofs.ServerTells.{binds_so, ready_so}
use Rattle.clover_run.proofs.served.step_for.Goals as goal

pub returns-in-Put-clause-serves : goal.returns-in-Put-clause-serves
returns-in-Put-clause-serves g c =
    let P = g.P.Port in let p = c.args.port.now in let q = c.bind_step.new.port in
    let s = c.args.server.now in let n = c.bind_step.new.self in let r = c.bind_step.result in
    let t : Telling = record { made = λ a x. P.made p a false x q; failed = P.failed p q; still = q ≡ p } in
    subst (λ (w : Want). Serves w c.args.call.now s n r t) (sym c.in-Names.is)
    (subst (λ (k : Call). Serves Names k s n r t) (sym c.in-Put.is) (binds_so s n r t _ c.bind_step.ensures.finishes c.bind_step.ensures.step))

pub returns-in_default-2 : goal.returns-in_default-2
returns-in_default-2 g c =
    let P = g.P.Port in let p = c.args.port.now in
    let s = c.args.server.now in let n = c.end_want.new.self in
    let t : Telling = record { made = λ a x. P.made p a false x p; failed = P.failed p p; still = p ≡ p } in
    record {
      serves = subst (λ (w : Want). Serves w c.args.call.now s n Ready t) (sym c.in-Names.is)
          (ready_so s n Ready t c.args.call.now c.in_default-2.not-Put (λ some. let z : false ≡ true = c.if-unfinished.ensures.1 some in cc) refl c.end_want.ensures.value refl);
      lowers = tt;
      agrees = c.end_want.ensures.agrees _ _ c.requires.agrees;
    }

use Rattle.std.proofs.Common.{sym, ap, subst}
use Rattle.clover_words.specs.Tag.{tag_number}
use Rattle.clover_map.specs.declared.bytes.Value.{Value}
use Rattle.clover_put.specs.Putting.{call_of}
use Rattle.clover_call.specs.Beginning.{Starts}
use Rattle.clover_call.specs.Caller.{CallerState}
use Rattle.clover_call.specs.declared.under.Underway.TheVariants.{Write}
use Rattle.clover_call.proofs.Begins.{starts, begun_write}
use Rattle.clover_call.proofs.caller.Caller.start_write.Goals as goal

pub returns : goal.returns
returns c = λ key.
    let value : Value = record { flags = c.args.flags; bytes = c.args.bytes.now } in
    let begun = begun_write c.walk-walk.result c.args.job (tag_number c.args.own) key value _ c.requires.delete (ap (λ p. Write p) c.in-Ok.ensures.made) in
    let own = tag_number c.args.own in let call = call_of c.args.job key value in
    let h = starts c.args.self.now _ c.args.slot own call c.walk-walk.result _ c.walk-walk.ensures.walk c.walk-walk.ensures.asked begun in
    subst (λ (z : CallerState). Starts c.args.self.now c.args.slot own call z) (sym c.place_write.ensures) h

use Rattle.std.proofs.Common.{◌≢◌, sym, ◌∙◌, arith, below_more}
use Rattle.clover_image.proofs.Decoding.{key_is}
use Rattle.clover_restart.proofs.key.spelled_in.Goals as goal

pub loop-place-preserved : goal.loop-place-preserved
loop-place-preserved c =
    let w = rw c.unwrap-word.ensures at c.get.ensures.some in
    below_more _ _ (λ j h. let ne : j ≢ c.loop-place.place = omega arith in c.unpack.ensures.kept j ne ∙ c.loop-place.invariant j h)
    (c.unpack.ensures.packs ∙ w.1 ∙ sym (key_is c.args.image.now c.args.slot c.loop-place.place c.requires.slot (omega arith)))

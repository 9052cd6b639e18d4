use Rattle.std.proofs.Common.{◌≢◌, sym, ◌∙◌, arith, below_more}
use Rattle.clover_image.proofs.Decoding.{key_is}
use Rattle.clover_image.proofs.content.key_words.Goals as goal

pub loop-k-preserved : goal.loop-k-preserved
loop-k-preserved c =
    let said = c.in_ok-get.ensures.some in (
      λ some. said.0.0.0,
      below_more _ _ (λ j h. let ne : j ≢ c.loop-k.k = omega arith in c.unpack.ensures.kept j ne ∙ c.loop-k.invariant.1 j h)
          (c.unpack.ensures.packs ∙ said.1 ∙ sym (key_is c.args.image.now c.args.slot c.loop-k.k said.0.0.0 said.0.0.1)),
    )

use Rattle.std.proofs.Common.{sym, ◌∙◌, refl, subst}
use Rattle.std.specs.Prelude.{IsSome}
use Rattle.clover_image.proofs.Decoding.{next_decodes, next_read}
use Rattle.clover_restart.proofs.reading.next_in.Goals as goal

pub unwrap-requires : goal.unwrap-requires
unwrap-requires c =
    let d = next_decodes c.args.image.now c.requires.sound c.args.buffer c.requires.within in
    let w = rw c.unwrap-word.ensures at c.get.ensures.some in
    subst IsSome (sym (c.decode.ensures.only d.0 d.1 (d.2 ∙ sym w.1))) refl

pub returns : goal.returns
returns c =
    let w = rw c.unwrap-word.ensures at c.get.ensures.some in
    let n = rw c.unwrap.ensures at c.decode.ensures.found in
    next_read c.args.image.now c.requires.sound c.args.buffer c.unwrap.result c.requires.within n.0 (n.1 ∙ w.1)

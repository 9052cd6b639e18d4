use Rattle.std.proofs.Common.{sym, ◌∙◌, refl, subst}
use Rattle.std.specs.Prelude.{IsSome}
use Rattle.clover_image.proofs.Decoding.{root_decodes}
use Rattle.clover_restart.proofs.reading.root_in.Goals as goal

pub unwrap-requires : goal.unwrap-requires
unwrap-requires c =
    let d = root_decodes c.args.image.now c.requires.sound c.args.slot c.requires.slot in
    let w = rw c.unwrap-word.ensures at c.get.ensures.some in
    subst IsSome (sym (c.root_decode.ensures.only d.0 d.1 (d.2 ∙ sym w.1))) refl

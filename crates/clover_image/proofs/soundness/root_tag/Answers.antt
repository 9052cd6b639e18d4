use Rattle.clover_rule.proofs.Codecs.{shown_root}
use Rattle.clover_words.specs.declared.word.Word.TheVariants.{Root}
use Rattle.clover_image.specs.Reading.{number_in}
use Rattle.clover_image.proofs.soundness.root_tag.Goals as goal

pub returns-in_err-root_of-clause-value : goal.returns-in_err-root_of-clause-value
returns-in_err-root_of-clause-value c =
    let m = c.args.image.now in let d = shown_root m.pool c.args.slot (number_in m (Root c.args.slot)) c.requires.root.shown in
    absurd (let q = c.in_err-root_of.ensures.only d.0 c.requires.slot d.1 d.2 in cc)

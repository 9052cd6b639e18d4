use Rattle.std.proofs.Common.{◌<◌, ◌∙◌, ap, sym, subst}
use Rattle.clover_words.specs.Tag.{TagParts, tag_number, age}
use Rattle.clover_recycle.specs.Recycling.{RecycleState}
use Rattle.clover_recycle.proofs.Going.{goes_on-root}
use Rattle.clover_recycle.proofs.tests.goes.Goals as goal

pub returns-clause-serves : goal.returns-clause-serves
returns-clause-serves c =
    let root = ap (λ (z : RecycleState). z.root) c.on-turn.ensures.value ∙ goes_on-root c.args.task.now c.args.found in
    subst (λ (t : TagParts). age (tag_number t) < 1048575) (sym root) c.requires.serves

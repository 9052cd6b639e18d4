use Rattle.std.proofs.Common.{◌+◌, ap, ◌∙◌, subst, sym}
use Rattle.std.specs.Prelude.{None}
use Rattle.clover_words.specs.Tag.{TagParts, IsTag}
use Rattle.clover_words.specs.Next.{IsNext, next_word}
use Rattle.clover_recycle.proofs.Going.{moved_on_is, moved_on_fits}
use Rattle.clover_recycle.proofs.task.moved_on.Goals as goal

pub returns : goal.returns
returns c =
    c.encode.ensures.value
    ∙ ap (λ (t : TagParts). next_word (record { own = t.generation + 1; link = None })) c.tag.view_is
    ∙ moved_on_is c.args.tag (subst IsTag c.tag.view_is c.tag.invariant)

pub invariant_of-next : goal.invariant_of-next
invariant_of-next c = subst (λ (t : TagParts). IsNext (record { own = t.generation + 1; link = None })) (sym c.tag.view_is) (moved_on_fits c.args.tag (subst IsTag c.tag.view_is c.tag.invariant) c.requires)

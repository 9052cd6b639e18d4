use Rattle.std.proofs.Common.{ap, sym, ◌∙◌, subst}
use Rattle.std.specs.Prelude.{Some}
use Rattle.clover_words.specs.Next.{next_word}
use Rattle.clover_words.specs.Tag.{TagParts, IsTag}
use Rattle.clover_words.proofs.Versions.{linked_is}
use Rattle.clover_words.proofs.tag.Tag.linked.Goals as goal

pub returns : goal.returns
returns c = record {
  value = c.encode.ensures.value ∙ ap (λ (t : TagParts). next_word (record { own = t.generation; link = Some c.args.to })) c.self.view_is
      ∙ sym (linked_is c.args.self c.args.to (subst IsTag c.self.view_is c.self.invariant));
}

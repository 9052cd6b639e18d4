use Rattle.std.proofs.Common.{sym, ◌∙◌, ap, subst}
use Rattle.std.specs.Prelude.{None}
use Rattle.clover_words.specs.Next.{next_word}
use Rattle.clover_words.specs.Tag.{TagParts, IsTag}
use Rattle.clover_words.proofs.Versions.{unlinked_is}
use Rattle.clover_words.proofs.tag.Tag.unlinked.Goals as goal

pub returns : goal.returns
returns c = record {
  value = c.encode.ensures.value ∙ ap (λ (t : TagParts). next_word (record { own = t.generation; link = None })) c.self.view_is
      ∙ sym (unlinked_is c.args.self (subst IsTag c.self.view_is c.self.invariant));
}

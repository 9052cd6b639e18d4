use Rattle.std.proofs.Common.{sym, ◌∙◌, ap, subst}
use Rattle.clover_words.specs.declared.word.Buffer.{Buffer}
use Rattle.clover_words.specs.Tag.{TagParts, IsTag}
use Rattle.clover_words.proofs.Versions.{buffer_tag}
use Rattle.clover_words.proofs.tag.Tag.buffer.Goals as goal

buffer_part : TagParts → Buffer
buffer_part t = record { node = t.node; index = t.index }

pub returns : goal.returns
unfolding buffer_part
returns c = record { value = ap buffer_part c.self.view_is ∙ sym (buffer_tag c.args.self (subst IsTag c.self.view_is c.self.invariant)) }

use Rattle.std.proofs.Common.{ap, sym, ◌∙◌}
use Rattle.clover_words.specs.Tag.{tag_number}
use Rattle.clover_get.specs.Getting.{Getting}
use Rattle.clover_get.specs.Standing.{standing}
use Rattle.clover_get.proofs.call.GetCall.copied.Goals as goal

pub returns-in-AtFound-clause-some : goal.returns-in-AtFound-clause-some
returns-in-AtFound-clause-some c =
    (tag_number (c.in-AtFound.tag), ap (λ (y : Getting). y.stage) (sym c.self.view_is) ∙ ap standing c.in-AtFound.is)

use Rattle.std.proofs.Common.{length, sym, ap, ◌∙◌}
use Rattle.clover_plain.proofs.Blanks.{length_numbers}
use Rattle.clover_plain.proofs.blank.Blank.len.Goals as goal

pub returns : goal.returns
returns c = sym (length_numbers c.self.inside.banks.items c.self.inside.size) ∙ ap length c.self.view_is

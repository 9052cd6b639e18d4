use Rattle.std.proofs.Common.{ℕ, List, ap, ◌∙◌}
use Rattle.clover_plain.specs.Blank.{numbers_of}
use Rattle.clover_plain.proofs.Blanks.{all_zero}
use Rattle.clover_plain.proofs.blank.Blank.make.Goals as goal

pub returns : goal.returns
returns c = ap (λ (l : List (List ℕ)). numbers_of l c.args.size) c.in_ok-banks.ensures ∙ all_zero _ c.args.size

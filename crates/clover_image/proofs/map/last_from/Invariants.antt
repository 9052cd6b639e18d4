use Rattle.std.proofs.Common.{List, ℕ, Some}
use Rattle.clover_words.specs.Tag.{tag_number}
use Rattle.clover_rule.specs.Cut.{IsSound}
use Rattle.clover_rule.specs.Content.{InRange}
use Rattle.clover_rule.specs.Image.{Chain}
use Rattle.clover_rule.specs.Lists.{Each}
use Rattle.clover_image.specs.Reading.{decoded}
use Rattle.clover_image.proofs.Tails.{IsReached}
use Rattle.clover_image.proofs.map.last_from.Given as goal

abbrev pub invariant-loop-steps : goal.invariant-loop-steps
invariant-loop-steps l =
    IsSound l.image.pool l.image.words → (tags : List ℕ) → Chain (decoded l.image) (Some (tag_number l.fn.root)) tags → Each (InRange l.image.pool) tags
    → IsReached (decoded l.image) tags l._steps (tag_number l.last)

use Rattle.std.proofs.Common.{◌≡◌, ◌++◌, ◌-◌, length}
use Rattle.clover_image.specs.Choosing.{taken}
use Rattle.clover_image.proofs.choosing.one_side.Given as goal

-- what stands there and what is still to come are all words
abbrev pub invariant-loop-at : goal.invariant-loop-at
invariant-loop-at g l = (l.kept.items ++ taken (λ _. l.current) l.pool (g.W.PoolWords.numbers l.words) l.at (l.count - l.at) ≡ taken (λ _. l.current) l.pool (g.W.PoolWords.numbers l.words) 0 l.count) × (length l.kept.items ≡ l.at)

use Rattle.std.proofs.Common.{take}
use Rattle.clover_image.proofs.Copies.{TakenSoFar}
use Rattle.clover_image.proofs.choosing.by_names.Given as goal

-- each word is the copy that the names so far take
abbrev pub invariant-loop-name : goal.invariant-loop-name
invariant-loop-name g l = TakenSoFar l.fn.pool (take l.name-index l.names) (g.W.PoolWords.numbers l.words) l.image

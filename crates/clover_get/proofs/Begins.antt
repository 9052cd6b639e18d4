-- What a get stands on before its first access: what its walk stands on, and no more.
use Rattle.std.proofs.Common.{◌≡◌, ◌≤◌, Bool, true, cond, length, sym, subst, arith}
use Rattle.clover_words.specs.declared.bytes.ValueBuf.{ValueBuf}
use Rattle.clover_rule.specs.declared.view.View.{View}
use Rattle.clover_walk.specs.Walking.{Walking, IsOnWay, Holds}
use Rattle.clover_get.specs.Getting.{Seeking, getting}
use Rattle.clover_get.specs.Holding.{GetHolds, most}

-- the room may hold anything, and so may the accesses of the actor's call before
pub get_begins : (w : Walking) (v : View) (into : ValueBuf) → w.first ≡ true → IsOnWay w.stand → Holds w v → GetHolds (getting w Seeking) v into
get_begins w v into first way h = record { walk = h; stage = way; bound = subst (λ (b : Bool). cond b 0 (length v.pass.since) ≤ most (getting w Seeking)) (sym first) (omega arith) }

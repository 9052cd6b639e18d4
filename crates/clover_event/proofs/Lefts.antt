-- How many accesses a get makes in a turn, and that a call that makes an access has less left to make.
use Rattle.std.proofs.Common.{◌≡◌, ◌≢◌, ◌+◌, ◌-◌, ◌/◌, ◌≤◌, ◌<◌, suc, length, refl, arith}
use Rattle.clover_words.specs.declared.bytes.ValueBuf.{ValueBuf}
use Rattle.clover_words.specs.declared.pool.Pool.{Pool}
use Rattle.clover_rule.specs.declared.view.View.{View}
use Rattle.clover_walk.specs.Walking.{Walking}
use Rattle.clover_walk.proofs.Calling.{since_few as walk_few}
use Rattle.clover_get.specs.Getting.{Stage as GetStage, Seeking as GetSeeking, AtMeta as GetMeta, AtValue, AtFound, AtDead as GetDead, AtBad as GetBad, Over as GetOver}
use Rattle.clover_get.specs.Holding.{StandsOn, copied}
use Rattle.clover_call.specs.declared.under.Underway.{Underway}
use Rattle.clover_call.specs.declared.under.Underway.TheVariants.{Nothing, Get, Write}

-- the accesses of a get since its last turn
pub copied_few : (s : GetStage) (w : Walking) (v : View) (into : ValueBuf) → StandsOn s w v into → copied s w.stand w.pool.words ≤ 5 + w.pool.words
copied_few GetSeeking w v into h = let l = walk_few w.stand in omega arith
copied_few (GetMeta t) w v into h = omega arith
copied_few (AtValue t f j) w v into h = let a : j < (into.length + 7) / 8 = h.1 in let b = h.2.size in omega arith
copied_few (AtFound t f) w v into h = omega arith
copied_few (GetDead t) w v into h = omega arith
copied_few (GetBad t) w v into h = omega arith
copied_few GetOver w v into h = absurd h

-- How a get goes on: what stays of it, and which accesses do not end it.
use Rattle.std.proofs.Common.{◌≡◌, ◌≢◌, ℕ, ◌==◌, List, Bool, true, false, cond, refl, sym, subst}
use Rattle.clover_words.specs.declared.bytes.ValueBuf.{ValueBuf}
use Rattle.clover_words.specs.Version.{unlinked}
use Rattle.clover_rule.specs.Learned.{turn_of}
use Rattle.clover_rule.specs.declared.view.View.{View}
use Rattle.clover_walk.specs.Walking.{Walking, Stand, OnTail, Ended as StandEnded, IsOnWay, goes_from, goes_on}
use Rattle.clover_get.specs.Getting.{Getting, Stage, Seeking, AtMeta, AtValue, AtFound, AtDead, AtBad, Over, IsOpen, getting, sought, step_from, GoesFrom}
use Rattle.clover_get.specs.Holding.{StandsOn}
use Rattle.clover_walk.proofs.Calling.{by_way}
use Rattle.clover_call.proofs.Walks.{on_walk}

-- a last load shows the tag not unlinked
abbrev pub Misses : Stage → ℕ → Type 0
Misses (AtFound t f) x = (x == unlinked t) ≡ false
Misses (AtDead t) x = (x == unlinked t) ≡ false
Misses s x = Unit {0}

-- the walk is on the same slot of the same pool, and its call has made an access
pub record Goes (w w1 : Walking) : Type 0 where
  pub pool : w1.pool ≡ w.pool
  pub slot : w1.slot ≡ w.slot
  pub first : w1.first ≡ false

-- the walk has not ended
abbrev Stays : Stand → Type 0
Stays StandEnded = ⊥
Stays at = Unit {0}

walk_goes : (at : Stand) (w : Walking) (x : ℕ) → Stays at → Goes w (goes_from at w x)
walk_goes at w x h = let k = on_walk at w x in record { pool = k.pool; slot = k.slot; first = k.first (λ (e : at ≡ StandEnded). absurd (subst Stays e h)) }

way_stays : (at : Stand) → IsOnWay at → Stays at
way_stays at h = by_way Stays at h tt tt (λ t. tt) (λ t u. tt)

tail_goes : (w : Walking) (t x : ℕ) → w.stand ≡ OnTail t → Goes w (goes_on w x)
tail_goes w t x e = walk_goes w.stand w x (subst Stays (sym e) tt)

last_goes : (b : Bool) (w : Walking) (t x : ℕ) (g1 : Getting) → w.stand ≡ OnTail t → w.first ≡ false → g1 ≡ cond b (getting w Over) (sought (goes_on w x)) → Goes w g1.walk
last_goes true w t x g1 at first e = subst (λ (g : Getting). Goes w g.walk) (sym e) (record { pool = refl; slot = refl; first = first })
last_goes false w t x g1 at first e = subst (λ (g : Getting). Goes w g.walk) (sym e) (tail_goes w t x at)

-- a get that goes on does so on its slot
pub goes : (s : Stage) (w : Walking) (v : View) (into : ValueBuf) (size x : ℕ) (g1 : Getting) → StandsOn s w v into → GoesFrom s w size x g1 → Goes w g1.walk
goes Seeking w v into size x g1 h e = subst (λ (g : Getting). Goes w g.walk) (sym e) (walk_goes w.stand w x (way_stays w.stand h))
goes (AtMeta t) w v into size x g1 h (m, r, e) = subst (λ (g : Getting). Goes w g.walk) (sym e) (record { pool = refl; slot = refl; first = h.1 })
goes (AtValue t f j) w v into size x g1 h e = subst (λ (g : Getting). Goes w g.walk) (sym e) (record { pool = refl; slot = refl; first = h.0.1 })
goes (AtFound t f) w v into size x g1 h e = last_goes (x == unlinked t) w t x g1 h.0.0 h.0.1 e
goes (AtDead t) w v into size x g1 h e = last_goes (x == unlinked t) w t x g1 h.0.0 h.0.1 e
goes (AtBad t) w v into size x g1 h e = subst (λ (g : Getting). Goes w g.walk) (sym e) (tail_goes w t x h.0.0)
goes Over w v into size x g1 h e = absurd h

open_misses : (b : Bool) (w : Walking) (x : ℕ) (g1 : Getting) → g1 ≡ cond b (getting w Over) (sought (goes_on w x)) → IsOpen g1.stage → b ≡ false
open_misses true w x g1 e h = absurd (subst (λ (g : Getting). IsOpen g.stage) e h)
open_misses false w x g1 e h = refl

-- a get that goes on was not decided
pub going_misses : (s : Stage) (w : Walking) (size x : ℕ) (g1 : Getting) → GoesFrom s w size x g1 → IsOpen g1.stage → Misses s x
going_misses Seeking w size x g1 e h = tt
going_misses (AtMeta t) w size x g1 e h = tt
going_misses (AtValue t f j) w size x g1 e h = tt
going_misses (AtFound t f) w size x g1 e h = open_misses (x == unlinked t) w x g1 e h
going_misses (AtDead t) w size x g1 e h = open_misses (x == unlinked t) w x g1 e h
going_misses (AtBad t) w size x g1 e h = tt
going_misses Over w size x g1 e h = tt

pub turn_misses : (b : Bool) (n : ℕ) → n ≡ cond b 0 1 → n ≢ 0 → b ≡ false
turn_misses true n e h = absurd (h e)
turn_misses false n e h = refl

-- nor was one that made a turn
pub turning_misses : (s : Stage) (w : Walking) (k : List ℕ) (into : ValueBuf) (x : ℕ) → turn_of (step_from s w k into) x ≢ 0 → Misses s x
turning_misses Seeking w k into x h = tt
turning_misses (AtMeta t) w k into x h = tt
turning_misses (AtValue t f j) w k into x h = tt
turning_misses (AtFound t f) w k into x h = turn_misses (x == unlinked t) _ refl h
turning_misses (AtDead t) w k into x h = turn_misses (x == unlinked t) _ refl h
turning_misses (AtBad t) w k into x h = tt
turning_misses Over w k into x h = tt

-- a get that holds what it stands on goes on
pub holding_open : (s : Stage) (w : Walking) (v : View) (into : ValueBuf) → StandsOn s w v into → IsOpen s
holding_open Seeking w v into h = tt
holding_open (AtMeta t) w v into h = tt
holding_open (AtValue t f j) w v into h = tt
holding_open (AtFound t f) w v into h = tt
holding_open (AtDead t) w v into h = tt
holding_open (AtBad t) w v into h = tt
holding_open Over w v into h = absurd h

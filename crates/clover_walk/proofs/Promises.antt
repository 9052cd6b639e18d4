-- What holds where a walk has gone on, with a turn and without one.
use Rattle.std.proofs.Common.{◌≡◌, ◌≢◌, ℕ, suc, ◌<◌, Bool, true, false, cond, ltb, refl, ◌∙◌, arith}
use Rattle.std.proofs.lemmas.Bool.Decides.{nat_tests}
use Rattle.clover_words.specs.Tag.{tag_number}
use Rattle.clover_rule.specs.Lists.{Within}
use Rattle.clover_rule.specs.Steps.{IsClient}
use Rattle.clover_rule.specs.declared.view.View.{View}
use Rattle.clover_walk.specs.Walking.{Walking, Stand, AtShort, AtRoot, AtTag, AtLink, OnTail, Ended, IsOnWay, StandsOn, Holds, placed, turned, budget, key_at}
use Rattle.clover_walk.specs.Turning.{Answers, OnAhead, OnGoing, IfBehind}
use Rattle.clover_walk.specs.declared.turn.Turn.{Turn}
use Rattle.clover_walk.specs.declared.turn.Turn.TheVariants.{More, AtTail, Behind, Unreached}
use Rattle.clover_walk.specs.declared.start.Start.{Start}

-- what the view says of the walk before it has gone on, the turns aside
pub record Knows (w : Walking) (v : View) : Type 0 where
  pub pool : v.pass.pool ≡ w.pool
  pub client : IsClient v
  pub named : Within (w.slot, key_at v.pass.names w.slot) v.pass.names
  pub below : w.turns < budget w.pool

-- what holds of the walk n after an access with this answer
pub record Promises (w : Walking) (v : View) (n : Walking) (r : Turn) : Type 0 where
  pub stands : OnGoing r (Holds n v)
  pub behind : IfBehind r (λ (k : ℕ). (k ≡ budget w.pool) × (v.pass.turns ≡ budget w.pool))
  pub ahead : OnAhead r (v.pass.turns < budget w.pool)

-- a walk that stands on something has not ended
pub not_ended : (s : ℕ) (at : Stand) (v : View) → StandsOn s at v → at ≢ Ended
not_ended s AtShort v h e = absurd cc
not_ended s AtRoot v h e = absurd cc
not_ended s (AtTag t) v h e = absurd cc
not_ended s (AtLink t u) v h e = absurd cc
not_ended s (OnTail t) v h e = absurd cc
not_ended s Ended v h e = h

not_tail : (at : Stand) (t : ℕ) → IsOnWay at → at ≢ OnTail t
not_tail AtShort t h e = absurd cc
not_tail AtRoot t h e = absurd cc
not_tail (AtTag u) t h e = absurd cc
not_tail (AtLink u x) t h e = absurd cc
not_tail (OnTail u) t h e = h
not_tail Ended t h e = h

pub placed_holds : (w : Walking) (v : View) (at : Stand) → Knows w v → StandsOn w.slot at v → v.pass.turns ≡ w.turns → Holds (placed w at) v
placed_holds w v at k on e = record { pool = k.pool; client = k.client; named = k.named; stand = on; turns = e; below = k.below }

pub placed_promises : (w : Walking) (v : View) (at : Stand) (r : Turn) → Knows w v → StandsOn w.slot at v → v.pass.turns ≡ w.turns → Answers (placed w at) r → Promises w v (placed w at) r
placed_promises w v at More k on e a = record { stands = placed_holds w v at k on e; behind = tt; ahead = let b = k.below in omega arith }
placed_promises w v at (AtTail t) k on e a = record { stands = placed_holds w v at k on e; behind = tt; ahead = let b = k.below in omega arith }
placed_promises w v at (Behind n) k on e a = absurd (not_ended w.slot at v on a.0)
placed_promises w v at Unreached k on e a = absurd a

-- the walk after a turn, by whether its turns are below the budget
abbrev pub turned_by : Walking → Start → Stand → Bool → Walking
turned_by w f at b = record w { turns = suc w.turns; first = false; start = f; stand = cond b at Ended }

turned_cases : (w : Walking) (v : View) (f : Start) (at : Stand) (b : Bool) (r : Turn) → ltb (suc w.turns) (budget w.pool) ≡ b → Knows w v → IsOnWay at → StandsOn w.slot at v → v.pass.turns ≡ suc w.turns → Answers (turned_by w f at b) r → Promises w v (turned_by w f at b) r
turned_cases w v f at true More q k way on e a = let less : suc w.turns < budget w.pool = grind (arith, nat_tests) in record { stands = record { pool = k.pool; client = k.client; named = k.named; stand = on; turns = e; below = less }; behind = tt; ahead = omega arith }
turned_cases w v f at true (AtTail t) q k way on e a = absurd (not_tail at (tag_number t) way a)
turned_cases w v f at true (Behind n) q k way on e a = absurd (not_ended w.slot at v on a.0)
turned_cases w v f at true Unreached q k way on e a = absurd a
turned_cases w v f at false More q k way on e a = absurd a
turned_cases w v f at false (AtTail t) q k way on e a = absurd (let z : ◌≡◌ {A = Stand} Ended (OnTail (tag_number t)) = a in cc)
turned_cases w v f at false (Behind n) q k way on e a = let b = k.below in let full : suc w.turns ≡ budget w.pool = grind (arith, nat_tests) in record { stands = tt; behind = (a.1 ∙ full, e ∙ full); ahead = tt }
turned_cases w v f at false Unreached q k way on e a = absurd a

pub turned_promises : (w : Walking) (v : View) (f : Start) (at : Stand) (r : Turn) → Knows w v → IsOnWay at → StandsOn w.slot at v → v.pass.turns ≡ suc w.turns → Answers (turned w f at) r → Promises w v (turned w f at) r
turned_promises w v f at r k way on e a = turned_cases w v f at (ltb (suc w.turns) (budget w.pool)) r refl k way on e a

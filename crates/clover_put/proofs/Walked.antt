-- What a step of a put says where its walk has gone on.
use Prim.Native.Nat.{suc}
use Rattle.std.proofs.Common.{◌≡◌, ◌≢◌, ℕ, ◌+◌, ◌*◌, ◌≤◌, List, ◌∷◌, length, Bool, true, false, cond, eqb, refl, sym, ap, ◌∙◌, arith, subst, eqb-true}
use Rattle.std.specs.Prelude.{Option, Some, None}
use Rattle.clover_words.specs.declared.pool.Pool.{Pool}
use Rattle.clover_words.specs.Tag.{tag_number, age}
use Rattle.clover_words.specs.Version.{unlinked}
use Rattle.clover_port.specs.Told.{Open}
use Rattle.clover_rule.specs.Accesses.{SawFor}
use Rattle.clover_rule.specs.Content.{InRange}
use Rattle.clover_rule.specs.Memory.{Next, word}
use Rattle.clover_rule.specs.Asks.{MayCall}
use Rattle.clover_rule.specs.Words.{next_of, next_code, root_of}
use Rattle.clover_rule.specs.declared.view.View.{View}
use Rattle.clover_walk.specs.Finding.{Walked}
use Rattle.clover_walk.specs.Walking.{Walking, Stand, AtShort, AtRoot, AtTag, AtLink as OnLink, OnTail, Ended, Holds, IsOnWay, key_at, goes_on, goes_from, followed, hops, turned, shortened, rooted, next_start, begins, most_accesses, since_turn}
use Rattle.clover_walk.specs.declared.start.Start.{Start}
use Rattle.clover_walk.specs.declared.turn.Turn.{Turn}
use Rattle.clover_walk.specs.declared.turn.Turn.TheVariants.{More as WalksOn, AtTail, Behind as WalkBehind, Unreached as WalkUnreached}
use Rattle.clover_walk.proofs.Codes.{no_turn}
use Rattle.clover_walk.proofs.Calling.{by_way, since_few}
use Rattle.clover_put.specs.Answering.{IsBefore}
use Rattle.clover_put.specs.Going.{Went, answer_of}
use Rattle.clover_put.specs.Holding.{Filled, Fills, Owns, Looks, Reads, PutHolds, most}
use Rattle.clover_put.specs.Putting.{Putting, Stage, Seeking, AtMeta, AtLink, at_tail, reached, body, call_of, staged, walked}
use Rattle.clover_put.specs.declared.job.Job.{Job}
use Rattle.clover_put.specs.declared.job.Job.TheVariants.{Put, Delete, Swap}
use Rattle.clover_put.specs.declared.turn.PutTurn.TheVariants.{More}
use Rattle.clover_put.proofs.Done.{goes_more, within_bound}
use Rattle.clover_put.proofs.Sides.{early}

-- what is known of the call where its walk has gone on to n
pub record Onward (c : Putting) (n : Walking) (w : View) : Type 0 where
  pub pool : n.pool ≡ c.walk.pool
  pub first : n.first ≡ false
  pub own : (rest : List ℕ) × (w.pass.stock ≡ c.own ∷ rest)
  pub fills : (e : Putting) → e.own ≡ c.own → body e ≡ body c → Filled e (length (body c)) (length (body c)) w
  pub spent : length w.pass.since ≤ 2 * length (body c) + 5 * n.turns + since_turn n.stand

module _ (c : Putting) (n : Walking) (w : View) (k : Onward c n w) where
  stage_on : (at : Stage) → Owns at (record c { walk = n; stage = at }) w → Fills at (record c { walk = n; stage = at }) w → Looks at (record c { walk = n; stage = at }) w → 2 * length (body c) + 5 * n.turns + since_turn n.stand ≤ most at (record c { walk = n; stage = at }) → Holds n w
      → PutHolds (record c { walk = n; stage = at }) w
  stage_on at owns fills looks least on = record { walk = on; owns = owns; fills = fills; looks = looks; spent = subst (λ (b : Bool). cond b 0 (length w.pass.since) ≤ most at (record c { walk = n; stage = at })) (sym k.first) (let s = k.spent in omega arith) }

  seeking : IsOnWay n.stand → Holds n w → PutHolds (record c { walk = n; stage = Seeking }) w
  seeking way = stage_on Seeking k.own (k.fills (record c { walk = n; stage = Seeking }) refl refl, k.first) way (omega arith)

  -- before the tail
  on_way : (at : Stand) → n.stand ≡ at → IsOnWay at → Holds n w → PutHolds (record c { walk = n; stage = reached c.job at }) w
  on_way at e h = let on = seeking (subst IsOnWay (sym e) h) in by_way (λ s. Holds n w → PutHolds (record c { walk = n; stage = reached c.job s }) w) at h on on (λ t. on) (λ t u. on)

  -- at the tail
  on_tail : (j : Job) → c.job ≡ j → (t : ℕ) → n.stand ≡ OnTail t → InRange c.walk.pool t → Holds n w → PutHolds (record c { walk = n; stage = at_tail j t }) w
  on_tail j ej t e range on = by j ej
    where
      least : 2 * length (body c) + 5 * n.turns + since_turn n.stand ≤ 2 * length (body c) + 5 * n.turns + 3
      least = let q = ap since_turn e in omega arith

      here : (n.stand ≡ OnTail t) × InRange n.pool t
      here = (e, subst (λ (q : Pool). InRange q t) (sym k.pool) range)

      by : (j : Job) → c.job ≡ j → PutHolds (record c { walk = n; stage = at_tail j t }) w
      by Put ej = stage_on (AtLink t) k.own (k.fills (record c { walk = n; stage = AtLink t }) refl refl, k.first)
          (here, subst (λ (j : Job). MayCall w n.slot t (call_of j (key_at w.pass.names n.slot) c.value)) (sym ej) tt, subst (λ (j : Job). SawFor t (call_of j (key_at w.pass.names n.slot) c.value) w.pass.since) (sym ej) tt) (let l = least in omega arith) on
      by Delete ej = stage_on (AtMeta t) k.own (k.fills (record c { walk = n; stage = AtMeta t }) refl refl, k.first) (here, subst Reads (sym ej) tt) least on
      by (Swap x) ej = stage_on (AtMeta t) k.own (k.fills (record c { walk = n; stage = AtMeta t }) refl refl, k.first) (here, subst Reads (sym ej) tt) least on

before_way : (j : Job) (at : Stand) → IsOnWay at → IsBefore (reached j at)
before_way j at h = by_way (λ s. IsBefore (reached j s)) at h tt tt (λ t. tt) (λ t u. tt)

before_tail : (j : Job) (t : ℕ) → IsBefore (at_tail j t)
before_tail Put t = tt
before_tail Delete t = tt
before_tail (Swap x) t = tt

module _ (p : Pool) (c : Putting) (s : Stage) (n : Walking) (v : View) (o : Option Open) (x : ℕ) (w : View) (o1 : Option Open) (fit : length (body c) ≤ c.walk.pool.words + 1) (before : IsBefore s) (k : Onward c n w) where
  on_more : PutHolds (walked c n) w → IsBefore (reached c.job n.stand) → Went p (staged c s) (walked c n) v o w o1 More
  on_more h b = goes_more (staged c s) (walked c n) w h k.first k.pool refl fit p v o o1 ((early s before).to (staged c s) (walked c n) b)

  pub walked_went : (r : Turn) → Walked c.walk x w n r → Went p (staged c s) (walked c n) v o w o1 (answer_of r)
  walked_went WalksOn go = on_more (on_way c n w k n.stand refl go.answers go.stands) (before_way c.job n.stand go.answers)
  walked_went (AtTail t) go = on_more
      (subst (λ (z : Stand). PutHolds (record c { walk = n; stage = reached c.job z }) w) (sym go.answers) (on_tail c n w k c.job refl (tag_number t) go.answers go.tail.0 go.stands))
      (subst (λ (z : Stand). IsBefore (reached c.job z)) (sym go.answers) (before_tail c.job (tag_number t)))
  walked_went (WalkBehind m) go = record {
    answer = (before, ap (reached c.job) go.answers.0, go.answers.0, go.answers.1);
    decided = tt;
    known = tt;
    absent = tt;
    differs = tt;
    behind = go.behind;
    ahead = tt;
    stands = tt;
    bound =
        let l = k.spent in let f = since_few n.stand in
        subst (λ (q : Pool). length w.pass.since ≤ most_accesses q w.pass.turns) k.pool
        (within_bound (walked c n) (length w.pass.since) w.pass.turns (omega arith) (go.behind.1 ∙ sym go.behind.0 ∙ go.answers.1) (subst (λ (q : Pool). length (body c) ≤ q.words + 1) (sym k.pool) fit));
  }
  walked_went WalkUnreached go = absurd go.answers

-- a walk that made a turn
pub record Turned (w n : Walking) : Type 0 where
  pub pool : n.pool ≡ w.pool
  pub first : n.first ≡ false
  pub turns : n.turns ≡ suc w.turns

turned_by : (w : Walking) (f : Start) (at : Stand) → Turned w (turned w f at)
turned_by w f at = record { pool = refl; first = refl; turns = refl }

turned_next : (w : Walking) (t : ℕ) (a : ℕ) (l : Option ℕ) → word a l ≢ word (age t) None → Turned w (followed w t (word a l))
turned_next w t a l d = go l (eqb a (age t)) refl d
  where
    go : (l : Option ℕ) (b : Bool) → eqb a (age t) ≡ b → word a l ≢ word (age t) None → Turned w (cond b (hops w t l) (turned w (next_start w.start) (begins (next_start w.start))))
    go None true q d = absurd (d (ap (λ (n : ℕ). word n None) (eqb-true a (age t) q)))
    go (Some u) true q d = turned_by w w.start (OnLink t u)
    go l false q d = turned_by w (next_start w.start) (begins (next_start w.start))

turned_word : (w : Walking) (t : ℕ) (n : Next) → n ≢ word (age t) None → Turned w (followed w t n)
turned_word w t (word a l) d = turned_next w t a l d

-- a walk whose tail is left has made a turn
pub left_turns : (w : Walking) (t x : ℕ) → w.stand ≡ OnTail t → next_code (next_of x) ≡ x → x ≢ unlinked t → Turned w (goes_on w x)
left_turns w t x e code d = subst (λ (s : Stand). Turned w (goes_from s w x)) (sym e) (turned_word w t (next_of x) (λ q. d (no_turn t x code q).0))

-- the accesses of a walk's step, against its turns
pub record Paid (w n : Walking) : Type 0 where
  pub pool : n.pool ≡ w.pool
  pub first : n.first ≡ false
  pub cost : suc (since_turn w.stand) + 5 * w.turns ≤ 5 * n.turns + since_turn n.stand

turn_paid : (w n : Walking) → since_turn w.stand ≤ 4 → Turned w n → Paid w n
turn_paid w n l t = record { pool = t.pool; first = t.first; cost = let a = t.turns in omega arith }

-- an empty shortcut leads to the root
short_paid : (w : Walking) (o : Option ℕ) → w.stand ≡ AtShort → Paid w (shortened w o)
short_paid w None e = record { pool = refl; first = refl; cost = let a = ap since_turn e in omega arith }
short_paid w (Some u) e = record { pool = refl; first = refl; cost = let a = ap since_turn e in omega arith }

root_paid : (w : Walking) (o : Option ℕ) (t : ℕ) → w.stand ≡ AtRoot → o ≡ Some t → Paid w (rooted w o)
root_paid w None t e q = absurd cc
root_paid w (Some u) t e q = record { pool = refl; first = refl; cost = let a = ap since_turn e in omega arith }

tag_paid : (w : Walking) (t : ℕ) (a : ℕ) (l : Option ℕ) → w.stand ≡ AtTag t → Paid w (followed w t (word a l))
tag_paid w t a l e = go l (eqb a (age t))
  where
    go : (l : Option ℕ) (b : Bool) → Paid w (cond b (hops w t l) (turned w (next_start w.start) (begins (next_start w.start))))
    go None true = record { pool = refl; first = refl; cost = let q = ap since_turn e in omega arith }
    go (Some u) true = turn_paid w _ (let q = ap since_turn e in omega arith) (turned_by w w.start (OnLink t u))
    go l false = turn_paid w _ (let q = ap since_turn e in omega arith) (turned_by w (next_start w.start) (begins (next_start w.start)))

word_paid : (w : Walking) (t : ℕ) (n : Next) → w.stand ≡ AtTag t → Paid w (followed w t n)
word_paid w t (word a l) e = tag_paid w t a l e

from_paid : (w : Walking) (x : ℕ) (at : Stand) → w.stand ≡ at → IsOnWay at → (at ≡ AtRoot → (t : ℕ) × (root_of x ≡ Some t)) → Paid w (goes_from at w x)
from_paid w x AtShort e h r = short_paid w (root_of x) e
from_paid w x AtRoot e h r = let q = r refl in root_paid w (root_of x) q.0 e q.1
from_paid w x (AtTag t) e h r = word_paid w t (next_of x) e
from_paid w x (OnLink t u) e h r = record { pool = refl; first = refl; cost = let q = ap since_turn e in omega arith }
from_paid w x (OnTail t) e h r = absurd h
from_paid w x Ended e h r = absurd h

pub step_paid : (w : Walking) (x : ℕ) → IsOnWay w.stand → (w.stand ≡ AtRoot → (t : ℕ) × (root_of x ≡ Some t)) → Paid w (goes_on w x)
step_paid w x h r = from_paid w x w.stand refl h r

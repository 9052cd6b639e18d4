-- What a step of a put says where the call goes on, and what a store and a flush teach.
use Prim.Native.Nat.{suc}
use Rattle.std.proofs.Common.{◌≡◌, ℕ, ◌+◌, ◌<◌, ◌≤◌, List, [], ◌∷◌, ◌++◌, length, Bool, true, false, cond, ltb, refl, sym, ap, ◌∙◌, arith, subst, ne_eqb}
use Rattle.std.specs.Prelude.{Option}
use Rattle.std.proofs.lemmas.Bool.Decides.{nat_tests}
use Rattle.clover_words.specs.declared.pool.Pool.{Pool}
use Rattle.clover_words.specs.declared.word.Side.TheVariants.{Flushed}
use Rattle.clover_words.specs.Tag.{home}
use Rattle.clover_words.specs.Version.{content_at}
use Rattle.clover_port.specs.Told.{Open, Made}
use Rattle.clover_rule.specs.Lists.{Within}
use Rattle.clover_rule.specs.Steps.{StoreContent, FlushContent}
use Rattle.clover_rule.specs.declared.access.Act.{Act}
use Rattle.clover_rule.specs.declared.access.Act.TheVariants.{Store}
use Rattle.clover_rule.specs.declared.view.View.{View}
use Rattle.clover_walk.specs.Walking.{Holds, begun, budget, most_accesses}
use Rattle.clover_rule.proofs.Tools.{length_snoc}
use Rattle.clover_walk.proofs.Calling.{since_few}
use Rattle.clover_walk.proofs.Endings.{Stepped, stepped}
use Rattle.clover_put.specs.Answering.{IsBefore, Onward}
use Rattle.clover_put.specs.Going.{Went}
use Rattle.clover_put.specs.Holding.{Filled, Fills, Owns, Looks, PutHolds, behind_it, most}
use Rattle.clover_put.specs.Putting.{Putting, Stage, Storing, Flushing, Seeking, AtMeta, AtLink, Deciding, AtBad, AtRaise, AtShort, Over, commits, body, body_word, filled, staged, after_store, after_flush, put_step}
use Rattle.clover_put.specs.declared.turn.PutTurn.TheVariants.{More}
use Rattle.clover_put.proofs.Body.{body_nth, body_some}
use Rattle.clover_put.proofs.Known.{walk_kept, filled_stored, filled_flushed, bounded}

-- for the layers above: the parts of what is known, and the step, at a known stage
pub at_stage : (c : Putting) (at : Stage) (v : View) → c.stage ≡ at → PutHolds c v → Owns at c v × Fills at c v × Looks at c v × (cond c.walk.first 0 (length v.pass.since) ≤ most at c)
at_stage c at v e h = subst (λ (s : Stage). Owns s c v × Fills s c v × Looks s c v × (cond c.walk.first 0 (length v.pass.since) ≤ most s c)) e (h.owns, h.fills, h.looks, h.spent)

pub at_step : (c : Putting) (at : Stage) (v : View) → c.stage ≡ at → put_step c v ≡ put_step (record c { stage = at }) v
at_step c at v e = ap (λ (s : Stage). put_step (record c { stage = s }) v) e

-- how many accesses there are after one more
pub one_more : (b : Bool) (v w : View) (a : Act) (k : ℕ) → w.pass.since ≡ cond b [] v.pass.since ++ a ∷ [] → cond b 0 (length v.pass.since) ≤ k → length w.pass.since ≤ suc k
one_more true v w a k e h = let q = ap length e ∙ length_snoc a [] in omega arith
one_more false v w a k e h = let q = ap length e ∙ length_snoc a v.pass.since in omega arith

most_small : (s : Stage) (c : Putting) (v : View) → Fills s c v → most s c ≤ behind_it c + 6
most_small (Storing j) c v h = let l = h.1 in omega arith
most_small (Flushing j) c v h = let l = h.1 in omega arith
most_small Seeking c v h = let m = since_few c.walk.stand in omega arith
most_small (AtMeta u) c v h = omega arith
most_small (AtLink u) c v h = omega arith
most_small (Deciding u r) c v h = omega arith
most_small (AtBad u) c v h = omega arith
most_small (AtRaise u) c v h = omega arith
most_small AtShort c v h = omega arith
most_small Over c v h = absurd h

-- the accesses of the call c are within the bound
pub within_bound : (c : Putting) (k n : ℕ) → k ≤ behind_it c + 7 → n ≡ c.walk.turns → length (body c) ≤ c.walk.pool.words + 1 → k ≤ most_accesses c.walk.pool n
within_bound c k n h e fit = subst (λ (m : ℕ). k ≤ most_accesses c.walk.pool m) (sym e) (bounded c.walk.pool k (length (body c)) c.walk.turns h (omega arith))

-- a call that goes on to n has its turns below the budget, and its accesses within the bound
module _ (c n : Putting) (w : View) (h : PutHolds n w) (later : n.walk.first ≡ false) (pool : n.walk.pool ≡ c.walk.pool) (same : body n ≡ body c) (fit : length (body c) ≤ c.walk.pool.words + 1) where
  turns_are : w.pass.turns ≡ n.walk.turns
  turns_are = subst (λ (b : Bool). cond b 0 w.pass.turns ≡ n.walk.turns) later h.walk.turns

  pub ahead_on : w.pass.turns < budget c.walk.pool
  ahead_on = subst (λ (q : Pool). w.pass.turns < budget q) pool (subst (λ (k : ℕ). k < budget n.walk.pool) (sym turns_are) h.walk.below)

  pub bound_on : length w.pass.since ≤ most_accesses c.walk.pool w.pass.turns
  bound_on =
      let s : length w.pass.since ≤ most n.stage n = subst (λ (b : Bool). cond b 0 (length w.pass.since) ≤ most n.stage n) later h.spent in
      let m = most_small n.stage n w h.fills in
      subst (λ (q : Pool). length w.pass.since ≤ most_accesses q w.pass.turns) pool
      (within_bound n (length w.pass.since) w.pass.turns (omega arith) turns_are (subst (λ (q : Pool). length (body n) ≤ q.words + 1) (sym pool) (subst (λ (xs : List ℕ). length xs ≤ c.walk.pool.words + 1) (sym same) fit)))

  pub goes_more : (p : Pool) (v : View) (o o1 : Option Open) → Onward c.stage c n → Went p c n v o w o1 More
  goes_more p v o o1 on = record { answer = on; decided = tt; known = tt; absent = tt; differs = tt; behind = tt; ahead = ahead_on; stands = h; bound = bound_on }

module _ (p : Pool) (c : Putting) (v : View) (o : Option Open) (x : ℕ) (w : View) (o1 : Option Open) (fit : length (body c) ≤ c.walk.pool.words + 1) (j : ℕ) where
  -- a store of the word at place j
  module _ (h : PutHolds (staged c (Storing j)) v) (made : Made p (StoreContent c.own j (body_word c.job c.value j)) c.walk.first v o x w o1) where
    s : Stepped (StoreContent c.own j (body_word c.job c.value j)) c.walk.first x v w
    s = stepped p (StoreContent c.own j (body_word c.job c.value j)) c.walk.first v o x w o1 made

    own : (rest : List ℕ) × (w.pass.stock ≡ c.own ∷ rest)
    own = (h.owns.0, ap (λ (u : View). u.pass.stock) made.told.next ∙ h.owns.1)

    spent : length w.pass.since ≤ suc j
    spent = one_more c.walk.first v w _ j s.since h.spent

    held : Holds (begun c.walk) w
    held = walk_kept c.walk v w _ x h.walk s refl (λ q i. subst (Within q) (sym (ap (λ (u : View). u.pass.durable) made.told.next)) i) (λ l i. subst (Within l) (sym (ap (λ (u : View). u.pass.links) made.told.next)) i)

    fills : (e : Putting) → e.own ≡ c.own → body e ≡ body c → Filled e (suc j) 0 w
    fills e eo eb = filled_stored (staged c (Storing j)) e j (body_word c.job c.value j) c.walk.first v w eo eb h.fills.2 (body_nth c.job c.value j h.fills.1) (ap (λ (u : View). u.pass.written) made.told.next) s.since h.fills.0

    stands : (b : Bool) → ltb (suc j) (length (body c)) ≡ b → PutHolds (filled c (cond b (Storing (suc j)) (Flushing 0))) w
    stands true q = let less : suc j < length (body c) = grind (arith, nat_tests) in record { walk = held; owns = own; fills = (fills (filled c (Storing (suc j))) refl refl, less, sym (ne_eqb (suc j) 0 (λ z. omega arith))); looks = h.looks; spent = spent }
    stands false q =
        let l = h.fills.1 in
        let all : suc j ≡ length (body c) = grind (arith, nat_tests) in
        record { walk = held; owns = own; fills = (subst (λ (n : ℕ). Filled (filled c (Flushing 0)) n 0 w) all (fills (filled c (Flushing 0)) refl refl), body_some (commits c.job c.value), refl); looks = h.looks; spent = omega (arith, spent) }

    pub stored : Went p (staged c (Storing j)) (filled c (after_store (length (body c)) j)) v o w o1 More
    stored = goes_more (staged c (Storing j)) (filled c (after_store (length (body c)) j)) w (stands (ltb (suc j) (length (body c))) refl) refl refl refl fit p v o o1 (before (ltb (suc j) (length (body c))))
      where
        before : (b : Bool) → IsBefore (cond b (Storing (suc j)) (Flushing 0))
        before true = tt
        before false = tt

  -- a flush of the word at place j
  module _ (h : PutHolds (staged c (Flushing j)) v) (made : Made p (FlushContent c.own j (body_word c.job c.value j)) c.walk.first v o x w o1) where
    s1 : Stepped (FlushContent c.own j (body_word c.job c.value j)) c.walk.first x v w
    s1 = stepped p (FlushContent c.own j (body_word c.job c.value j)) c.walk.first v o x w o1 made

    own1 : (rest : List ℕ) × (w.pass.stock ≡ c.own ∷ rest)
    own1 = (h.owns.0, ap (λ (u : View). u.pass.stock) made.told.next ∙ h.owns.1)

    spent1 : length w.pass.since ≤ suc (length (body c) + j)
    spent1 = one_more c.walk.first v w _ (length (body c) + j) s1.since h.spent

    since1 : w.pass.since ≡ v.pass.since ++ Store (content_at (home c.own) j) Flushed (body_word c.job c.value j) ∷ []
    since1 = s1.since ∙ ap (λ (b : Bool). cond b [] v.pass.since ++ Store (content_at (home c.own) j) Flushed (body_word c.job c.value j) ∷ []) h.fills.2

    held1 : Holds (begun c.walk) w
    held1 = walk_kept c.walk v w _ x h.walk s1 refl (λ q i. subst (Within q) (sym (ap (λ (u : View). u.pass.durable) made.told.next)) i) (λ l i. subst (Within l) (sym (ap (λ (u : View). u.pass.links) made.told.next)) i)

    fills1 : (e : Putting) → e.own ≡ c.own → body e ≡ body c → Filled e (length (body c)) (suc j) w
    fills1 e eo eb = filled_flushed (staged c (Flushing j)) e (length (body c)) j (body_word c.job c.value j) v w eo eb (body_nth c.job c.value j h.fills.1) (ap (λ (u : View). u.pass.written) made.told.next) (ap (λ (u : View). u.pass.flushed) made.told.next) since1 h.fills.0

    stands1 : (b : Bool) → ltb (suc j) (length (body c)) ≡ b → PutHolds (filled c (cond b (Flushing (suc j)) Seeking)) w
    stands1 true q = let less : suc j < length (body c) = grind (arith, nat_tests) in record { walk = held1; owns = own1; fills = (fills1 (filled c (Flushing (suc j))) refl refl, less, refl); looks = h.looks; spent = omega (arith, spent1) }
    stands1 false q =
        let l = h.fills.1 in
        let all : suc j ≡ length (body c) = grind (arith, nat_tests) in
        record { walk = held1; owns = own1; fills = (subst (λ (n : ℕ). Filled (filled c Seeking) (length (body c)) n w) all (fills1 (filled c Seeking) refl refl), refl); looks = h.looks; spent = omega (arith, spent1) }

    pub flushed : Went p (staged c (Flushing j)) (filled c (after_flush (length (body c)) j)) v o w o1 More
    flushed = goes_more (staged c (Flushing j)) (filled c (after_flush (length (body c)) j)) w (stands1 (ltb (suc j) (length (body c))) refl) refl refl refl fit p v o o1 (before (ltb (suc j) (length (body c))))
      where
        before : (b : Bool) → IsBefore (cond b (Flushing (suc j)) Seeking)
        before true = tt
        before false = tt

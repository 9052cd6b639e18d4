-- The turns of a call stay within the budget of its pool, so that its accesses end.
use Rattle.std.proofs.Common.{◌≡◌, ◌≢◌, ℕ, ◌≤◌, ◌<◌, suc, ◌==◌, List, [], ◌∷◌, length, Bool, true, false, eqb, if◌then◌else◌, refl, sym, ◌∙◌, subst, arith}
use Rattle.std.proofs.lemmas.Bool.{ltb-true}
use Rattle.std.specs.Prelude.{Option, Some, None, ltb}
use Rattle.clover_words.specs.declared.pool.Pool.{Pool}
use Rattle.clover_words.specs.Tag.{age}
use Rattle.clover_words.specs.Version.{unlinked}
use Rattle.clover_map.specs.declared.call.Call.{Call}
use Rattle.clover_rule.specs.Memory.{Next, word}
use Rattle.clover_rule.specs.Steps.{Step}
use Rattle.clover_rule.specs.Words.{next_of, root_of}
use Rattle.clover_rule.specs.declared.access.Act.{Act}
use Rattle.clover_rule.specs.declared.view.View.{View}
use Rattle.clover_walk.specs.declared.start.Start.{Start}
use Rattle.clover_walk.specs.Walking.{Walking, Stand, AtShort, AtRoot, AtTag, AtLink, OnTail, Ended, made_walk, begun, goes_from, goes_on, followed, hops, turned, shortened, rooted, next_start, begins, budget, most_accesses}
use Rattle.clover_call.specs.Calling.{Calling, Deed, Reads, Links, Ends, Leaves, begun_call, deed, done, after, walks, LeadsTo}
use Rattle.clover_words.specs.declared.bytes.ValueBuf.{ValueBuf}
use Rattle.clover_call.specs.Caller.{CallHolds}
use Rattle.clover_call.specs.declared.under.Underway.{Underway}
use Rattle.clover_call.specs.declared.under.Underway.TheVariants.{Nothing}

-- a walk of this pool has made no more turns than the budget, and fewer where it has not ended
pub record IsWithin (p : Pool) (w : Walking) : Type 0 where
  pub pool : w.pool ≡ p
  pub most : w.turns ≤ budget w.pool
  pub below : w.stand ≢ Ended → w.turns < budget w.pool

module _ (p : Pool) (w : Walking) (pool : w.pool ≡ p) (below : w.turns < budget w.pool) where
  -- it stands elsewhere without a turn
  stands_within : (f : Bool) (s : Start) (at : Stand) → IsWithin p (record w { first = f; start = s; stand = at })
  stands_within f s at = record { pool = pool; most = omega (arith, below); below = λ on. below }

  turned_within : (s : Start) (at : Stand) → IsWithin p (turned w s at)
  turned_within s at = record { pool = pool; most = omega (arith, below); below = go (ltb (suc w.turns) (budget w.pool)) refl }
    where
      go : (b : Bool) → ltb (suc w.turns) (budget w.pool) ≡ b → (if b then at else Ended) ≢ Ended → suc w.turns < budget w.pool
      go true less on = ltb-true (suc w.turns) (budget w.pool) less
      go false not on = absurd (on refl)

  hops_within : (t : ℕ) (l : Option ℕ) → IsWithin p (hops w t l)
  hops_within t None = stands_within false w.start (OnTail t)
  hops_within t (Some u) = turned_within w.start (AtLink t u)

  followed_within : (t : ℕ) (n : Next) → IsWithin p (followed w t n)
  followed_within t (word a l) = go (eqb a (age t))
    where
      go : (b : Bool) → IsWithin p (if b then hops w t l else turned w (next_start w.start) (begins (next_start w.start)))
      go true = hops_within t l
      go false = turned_within (next_start w.start) (begins (next_start w.start))

  shortened_within : (o : Option ℕ) → IsWithin p (shortened w o)
  shortened_within None = stands_within false _ AtRoot
  shortened_within (Some t) = stands_within false w.start (AtTag t)

  rooted_within : (o : Option ℕ) → IsWithin p (rooted w o)
  rooted_within None = stands_within false w.start AtRoot
  rooted_within (Some t) = stands_within false w.start (AtTag t)

-- a walk stays within the budget
goes_within : (p : Pool) (at : Stand) (w : Walking) (x : ℕ) → w.stand ≡ at → IsWithin p w → IsWithin p (goes_from at w x)
goes_within p AtShort w x is h = shortened_within p w h.pool (h.below (λ e. absurd (let q : AtShort ≡ Ended = sym is ∙ e in cc))) (root_of x)
goes_within p AtRoot w x is h = rooted_within p w h.pool (h.below (λ e. absurd (let q : AtRoot ≡ Ended = sym is ∙ e in cc))) (root_of x)
goes_within p (AtTag t) w x is h = followed_within p w h.pool (h.below (λ e. absurd (let q : AtTag t ≡ Ended = sym is ∙ e in cc))) t (next_of x)
goes_within p (AtLink t u) w x is h = stands_within p w h.pool (h.below (λ e. absurd (let q : AtLink t u ≡ Ended = sym is ∙ e in cc))) false w.start (AtTag u)
goes_within p (OnTail t) w x is h = followed_within p w h.pool (h.below (λ e. absurd (let q : OnTail t ≡ Ended = sym is ∙ e in cc))) t (next_of x)
goes_within p Ended w x is h = h

either_within : (p : Pool) (b : Bool) (m n : Calling) → IsWithin p m.walk → IsWithin p n.walk → IsWithin p (if b then m else n).walk
either_within p true m n first second = first
either_within p false m n first second = second

done_within : (p : Pool) (c : Calling) (t own : ℕ) (what : Deed) (x : ℕ) → IsWithin p c.walk → IsWithin p (done c t own what x).walk
done_within p c t own (Reads j) x h = h
done_within p c t own Links x h = either_within p (x == unlinked t) _ (walks (goes_on c.walk x)) h (goes_within p c.walk.stand c.walk x refl h)
done_within p c t own Ends x h = either_within p (x == unlinked t) (record c { over = true }) (walks (goes_on c.walk x)) h (goes_within p c.walk.stand c.walk x refl h)
done_within p c t own Leaves x h = goes_within p c.walk.stand c.walk x refl h

-- the same walk at a place
abbrev standing : Walking → Stand → Walking
standing w at = record { pool = w.pool; slot = w.slot; turns = w.turns; first = w.first; start = w.start; stand = at }

-- and so does a call
after_within : (p : Pool) (call : Call) (own : ℕ) (c : Calling) (x : ℕ) → IsWithin p c.walk → IsWithin p (after call own c x).walk
after_within p call own c x = on c.steps
  where
    at : (s : Stand) → IsWithin p (standing c.walk s) → IsWithin p (after call own (record { steps = []; walk = standing c.walk s; seen = c.seen; over = c.over }) x).walk
    at AtShort h = goes_within p AtShort (standing c.walk AtShort) x refl h
    at AtRoot h = goes_within p AtRoot (standing c.walk AtRoot) x refl h
    at (AtTag t) h = goes_within p (AtTag t) (standing c.walk (AtTag t)) x refl h
    at (AtLink t u) h = goes_within p (AtLink t u) (standing c.walk (AtLink t u)) x refl h
    at (OnTail t) h = done_within p (record { steps = []; walk = standing c.walk (OnTail t); seen = c.seen; over = c.over }) t own (deed c.walk.pool call t c.seen) x h
    at Ended h = h

    on : (steps : List Step) → IsWithin p c.walk → IsWithin p (after call own (record { steps = steps; walk = c.walk; seen = c.seen; over = c.over }) x).walk
    on [] h = at c.walk.stand h
    on (a ∷ steps) h = h

pub leads_within : (p : Pool) (call : Call) (own : ℕ) (c n : Calling) (acts : List Act) → LeadsTo call own c acts n → IsWithin p c.walk → IsWithin p n.walk
leads_within p call own c n [] at h = subst (λ (k : Calling). IsWithin p k.walk) (sym at) h
leads_within p call own c n (act ∷ acts) (a, x, due, is, more) h = leads_within p call own (after call own c x) n acts more (after_within p call own c x h)

pub begun_within : (p : Pool) (s : ℕ) (cursor : Option ℕ) → IsWithin p (begun (made_walk p s cursor))
begun_within p s None = record { pool = refl; most = omega arith; below = λ on. omega arith }
begun_within p s (Some t) = record { pool = refl; most = omega arith; below = λ on. omega arith }

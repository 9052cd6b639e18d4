-- How many accesses a get makes: each step of its walk and each last load that misses stays within what the turns allow.
use Prim.Native.Nat.{suc}
use Rattle.std.proofs.Common.{◌≡◌, ◌≢◌, ℕ, ◌+◌, ◌*◌, ◌≤◌, List, [], length, Bool, true, false, cond, eqb, refl, sym, ap, ◌∙◌, subst, eqb-true, arith}
use Rattle.std.specs.Prelude.{Option, Some, None}
use Rattle.clover_words.specs.declared.pool.Pool.{Pool}
use Rattle.clover_words.specs.Tag.{age}
use Rattle.clover_words.specs.Version.{unlinked}
use Rattle.clover_port.specs.Told.{Open, Made}
use Rattle.clover_rule.specs.Memory.{Next, word}
use Rattle.clover_rule.specs.Steps.{Step, act_of}
use Rattle.clover_rule.specs.declared.access.Act.{Act}
use Rattle.clover_rule.specs.declared.view.View.{View}
use Rattle.clover_rule.proofs.Tools.{length_snoc}
use Rattle.clover_walk.proofs.Endings.{stepped}
use Rattle.clover_rule.specs.Words.{next_of, next_code, root_of}
use Rattle.clover_walk.specs.Walking.{Walking, Stand, AtShort, AtRoot, AtTag, AtLink, OnTail, Ended, IsOnWay, turned, hops, followed, shortened, rooted, goes_from, goes_on, begins, next_start, since_turn}
use Rattle.clover_walk.specs.declared.start.Start.{Start}
use Rattle.clover_walk.proofs.Codes.{no_turn}

pub length_first : {A : Type 0} (b : Bool) (xs : List A) → length (cond b [] xs) ≡ cond b 0 (length xs)
length_first true xs = refl
length_first false xs = refl

-- so many accesses since the call's start, where the walk stands
abbrev pub InTurns : Walking → ℕ → Type 0
InTurns w n = n ≤ w.turns * (w.pool.words + 5) + since_turn w.stand

-- the walk after an access of its call, so many accesses since its start
pub record Goes (w w1 : Walking) (n : ℕ) : Type 0 where
  pub pool : w1.pool ≡ w.pool
  pub slot : w1.slot ≡ w.slot
  pub first : w1.first ≡ false
  pub count : InTurns w1 n

module _ (w : Walking) (n : ℕ) where
  turned_goes : (f : Start) (at : Stand) → n ≤ (suc w.turns) * (w.pool.words + 5) → Goes w (turned w f at) n
  turned_goes f at h = record { pool = refl; slot = refl; first = refl; count = omega arith }

  -- a next word at its tag's generation, and another one
  hops_goes : (t : ℕ) (l : Option ℕ) → (l ≡ None → n ≤ w.turns * (w.pool.words + 5) + 3) → n ≤ (suc w.turns) * (w.pool.words + 5) → Goes w (hops w t l) n
  hops_goes t None tail h = record { pool = refl; slot = refl; first = refl; count = tail refl }
  hops_goes t (Some u) tail h = turned_goes w.start (AtLink t u) h

  followed_by : (t a : ℕ) (l : Option ℕ) (b : Bool) → eqb a (age t) ≡ b → (a ≡ age t → l ≡ None → n ≤ w.turns * (w.pool.words + 5) + 3) → n ≤ (suc w.turns) * (w.pool.words + 5)
      → Goes w (cond b (hops w t l) (turned w (next_start w.start) (begins (next_start w.start)))) n
  followed_by t a l true e tail h = hops_goes t l (tail (eqb-true a (age t) e)) h
  followed_by t a l false e tail h = turned_goes (next_start w.start) (begins (next_start w.start)) h

  followed_goes : (t : ℕ) (z : Next) → (z ≡ word (age t) None → n ≤ w.turns * (w.pool.words + 5) + 3) → n ≤ (suc w.turns) * (w.pool.words + 5) → Goes w (followed w t z) n
  followed_goes t (word a l) tail h = followed_by t a l (eqb a (age t)) refl (λ e d. tail (λ i. word (e i) (d i))) h

rooted_goes : (w : Walking) (n : ℕ) (o : Option ℕ) → (t : ℕ) × (o ≡ Some t) → n ≤ w.turns * (w.pool.words + 5) + 2 → Goes w (rooted w o) n
rooted_goes w n None (t, e) h = absurd cc
rooted_goes w n (Some u) e h = record { pool = refl; slot = refl; first = refl; count = h }

shortened_goes : (w : Walking) (n : ℕ) (o : Option ℕ) → n ≤ w.turns * (w.pool.words + 5) + 1 → Goes w (shortened w o) n
shortened_goes w n None h = record { pool = refl; slot = refl; first = refl; count = h }
shortened_goes w n (Some t) h = record { pool = refl; slot = refl; first = refl; count = omega arith }

-- what a load of a root says
abbrev pub HasRoot : Stand → ℕ → Type 0
HasRoot AtRoot x = (t : ℕ) × (root_of x ≡ Some t)
HasRoot at x = Unit {0}

goes_by : (at : Stand) (w : Walking) (x n : ℕ) → IsOnWay at → HasRoot at x → n ≤ w.turns * (w.pool.words + 5) + since_turn at → Goes w (goes_from at w x) (suc n)
goes_by AtShort w x n way root h = shortened_goes w (suc n) (root_of x) (omega arith)
goes_by AtRoot w x n way root h = rooted_goes w (suc n) (root_of x) root (omega arith)
goes_by (AtTag t) w x n way root h = followed_goes w (suc n) t (next_of x) (λ e. omega arith) (omega arith)
goes_by (AtLink t u) w x n way root h = record { pool = refl; slot = refl; first = refl; count = omega arith }
goes_by (OnTail t) w x n way root h = absurd way
goes_by Ended w x n way root h = absurd way

-- a step of the walk
pub goes : (w : Walking) (x n : ℕ) → IsOnWay w.stand → HasRoot w.stand x → InTurns w n → Goes w (goes_on w x) (suc n)
goes w x n way root h = goes_by w.stand w x n way root h

-- a load at the tail that showed it not unlinked
pub misses : (w : Walking) (t x n : ℕ) → w.stand ≡ OnTail t → next_code (next_of x) ≡ x → x ≢ unlinked t → n ≤ w.turns * (w.pool.words + 5) + (4 + w.pool.words) → Goes w (goes_on w x) (suc n)
misses w t x n at code d h =
    subst (λ (z : Stand). Goes w (goes_from z w x) (suc n)) (sym at)
    (followed_goes w (suc n) t (next_of x) (λ e. absurd (d (no_turn t x code e).0)) (omega arith))

-- what the turns allow is within the bound of a call
pub bounded : (turns words extra n : ℕ) → extra ≤ 5 + words → n ≤ turns * (words + 5) + extra → n ≤ (turns + 1) * (words + 5) + 2 * words + 4
bounded turns words extra n e h = omega arith

-- the accesses of a call after one more
pub one_more : (p : Pool) (a : Step) (b : Bool) (v : View) (o : Option Open) (x : ℕ) (v1 : View) (o1 : Option Open) → Made p a b v o x v1 o1 → length v1.pass.since ≡ suc (cond b 0 (length v.pass.since))
one_more p a b v o x v1 o1 made =
    ap (length {A = Act}) (stepped p a b v o x v1 o1 made).since ∙ length_snoc (act_of a x) (cond b [] v.pass.since) ∙ ap suc (length_first b v.pass.since)

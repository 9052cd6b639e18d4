-- A tag's next word that an access found, and how the walk goes on by it.
use Rattle.std.proofs.Common.{◌≡◌, ◌≢◌, ℕ, suc, ◌+◌, Bool, true, false, cond, eqb, ltb, refl, sym, ap, ◌∙◌, arith, subst, eq-eqb, eqb-true}
use Rattle.std.specs.Prelude.{Option, Some, None}
use Rattle.clover_words.specs.Tag.{TagParts, tag_number, age}
use Rattle.clover_words.specs.Version.{unlinked}
use Rattle.clover_rule.specs.Memory.{Next, word}
use Rattle.clover_rule.specs.Learned.{turn_at}
use Rattle.clover_rule.specs.Words.{next_of}
use Rattle.clover_rule.specs.declared.view.View.{View}
use Rattle.clover_walk.specs.Walking.{Walking, AtShort, AtRoot, AtLink, OnTail, Ended, Shows, placed, turned, hops, followed, next_start, begins, budget}
use Rattle.clover_walk.specs.Turning.{Answers}
use Rattle.clover_walk.specs.declared.turn.Turn.{Turn}
use Rattle.clover_walk.specs.declared.turn.Turn.TheVariants.{More, AtTail, Behind, Unreached}
use Rattle.clover_walk.specs.declared.start.Start.{Start}
use Rattle.clover_walk.specs.declared.start.Start.TheVariants.{FromCursor, FromShort, FromRoot}
use Rattle.clover_walk.proofs.Codes.{no_turn, one_turn, unlinked_says}
use Rattle.clover_walk.proofs.Promises.{Knows, Promises, placed_promises, turned_promises}

pub shows_knows : (w : Walking) (t : ℕ) (v : View) (x : ℕ) → Shows w t v x → Knows w v
shows_knows w t v x s = record { pool = s.pool; client = s.client; named = s.named; below = s.below }

-- every start is on the way, and stands on nothing
start_promises : (w : Walking) (v : View) (f : Start) (r : Turn) → Knows w v → v.pass.turns ≡ suc w.turns → Answers (turned w (next_start f) (begins (next_start f))) r → Promises w v (turned w (next_start f) (begins (next_start f))) r
start_promises w v FromCursor r k e a = turned_promises w v FromShort AtShort r k tt tt e a
start_promises w v FromShort r k e a = turned_promises w v FromRoot AtRoot r k tt tt e a
start_promises w v FromRoot r k e a = turned_promises w v FromRoot AtRoot r k tt tt e a

module _ (w : Walking) (t : ℕ) (v : View) (x : ℕ) (s : Shows w t v x) where
  one_more : turn_at t x ≡ 1 → v.pass.turns ≡ suc w.turns
  one_more e = s.turns ∙ ap (λ (n : ℕ). w.turns + n) e ∙ (let q : w.turns + 1 ≡ suc w.turns = omega arith in q)

  none_more : turn_at t x ≡ 0 → v.pass.turns ≡ w.turns
  none_more e = s.turns ∙ ap (λ (n : ℕ). w.turns + n) e ∙ (let q : w.turns + 0 ≡ w.turns = omega arith in q)

  -- the case of the tag's own generation, and of another one
  own : (l : Option ℕ) (r : Turn) → next_of x ≡ word (age t) l → Answers (hops w t l) r → Promises w v (hops w t l) r
  own None r e a = placed_promises w v (OnTail t) r (shows_knows w t v x s) s.tail (none_more (no_turn t x s.number.0 e).1) a
  own (Some u) r e a = turned_promises w v w.start (AtLink t u) r (shows_knows w t v x s) tt (s.link u e) (one_more (one_turn t x (word (age t) (Some u)) e (λ q. absurd cc))) a

  cases : (a : ℕ) (l : Option ℕ) (b : Bool) (r : Turn) → eqb a (age t) ≡ b → next_of x ≡ word a l
      → Answers (cond b (hops w t l) (turned w (next_start w.start) (begins (next_start w.start)))) r
      → Promises w v (cond b (hops w t l) (turned w (next_start w.start) (begins (next_start w.start)))) r
  cases a l true r q e h = own l r (e ∙ ap (λ (n : ℕ). word n l) (eqb-true a (age t) q)) h
  cases a l false r q e h = start_promises w v w.start r (shows_knows w t v x s) (one_more (one_turn t x (word a l) e (λ z. absurd (let y : a ≡ age t = cc in let y1 = eq-eqb a (age t) y in cc)))) h

  by_next : (n : Next) (r : Turn) → next_of x ≡ n → Answers (followed w t n) r → Promises w v (followed w t n) r
  by_next (word a l) r e h = cases a l (eqb a (age t)) r refl e h

  pub follow_promises : (r : Turn) → Answers (followed w t (next_of x)) r → Promises w v (followed w t (next_of x)) r
  follow_promises r h = by_next (next_of x) r refl h

  -- a walk that comes to the tail came to this tag, and found it unlinked
  tail_own : (l : Option ℕ) (u : ℕ) → next_of x ≡ word (age t) l → (hops w t l).stand ≡ OnTail u → (x ≡ unlinked t) × (t ≡ u)
  tail_own None u e q = ((no_turn t x s.number.0 e).0, let z : OnTail t ≡ OnTail u = q in cc)
  tail_own (Some y) u e q = absurd (never (ltb (suc w.turns) (budget w.pool)) q)
    where
      never : (b : Bool) → cond b (AtLink t y) Ended ≡ OnTail u → ⊥
      never true z = absurd cc
      never false z = absurd cc

  tail_start : (f : Start) (u : ℕ) → (turned w (next_start f) (begins (next_start f))).stand ≢ OnTail u
  tail_start f u q = never f (ltb (suc w.turns) (budget w.pool)) q
    where
      never : (g : Start) (b : Bool) → cond b (begins (next_start g)) Ended ≡ OnTail u → ⊥
      never FromCursor true z = let y : AtShort ≡ OnTail u = z in absurd cc
      never FromShort true z = let y : AtRoot ≡ OnTail u = z in absurd cc
      never FromRoot true z = let y : AtRoot ≡ OnTail u = z in absurd cc
      never g false z = let y : Ended ≡ OnTail u = z in absurd cc

  tail_cases : (a : ℕ) (l : Option ℕ) (b : Bool) (u : ℕ) → eqb a (age t) ≡ b → next_of x ≡ word a l
      → (cond b (hops w t l) (turned w (next_start w.start) (begins (next_start w.start)))).stand ≡ OnTail u → (x ≡ unlinked t) × (t ≡ u)
  tail_cases a l true u q e h = tail_own l u (e ∙ ap (λ (n : ℕ). word n l) (eqb-true a (age t) q)) h
  tail_cases a l false u q e h = absurd (tail_start w.start u h)

  tail_next : (n : Next) (u : ℕ) → next_of x ≡ n → (followed w t n).stand ≡ OnTail u → (x ≡ unlinked t) × (t ≡ u)
  tail_next (word a l) u e h = tail_cases a l (eqb a (age t)) u refl e h

  pub follow_tail : (u : ℕ) → (followed w t (next_of x)).stand ≡ OnTail u → (x ≡ unlinked t) × (t ≡ u)
  follow_tail u h = tail_next (next_of x) u refl h

-- what holds after the walk has gone on by a next word of the tag
pub followed_promises : (w : Walking) (t : ℕ) (v : View) (x : ℕ) (n : Walking) (r : Turn) → Shows w t v x → n ≡ followed w t (next_of x) → Answers n r → Promises w v n r
followed_promises w t v x n r s e a = subst (λ (z : Walking). Promises w v z r) (sym e) (follow_promises w t v x s r (subst (λ (z : Walking). Answers z r) e a))

pub followed_tail : (w : Walking) (t : ℕ) (v : View) (x : ℕ) (n : Walking) (u : ℕ) → Shows w t v x → n ≡ followed w t (next_of x) → n.stand ≡ OnTail u → (x ≡ unlinked t) × (t ≡ u)
followed_tail w t v x n u s e q = follow_tail w t v x s u (ap (λ (z : Walking). z.stand) (sym e) ∙ q)

-- a walk that finds its tag unlinked answers that it is at the tail
answer_tail : (w : Walking) (t : ℕ) (r : Turn) → Answers (placed w (OnTail t)) r → (u : TagParts) × (r ≡ AtTail u) × (tag_number u ≡ t)
answer_tail w t More a = absurd a
answer_tail w t (AtTail u) a = (u, refl, let z : OnTail t ≡ OnTail (tag_number u) = a in cc)
answer_tail w t (Behind n) a = absurd (let z : OnTail t ≡ Ended = a.0 in cc)
answer_tail w t Unreached a = absurd a

pub tail_when : (w n : Walking) (t x : ℕ) (r : Turn) → x ≡ unlinked t → n ≡ followed w t (next_of x) → Answers n r → (u : TagParts) × (r ≡ AtTail u) × (tag_number u ≡ t)
tail_when w n t x r e q a = answer_tail w t r (subst (λ (z : Walking). Answers z r) (q ∙ ap (λ (z : Next). followed w t z) (ap next_of e ∙ unlinked_says t) ∙ ap (λ (b : Bool). cond b (placed w (OnTail t)) (turned w (next_start w.start) (begins (next_start w.start)))) (eq-eqb (age t) (age t) refl)) a)

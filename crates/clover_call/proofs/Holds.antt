-- What holds of a caller still, or again, behind a step: it is its client's, and its cursors are.
use Rattle.std.proofs.Common.{◌≡◌, ℕ, Bool, true, false, refl, sym, ◌∙◌, subst}
use Rattle.std.specs.Prelude.{Option, Some}
use Rattle.clover_words.specs.declared.bytes.ValueBuf.{ValueBuf}
use Rattle.clover_words.specs.declared.pool.Pool.{Pool}
use Rattle.clover_rule.specs.Steps.{Step, number_of}
use Rattle.clover_rule.specs.declared.view.Role.{Role}
use Rattle.clover_rule.specs.declared.view.Role.TheVariants.{Client}
use Rattle.clover_rule.specs.declared.view.View.{View}
use Rattle.clover_port.specs.Told.{Open, Made}
use Rattle.clover_cache.specs.Node.{Known}
use Rattle.clover_walk.proofs.Endings.{stepped}
use Rattle.clover_get.specs.Getting.{Getting}
use Rattle.clover_put.specs.Putting.{Putting}
use Rattle.clover_call.specs.Going.{Went}
use Rattle.clover_call.specs.Kept.{under_of}
use Rattle.clover_call.specs.Caller.{CallerState, CallerHolds, AreCursors, slot_of}
use Rattle.clover_call.specs.Turning.{OnMade, OnRefused, ends, left_by}
use Rattle.clover_call.specs.declared.answer.CallerRefusal.TheVariants.{Unreached, Behind, Linked, TooLong}
use Rattle.clover_call.specs.declared.answer.CallerTurn.{CallerTurn}
use Rattle.clover_call.specs.declared.answer.CallerTurn.TheVariants.{More, Decided, Done, Refused}
use Rattle.clover_call.specs.declared.under.Kind.{Kind}
use Rattle.clover_call.specs.declared.under.Kind.TheVariants.{Get as IsGet, Write as IsWrite}
use Rattle.clover_call.specs.declared.under.Underway.{Underway}
use Rattle.clover_call.specs.declared.under.Underway.TheVariants.{Nothing, Get, Write}
use Rattle.clover_call.proofs.Knowing.{KnowsMore, knows_more, cursors_kept, cursors_set}

-- what is under way where its kind and its place say so
pub under_get : {k : Kind} {o : Option Getting} (g : Getting) (w : Option Putting) → k ≡ IsGet → o ≡ Some g → Get g ≡ under_of k o w
under_get g w e f = sym (λ i. under_of (e i) (f i) w)

pub under_write : {k : Kind} {o : Option Putting} (c : Putting) (g : Option Getting) → k ≡ IsWrite → o ≡ Some c → Write c ≡ under_of k g o
under_write c g e f = sym (λ i. under_of (e i) g (f i))

-- an access was made or refused
pub by_turn : {A B C : Type 0} (r : CallerTurn) → OnMade r A → OnRefused r B → (A → C) → (B → C) → C
by_turn More a b f h = f a
by_turn (Decided x) a b f h = f a
by_turn (Done x) a b f h = f a
by_turn (Refused Unreached) a b f h = h b
by_turn (Refused (Behind n)) a b f h = f a
by_turn (Refused (Linked t)) a b f h = h b
by_turn (Refused (TooLong l m)) a b f h = f a

-- the view is the same client's in the same pool, who has forgotten no durable tag
pub record IsStill (v w : View) : Type 0 where
  pub pool : w.pass.pool ≡ v.pass.pool
  pub role : w.pass.role ≡ v.pass.role
  pub knows : KnowsMore v w

pub still_made : (p : Pool) (a : Step) (b : Bool) (v : View) (o : Option Open) (x : ℕ) (w : View) (o1 : Option Open) → Made p a b v o x w o1 → IsStill v w
still_made p a b v o x w o1 made = let s = stepped p a b v o x w o1 made in record { pool = s.pool; role = s.role; knows = knows_more p a b v o x w o1 made }

pub still_same : (v w : View) → w ≡ v → IsStill v w
still_same v w e = subst (IsStill v) (sym e) (record { pool = refl; role = refl; knows = λ q h. h })

module _ (n : CallerState) (v : View) (room : ValueBuf) (h : CallerHolds n v room) (w : View) (still : IsStill v w) (y : Underway) (k1 : Known) (room1 : ValueBuf) (o o1 : Option Open) where
  cursors_on : (r : CallerTurn) → Went n.pool n.under y n.cursors k1 room1 v o w o1 r → AreCursors n.pool w k1
  cursors_on More g = subst (AreCursors n.pool w) (sym g.cursors) (cursors_kept n.pool v w n.cursors still.knows h.cursors)
  cursors_on (Decided a) g = subst (AreCursors n.pool w) (sym g.cursors) (cursors_kept n.pool v w n.cursors still.knows h.cursors)
  cursors_on (Done a) g = let d = g.done in cursors_set n.pool v w (slot_of n.under) d.0 n.cursors k1 still.knows h.cursors (d.1.range, d.1.durable) d.2
  cursors_on (Refused x) g = subst (AreCursors n.pool w) (sym g.cursors) (cursors_kept n.pool v w n.cursors still.knows h.cursors)

  -- it holds again
  pub holds_on : (r : CallerTurn) → Went n.pool n.under y n.cursors k1 room1 v o w o1 r → CallerHolds (record { pool = n.pool; cursors = k1; under = y }) w room1
  holds_on r g = record {
    pool = still.pool ∙ h.pool;
    client = subst (λ (z : Role). z ≡ Client (number_of z)) (sym still.role) h.client;
    cursors = cursors_on r g;
    call = g.holds;
  }

-- what is left of the call
pub left_over : (r : CallerTurn) (u : Underway) → ends r ≡ true → left_by r u ≡ Nothing
left_over More u e = absurd cc
left_over (Decided a) u e = absurd cc
left_over (Done a) u e = refl
left_over (Refused y) u e = refl

pub left_going : (r : CallerTurn) (u : Underway) → ends r ≡ false → left_by r u ≡ u
left_going More u e = refl
left_going (Decided a) u e = refl
left_going (Done a) u e = absurd cc
left_going (Refused y) u e = absurd cc

-- the same of another name of each
pub went_at : (p p1 : Pool) (x x1 y : Underway) (k k2 k1 : Known) (room1 : ValueBuf) (v : View) (o : Option Open) (w : View) (o1 : Option Open) (r : CallerTurn) → p ≡ p1 → x ≡ x1 → k ≡ k2 → Went p x y k k1 room1 v o w o1 r → Went p1 x1 y k2 k1 room1 v o w o1 r
went_at p p1 x x1 y k k2 k1 room1 v o w o1 r e f g h =
    subst (λ (q : Pool). Went q x1 y k2 k1 room1 v o w o1 r) e (subst (λ (u : Underway). Went p u y k2 k1 room1 v o w o1 r) f (subst (λ (c : Known). Went p x y c k1 room1 v o w o1 r) g h))

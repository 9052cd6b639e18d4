-- What a pool keeps, where it runs and where it is down.
use Rattle.std.proofs.Common.{◌≡◌, ℕ, ◌<◌, ◌≤◌, Bool, true, false, List, [], length, sym, ap, ◌∙◌, subst, arith}
use Rattle.clover_rule.specs.Moves.{nobody}
use Rattle.clover_rule.specs.declared.access.Actor.{Actor}
use Rattle.clover_rule.specs.declared.access.Actor.TheVariants.{Client, Server, Restart}
use Rattle.clover_rule.specs.declared.view.Role.TheVariants.{Client as ClientRole}
use Rattle.clover_plain.specs.Kept.{meaning, IsKept}
use Rattle.clover_plain.specs.Plain.{Plain, HasRole, HasSeat, HasStory, HasTurn, IsDown, IsTurn, Running, Stands, role_at, view_at}
use Rattle.clover_plain.specs.declared.pool.PlainPool.TheInside.{Inside}
use Rattle.clover_plain.proofs.Opening.{client_role, server_role}
use Rattle.clover_plain.proofs.Seating.{length_views}
use Rattle.clover_plain.proofs.Stepping.{nth_default}

module _ (i : Inside) (p : Plain) (k : IsKept i) (is : meaning i ≡ p) where
  stands : Stands p.opened p
  stands = subst (λ (q : Plain). Stands q.opened q) is k.stands

  pub running : p.opened ≡ true → Running p
  running e = subst (λ (b : Bool). Stands b p) e stands

  pub down : p.opened ≡ false → IsDown p
  down e = subst (λ (b : Bool). Stands b p) e stands

  -- the story of accesses, of a pool that runs or is down
  pub story : HasStory p
  story = go p.opened stands
    where
      go : (b : Bool) → Stands b p → HasStory p
      go true r = r.story
      go false d = d.story

  pub untraced : p.traced ≡ false → p.accesses ≡ []
  untraced t = go p.opened stands
    where
      go : (b : Bool) → Stands b p → p.accesses ≡ []
      go true r = r.untraced t
      go false d = d.untraced t

  role_here : p.opened ≡ true → (seat : ℕ) → seat < length p.views → (view_at p seat).pass.role ≡ role_at p.setup seat
  role_here e seat h = (running e).roles seat _ (nth_default p.views seat nobody h)

  -- a seat that an actor has, and its role
  pub seat_below : (a : Actor) (seat : ℕ) → HasSeat p a seat → seat < length p.views
  seat_below (Client n) seat h = let l = ap (λ (q : Plain). length q.views) (sym is) ∙ length_views i.seats.items in let m = subst (λ (q : Plain). q.setup.clients ≤ length i.seats.items) is k.seated in let x = h.1 in let y = h.2 in omega arith
  seat_below Server seat h = h.1
  seat_below Restart seat h = h.1

  pub seat_role : (a : Actor) → HasTurn p a → (seat : ℕ) → HasSeat p a seat → HasRole a (view_at p seat)
  seat_role (Client n) e seat h = let x = h.1 in let y = h.2 in role_here e seat (seat_below (Client n) seat h) ∙ client_role p.setup seat (omega arith) ∙ ap ClientRole y
  seat_role Server e seat h = let x = h.0 in role_here e seat h.1 ∙ server_role p.setup seat (omega arith)
  seat_role Restart e seat h = ap (λ (n : ℕ). (view_at p n).pass.role) h.0 ∙ (down e).restart

  -- no pool runs and is down
  opened_once : p.opened ≡ true → p.opened ≡ false → ⊥
  opened_once e f = let z : true ≡ false = sym e ∙ f in absurd cc

  -- the actor has its turn at its seat
  pub seat_turn : (a : Actor) → HasTurn p a → (seat : ℕ) → HasSeat p a seat → IsTurn p seat
  seat_turn (Client n) e seat h = λ f. absurd (opened_once e f)
  seat_turn Server e seat h = λ f. absurd (opened_once e f)
  seat_turn Restart e seat h = λ f. h.0

use Rattle.std.proofs.Common.{◌≡◌, ◌&&◌, Bool, true, false, refl}
use Rattle.clover_plain.proofs.Standing.{seat_below, seat_role, seat_turn}
use Rattle.clover_plain.proofs.pool.PlainPool.port.Goals as goal

left : (a : Bool) → (a && true) ≡ true → a ≡ true
left true e = refl
left false e = e

pub invariant_of-result : goal.invariant_of-result
invariant_of-result c = record {
  seated = seat_below c.self.inside c.args.self.now c.self.invariant c.self.view_is c.args.actor c.seat_of-seat.result c.seat_of-seat.ensures;
  turn = seat_turn c.self.inside c.args.self.now c.self.invariant c.self.view_is c.args.actor c.requires.opened c.seat_of-seat.result c.seat_of-seat.ensures;
  room = λ e. c.requires.room.access (left c.args.self.now.traced e);
  first = λ e. refl;
}

pub returns-clause-role : goal.returns-clause-role
returns-clause-role c = seat_role c.self.inside c.args.self.now c.self.invariant c.self.view_is c.args.actor c.requires.opened c.seat_of-seat.result c.seat_of-seat.ensures

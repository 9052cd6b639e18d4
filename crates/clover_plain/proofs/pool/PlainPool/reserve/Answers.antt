use Rattle.std.proofs.Common.{refl}
use Rattle.clover_plain.specs.Kept.{meaning}
use Rattle.clover_plain.proofs.Resting.{stands_room}
use Rattle.clover_plain.proofs.pool.PlainPool.reserve.Goals as goal

pub invariant_of-self-in-Continue-branch-2 : goal.invariant_of-self-in-Continue-branch-2
invariant_of-self-in-Continue-branch-2 c = record {
  stands = stands_room c.self.inside.opened (meaning c.self.inside) _ _ _ _ c.reserve.ensures.items c.reserve-then-self.ensures.items c.self.invariant.stands;
  sized = c.self.invariant.sized;
  seated = c.self.invariant.seated;
  spare = c.self.invariant.spare;
  seats = c.self.invariant.seats;
  one = c.self.invariant.one;
  beginning = c.self.invariant.beginning;
}

pub invariant_of-self-in_err-reserve-2 : goal.invariant_of-self-in_err-reserve-2
invariant_of-self-in_err-reserve-2 c = record {
  stands = stands_room c.self.inside.opened (meaning c.self.inside) _ _ _ _ c.reserve.ensures.items c.reserve-then-self.ensures.items c.self.invariant.stands;
  sized = c.self.invariant.sized;
  seated = c.self.invariant.seated;
  spare = c.self.invariant.spare;
  seats = c.self.invariant.seats;
  one = c.self.invariant.one;
  beginning = c.self.invariant.beginning;
}

pub invariant_of-self-else-self : goal.invariant_of-self-else-self
invariant_of-self-else-self c = record {
  stands = stands_room c.self.inside.opened (meaning c.self.inside) _ _ _ _ c.reserve.ensures.items refl c.self.invariant.stands;
  sized = c.self.invariant.sized;
  seated = c.self.invariant.seated;
  spare = c.self.invariant.spare;
  seats = c.self.invariant.seats;
  one = c.self.invariant.one;
  beginning = c.self.invariant.beginning;
}

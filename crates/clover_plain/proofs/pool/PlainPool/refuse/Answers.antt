use Rattle.std.proofs.Common.{refl, true, ap, ◌∙◌}
use Rattle.clover_rule.specs.declared.access.Actor.{Actor}
use Rattle.clover_plain.specs.Kept.{meaning}
use Rattle.clover_plain.specs.Plain.{Plain, Refused, grown}
use Rattle.clover_plain.proofs.Resting.{stands_refused}
use Rattle.clover_plain.proofs.pool.PlainPool.refuse.Goals as goal
use Rattle.clover_plain.proofs.pool.PlainPool.refuse.Goals.{After-note}

-- the pool before the access and after it
abbrev before : After-note → Plain
before c = meaning c.self.inside

abbrev then : After-note → Plain
then c = meaning record { setup = c.self.inside.setup; words = c.self.inside.words; seats = c.self.inside.seats; knowing = c.self.inside.knowing; begun = c.self.inside.begun; beginning = c.self.inside.beginning; entries = c.self.inside.entries; traced = c.self.inside.traced; trace = c.note.new.trace; made = c.self.inside.made; opened = c.self.inside.opened; whole = c.self.inside.whole }

refused : (c : After-note) → Refused c.args.act c.args.seat (before c) (then c)
refused c = record {
  words = refl;
  views = refl;
  accesses = c.note.ensures.list ∙ ap (λ (a : Actor). grown c.self.inside.traced c.self.inside.trace.items (record { actor = a; act = c.args.act; refused = true })) c.actor_of.ensures;
  made = refl;
  whole = refl;
  same = record { setup = refl; first = refl; used = refl; start = refl; absent = refl; entries = refl; traced = refl; opened = refl; entry_room = refl };
}

pub invariant_of-self : goal.invariant_of-self
invariant_of-self c = record {
  stands = stands_refused c.self.inside.opened c.args.act c.args.seat (before c) (then c) c.self.invariant.stands (refused c);
  sized = c.self.invariant.sized;
  seated = c.self.invariant.seated;
  spare = c.self.invariant.spare;
  seats = c.self.invariant.seats;
  one = c.self.invariant.one;
  beginning = c.self.invariant.beginning;
}

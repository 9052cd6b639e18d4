use Rattle.std.proofs.Common.{ap, sym, subst, refl, arith}
use Rattle.clover_dir.specs.Directory.{Bindings, IsBound}
use Rattle.clover_dir.proofs.Roots.{low_below, low_free}
use Rattle.clover_dir.proofs.directory.Directory.free_slot.Goals as goal

pub returns-then-self-clause-lowest : goal.returns-then-self-clause-lowest
returns-then-self-clause-lowest c s l = subst (IsBound s) c.self.view_is (low_below c.self.inside c.self.invariant s l)

pub returns-then-self-clause-none : goal.returns-then-self-clause-none
returns-then-self-clause-none c =
    let slots = ap (λ (d : Bindings). d.pool.slots) c.self.view_is in
    let there = c.if-self.true in (
      λ e. cc,
      λ all. absurd (low_free c.self.inside c.self.invariant c.if-self.true (subst (IsBound c.self.inside.low) (sym c.self.view_is) (all c.self.inside.low (omega arith)))),
    )

pub returns-else-self-clause-none : goal.returns-else-self-clause-none
returns-else-self-clause-none c =
    let slots = ap (λ (d : Bindings). d.pool.slots) c.self.view_is in
    let past = c.if-self.false in (
      λ e s l. subst (IsBound s) c.self.view_is (low_below c.self.inside c.self.invariant s (omega arith)),
      λ all. refl,
    )

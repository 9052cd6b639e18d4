use Rattle.std.proofs.Common.{ap}
use Rattle.clover_cache.specs.Cursors.{after_find}
use Rattle.clover_cache.proofs.Keeping.{promoted-after_find, IsCursorList-after_find}
use Rattle.clover_cache.proofs.cursors.Cursors.find.Goals as goal

pub invariant_of-self : goal.invariant_of-self
invariant_of-self c =
    let entries = c.self.inside.cache.entries in
    let holds = c.self.invariant.1 in
    rw (c.get.follows.holds-at-none, promoted-after_find c.args.slot entries holds) (c.self.invariant.0, IsCursorList-after_find c.args.slot entries holds)

pub returns-clause-list : goal.returns-clause-list
returns-clause-list c = rw (c.get.follows.holds-at-none, promoted-after_find c.args.slot c.self.inside.cache.entries c.self.invariant.1) (ap (after_find c.args.slot) c.self.view_is)

pub returns-clause-valid : goal.returns-clause-valid
returns-clause-valid c =
    let entries = c.self.inside.cache.entries in
    let holds = c.self.invariant.1 in
    rw (c.get.follows.holds-at-none, promoted-after_find c.args.slot entries holds) (IsCursorList-after_find c.args.slot entries holds)

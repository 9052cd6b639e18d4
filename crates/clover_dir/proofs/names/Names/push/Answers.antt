use Rattle.std.proofs.Common.{◌≡◌, length, refl, rules}
use Rattle.clover_dir.specs.Index.{IsGapFor}
use Rattle.clover_dir.proofs.Pairs.{no_place, pushed_kept}
use Rattle.clover_dir.proofs.names.Names.push.Goals as goal
use Rattle.clover_dir.proofs.names.Names.push.Goals.{In-Ok-push, in-Ok, in-Ok-2}

-- the key is new, so the search gave the place where it goes
gap : (c : In-Ok-push) → IsGapFor c.self.inside.list.items c.self.inside.order.items c.args.key c.match-search.place
gap c = elim c.match-search.branch [
  | in-Ok w ↦ absurd (no_place c.self.inside c.self.invariant c.args.self.now c.self.view_is c.args.key c.requires.new w.in-Ok.place (rw (← c.deref.ensures.value, ← c.deref-2.ensures.value) w.in-Ok.ensures.found))
  | in-Ok-2 w ↦ rw (w.place-is, ← c.deref.ensures.value, ← c.deref-2.ensures.value) w.in-Ok.ensures.absent
]

pub invariant_of-self : goal.invariant_of-self
invariant_of-self c =
    let position : c.len.result ≡ length c.self.inside.list.items = search rules in
    pushed_kept c.self.inside (record { list = c.push.new.self; order = c.insert.new.self; most = c.self.inside.most }) c.self.invariant c.args.self.now c.self.view_is c.args.slot c.args.key c.match-search.place _ _ (gap c) c.requires.room
    c.in-Ok-push.ensures.items c.in-Ok-insert.ensures.items c.head.ensures position refl c.push.ensures.capacity c.insert.ensures.capacity

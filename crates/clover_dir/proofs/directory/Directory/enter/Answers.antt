use Rattle.std.proofs.Common.{◌≡◌, ◌≤◌, ◌<◌, List, length, get_or, ap, refl, subst, arith, ⊎_elim}
use Rattle.std.specs.Prelude.{Option, Some, None, IsSome}
use Rattle.std.proofs.lemmas.Bool.{cases_lt}
use Rattle.std.specs.Vec.{with_item}
use Rattle.clover_words.specs.Tag.{TagParts}
use Rattle.clover_rule.specs.Lists.{Within}
use Rattle.clover_dir.specs.Directory.{Bindings, IsBound}
use Rattle.clover_dir.specs.Names.{NameList}
use Rattle.clover_dir.specs.declared.directory.Directory.TheInside.{Inside}
use Rattle.clover_dir.proofs.Roots.{room_left, entered_kept, still_below}
use Rattle.clover_dir.proofs.directory.Directory.enter.Goals as goal

pub push-requires-clause-room : goal.push-requires-clause-room
push-requires-clause-room c = room_left c.self.inside c.self.invariant c.args.slot (let e = ap (λ (d : Bindings). d.pool.slots) c.self.view_is in let h = c.requires.slot in omega arith) (λ b. c.requires.unbound (subst (IsBound c.args.slot) c.self.view_is b))

pub push-requires-clause-new : goal.push-requires-clause-new
push-requires-clause-new c = λ slot w. c.requires.new slot (subst (Within (slot, c.args.key)) (ap (λ (d : Bindings). d.list) c.self.view_is) w)

pub invariant_of-self : goal.invariant_of-self
invariant_of-self c =
    let slot = c.args.slot in
    let low = c.self.inside.low in
    let e = ap (λ (d : Bindings). d.pool.slots) c.self.view_is in
    let m : Inside = record { pool = c.self.inside.pool; names = c.push.new.self; roots = with_item c.self.inside.roots slot (Some c.args.root); low = low } in
    let h = c.requires.slot in
    entered_kept c.self.inside c.self.invariant slot c.args.root _ refl refl c.args.key (omega arith)
    (λ b. c.requires.unbound (subst (IsBound slot) c.self.view_is b))
    (λ s w. c.requires.new s (subst (Within (s, c.args.key)) (ap (λ (d : Bindings). d.list) c.self.view_is) w))
    (ap (λ (n : NameList). n.list) c.push.ensures.list) (ap (λ (n : NameList). n.most) c.push.ensures.list)
    (subst (λ (xs : List (Option TagParts)). c.first_unbound-self-inside.result ≤ length xs) c.deref.ensures.value c.first_unbound-self-inside.ensures.inside)
    (subst (λ (xs : List (Option TagParts)). c.first_unbound-self-inside.result < length xs → get_or xs c.first_unbound-self-inside.result None ≡ None) c.deref.ensures.value c.first_unbound-self-inside.ensures.first)
    (λ s l. ⊎_elim
    (λ (b : s < low). still_below c.self.inside c.self.invariant slot c.args.root m refl refl s (omega arith))
    (λ (b : low ≤ s). subst (λ (xs : List (Option TagParts)). IsSome (get_or xs s None)) c.deref.ensures.value (c.first_unbound-self-inside.ensures.before s b l))
    (cases_lt s low))

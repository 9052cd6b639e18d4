use Rattle.std.proofs.Common.{ap, refl}
use Rattle.std.specs.Prelude.{Some}
use Rattle.clover_dir.proofs.Pairs.{found_there, found_only, gap_new}
use Rattle.clover_dir.specs.Index.{IsPlaceOf, IsGapFor}
use Rattle.clover_dir.proofs.names.Names.find.Goals as goal
use Rattle.clover_dir.proofs.names.Names.find.Goals.{After-index-in-Ok, In-Err}

place : (c : After-index-in-Ok) → IsPlaceOf c.self.inside.list.items c.self.inside.order.items c.args.key.now c.in-Ok.place
place c = rw (← c.deref.ensures.value, ← c.deref-2.ensures.value) c.in-Ok.ensures.found

gap : (c : In-Err) → IsGapFor c.self.inside.list.items c.self.inside.order.items c.args.key.now c.in-Err.field-0
gap c = rw (← c.deref.ensures.value, ← c.deref-2.ensures.value) c.in-Err.ensures.absent

pub returns-in-Ok-clause-found : goal.returns-in-Ok-clause-found
returns-in-Ok-clause-found c = found_there c.self.inside c.self.invariant c.args.self.now c.self.view_is c.args.key.now c.in-Ok.place (place c) c.index.result.now c.index.ensures c.index-in-Ok.result.now c.index-in-Ok.ensures

pub returns-in-Ok-clause-only : goal.returns-in-Ok-clause-only
returns-in-Ok-clause-only c slot w = ap Some (found_only c.self.inside c.self.invariant c.args.self.now c.self.view_is c.args.key.now c.in-Ok.place (place c) c.index.result.now c.index.ensures c.index-in-Ok.result.now c.index-in-Ok.ensures slot w)

pub returns-in-Ok-clause-none : goal.returns-in-Ok-clause-none
returns-in-Ok-clause-none c = (λ e. cc, λ new. absurd (new c.index-in-Ok.result.now.slot (returns-in-Ok-clause-found c)))

pub returns-in-Err-clause-only : goal.returns-in-Err-clause-only
returns-in-Err-clause-only c slot w = absurd (gap_new c.self.inside c.self.invariant c.args.self.now c.self.view_is c.args.key.now c.in-Err.field-0 (gap c) slot w)

pub returns-in-Err-clause-none : goal.returns-in-Err-clause-none
returns-in-Err-clause-none c = (λ _. gap_new c.self.inside c.self.invariant c.args.self.now c.self.view_is c.args.key.now c.in-Err.field-0 (gap c), λ _. refl)

use Rattle.std.proofs.Common.{◌≡◌, ℕ, ◌+◌, true, false, refl, sym, ap, ◌∙◌, subst, arith}
use Rattle.std.specs.Prelude.{Option, Some, None}
use Rattle.std.specs.Option.{is_some}
use Rattle.clover_words.specs.declared.pool.Pool.{Pool}
use Rattle.clover_image.specs.Damage.KeyFault.{shares}
use Rattle.clover_image.specs.Reading.{decoded}
use Rattle.clover_image.proofs.Entering.{KeysEntered, at, keys_more, keys_shared, keys_skip, root_gone, root_there}
use Rattle.clover_image.proofs.soundness.keys.Goals as goal
use Rattle.clover_image.proofs.soundness.keys.Goals.{then-is_some+in-Some+in_ok-insert+else-is_some-2, else-is_some}

-- what the insertion of a key answered
was_there : (o : Option ℕ) → is_some o ≡ true → (s : ℕ) × (o ≡ Some s)
was_there None e = absurd (let z : false ≡ true = e in cc)
was_there (Some s) e = (s, refl)

was_new : (o : Option ℕ) → is_some o ≡ false → o ≡ None
was_new None e = refl
was_new (Some s) e = absurd (let z : true ≡ false = e in cc)

pub returns-then-is_some-2-clause-err : goal.returns-then-is_some-2-clause-err
returns-then-is_some-2-clause-err c =
    let m = c.args.image.now in let s = c.loop-slot.slot in let k = c.in-Some.key in let said = c.in-Some.ensures.some in
    let root = root_there ((decoded m).root s) c.root_tag.result c.root_tag.ensures.value (sym c.is_some.ensures ∙ c.if-is_some.true) in
    let there = was_there c.in_ok-insert.field-0 (sym c.is_some-then-is_some.ensures ∙ c.if-is_some-2.true) in
    let slots = ap (λ (p : Pool). p.slots) c.pool-slot-end.ensures in
    record {
      slot = s;
      within = omega (arith, slots, c.loop-slot-test.true);
      before = c.loop-slot.invariant.hold;
      fault = shares (keys_shared m s c.loop-slot.slots c.loop-slot.invariant root.0 root.1 k said.1 said.2 there.0 (sym c.in_ok-insert.ensures.old ∙ there.1)) refl;
    }

pub loop-slot-preserved : goal.loop-slot-preserved
loop-slot-preserved c =
    let m = c.args.image.now in let s = c.loop-slot.slot in let old = c.loop-slot.slots in
    elim c.if-is_some.branch [
      | then-is_some+in-Some+in_ok-insert+else-is_some-2 w ↦
          let k = w.in-Some.key in let said = w.in-Some.ensures.some in
          let root = root_there ((decoded m).root s) c.root_tag.result c.root_tag.ensures.value (sym c.is_some.ensures ∙ w.if-is_some.true) in
          let lacks : at old k ≡ None = sym w.in_ok-insert.ensures.old ∙ was_new w.in_ok-insert.field-0 (sym w.is_some-then-is_some.ensures ∙ w.if-is_some-2.false) in
          subst (KeysEntered m (s + 1)) (sym w.slots-is) (keys_more m s old c.loop-slot.invariant root.0 root.1 k said.1 said.2 w.insert.new.self lacks w.in_ok-insert.ensures.updates)
      | else-is_some w ↦
          subst (KeysEntered m (s + 1)) (sym w.slots-is) (keys_skip m s old c.loop-slot.invariant (root_gone ((decoded m).root s) c.root_tag.result c.root_tag.ensures.value (sym c.is_some.ensures ∙ w.if-is_some.false)))
    ]

use Rattle.std.proofs.Common.{◌≡◌, ◌<◌, ℕ, List, [], Bool, true, false, refl, ◌∙◌}
use Rattle.std.specs.Prelude.{Option, Some, None, IfNone, IsTrue}
use Rattle.std.specs.FinMap.{insert}
use Rattle.clover_map.specs.declared.bytes.Value.{Value}
use Rattle.clover_map.specs.Does.{held}
use Rattle.clover_map.specs.Tagged.{Tagged}
use Rattle.clover_map.specs.Tags.{IsFresh}
use Rattle.clover_rule.proofs.Spelling.{one_key}
use Rattle.clover_rule.proofs.TaggedMaps.{fresh_all}
use Rattle.clover_image.specs.Reading.{HasKey, decoded}
use Rattle.clover_image.proofs.map.enter.Goals as goal
use Rattle.clover_image.proofs.map.enter.Goals.{in_default-via-in-Some+in_default, in_default-via-in_default}

-- with no tags used, a write may be answered by any tag
put_answered : (yes : Bool) (m n : Tagged) (k : List ℕ) (t : ℕ) (v : Value) → (IsTrue yes → IsFresh [] t × (n ≡ insert m k (held t v)))
    → (yes ≡ false → (n ≡ m) × ((x : Tagged) → IsFresh [] t × (x ≡ insert m k (held t v)) → ⊥)) → n ≡ insert m k (held t v)
put_answered true m n k t v done not = (done refl).1
put_answered false m n k t v done not = absurd ((not refl).1 (insert m k (held t v)) (fresh_all [] t tt, refl))

none_said : {A : Type 0} (o : Option A) (P : Type 0) → IfNone o P → o ≡ None → P
none_said None P h e = h
none_said (Some a) P h e = absurd (cc)

pub returns-in_ok-apply : goal.returns-in_ok-apply
returns-in_ok-apply c = λ key value lt is sp has.
    let m = c.args.image.now in let said = c.in-Some-Some.ensures.some in let old = c.args.map.now in
    let k = c.in-Some-Some.key in let v = c.in-Some-Some.value in
    let same_key : k ≡ key = one_key ((decoded m).key c.args.slot) k key said.1 is said.2 sp in
    let told : c.in_ok-value.value ≡ Some value = c.in_ok-value.ensures (Some value) has in
    let same_value : v ≡ value = cc in
    put_answered c.in_ok-apply.field-0 old c.apply.new.self k c.number.result v c.in_ok-apply.ensures.yes c.in_ok-apply.ensures.no
    ∙ (λ i. insert old (same_key i) (held (c.number.ensures.value i) (same_value i)))

pub returns-in_default : goal.returns-in_default
returns-in_default c = λ key value lt is sp has.
    let told : c.in_ok-value.value ≡ Some value = c.in_ok-value.ensures (Some value) has in
    elim c.in_default.branch [
      | in_default-via-in-Some+in_default w ↦ absurd (let empty = w.in_default.is-1 in cc)
      | in_default-via-in_default w ↦ absurd (none_said c.key_of.result (c.args.slot < c.args.image.now.pool.slots → HasKey (decoded c.args.image.now) c.args.slot → ⊥) c.key_of.ensures.none w.in_default.is-0 lt (key, is, sp))
    ]

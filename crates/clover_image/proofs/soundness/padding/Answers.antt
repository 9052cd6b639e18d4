use Rattle.std.proofs.Common.{◌≡◌, ℕ, ◌/◌, ◌%◌, true, false, sym, ap, ◌∙◌, arith}
use Rattle.clover_words.specs.declared.word.Word.TheVariants.{Value as ValueOf}
use Rattle.clover_words.specs.Meta.{MetaParts}
use Rattle.clover_words.specs.Tag.{home, tag_number}
use Rattle.clover_words.specs.Version.{buffer_at}
use Rattle.clover_image.specs.Damage.ContentDamage.{padding}
use Rattle.clover_image.specs.declared.damage.DamageRule.TheVariants.{Padding}
use Rattle.clover_image.specs.Reading.{number_in, of_value}
use Rattle.clover_image.proofs.Padding.{dead_content, live_content, padded_along}
use Rattle.clover_image.proofs.soundness.padding.Goals as goal
use Rattle.clover_image.proofs.soundness.padding.Goals.{then-not-is_value-via-then-not-is_value, then-not-is_value-via-else-not-is_value+then-meta-eq0}

pub returns-then-not-is_value-clause-ok : goal.returns-then-not-is_value-clause-ok
returns-then-not-is_value-clause-ok c =
    let m = c.args.image.now in let t = tag_number c.args.tag in let n = c.args.meta in
    let long : c.meta.inside.length ≡ n.length = ap (λ (k : MetaParts). k.length) c.meta.view_is in
    elim c.then-not-is_value.branch [
      | then-not-is_value-via-then-not-is_value w ↦ dead_content m t n c.requires.range.0 c.requires.says (let z : of_value n.kind ≡ false = cc (c.is_value.ensures, w.if-not-is_value.true) in z)
      | then-not-is_value-via-else-not-is_value+then-meta-eq0 w ↦
          let none = w.if-meta-eq0.true in
          live_content m t n c.requires.range.0 c.requires.says (λ i. c.requires.small _) (let z : of_value n.kind ≡ true = cc (c.is_value.ensures, w.if-not-is_value.false) in z) (λ some. absurd (omega arith))
    ]

pub returns-in-Some-clause-ok : goal.returns-in-Some-clause-ok
returns-in-Some-clause-ok c =
    let m = c.args.image.now in let t = tag_number c.args.tag in let n = c.args.meta in let said = c.in-Some.ensures.some in
    let long : c.meta.inside.length ≡ n.length = ap (λ (k : MetaParts). k.length) c.meta.view_is in
    let last : c.in-Some.last ≡ number_in m (ValueOf (buffer_at (home t)) (n.length / 8)) = said.1 ∙ (λ i. number_in m (ValueOf (c.buffer.ensures.value i) (long i / 8))) in
    live_content m t n c.requires.range.0 c.requires.says (λ i. c.requires.small _) (let z : of_value n.kind ≡ true = cc (c.is_value.ensures, c.if-not-is_value.false) in z)
    (λ some. padded_along c.in-Some.last _ (c.meta.inside.length % 8) _ last (ap (λ (k : ℕ). k % 8) long) (c.is_padded.ensures.0 c.if-is_padded.true))

pub returns-in_default-clause-err : goal.returns-in_default-clause-err
returns-in_default-clause-err c =
    let m = c.args.image.now in let t = tag_number c.args.tag in let n = c.args.meta in let said = c.in-Some.ensures.some in
    let long : c.meta.inside.length ≡ n.length = ap (λ (k : MetaParts). k.length) c.meta.view_is in
    let last : c.in-Some.last ≡ number_in m (ValueOf (buffer_at (home t)) (n.length / 8)) = said.1 ∙ (λ i. number_in m (ValueOf (c.buffer.ensures.value i) (long i / 8))) in
    padding n (record {
      says = c.requires.says;
      value = (let z : of_value n.kind ≡ true = cc (c.is_value.ensures, c.if-not-is_value.false) in z);
      inside = let some = c.if-meta-eq0.false in omega arith;
      behind = λ h. absurd (let e = c.is_padded.ensures.1 (padded_along _ c.in-Some.last _ (c.meta.inside.length % 8) (sym last) (sym (ap (λ (k : ℕ). k % 8) long)) h) in cc);
    }) (λ i. record { rule = Padding; word = ValueOf (c.buffer.ensures.value i) (long i / 8) })

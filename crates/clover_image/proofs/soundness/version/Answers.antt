use Rattle.std.proofs.Common.{◌≡◌, ◌≢◌, true≢false, Bool, true, false, refl, sym, ap, ◌∙◌, subst}
use Rattle.std.specs.Prelude.{not, slice_index_or}
use Rattle.std.specs.Option.{option_map}
use Rattle.clover_words.specs.declared.pool.Pool.{Pool}
use Rattle.clover_words.specs.declared.word.Buffer.{Buffer}
use Rattle.clover_words.specs.declared.word.Word.TheVariants.{Next}
use Rattle.clover_words.specs.Next.{NextParts, IsNext, next_word}
use Rattle.clover_words.specs.Place.{IsBuffer}
use Rattle.clover_words.specs.Tag.{TagParts, IsTag, tag_number, home, age}
use Rattle.clover_words.specs.Version.{buffer_at}
use Rattle.clover_words.proofs.Versions.{age_tag}
use Rattle.clover_rule.specs.Memory.{gen, link}
use Rattle.clover_rule.proofs.Codecs.{shown_next}
use Rattle.clover_rule.proofs.Ties.{buffer_in}
use Rattle.clover_image.specs.declared.damage.DamageRule.TheVariants.{Generation, Twice}
use Rattle.clover_image.specs.Damage.TagFault.{generation, twice, content}
use Rattle.clover_image.specs.Image.{PoolImage}
use Rattle.clover_image.specs.Reading.{decoded, number_in}
use Rattle.clover_image.specs.Walking.{place_of}
use Rattle.clover_image.proofs.Answered.{handed_on}
use Rattle.clover_image.proofs.Tails.{next_said}
use Rattle.clover_image.proofs.soundness.version.Goals as goal
use Rattle.clover_image.proofs.soundness.version.Goals.{in_default-via-in-Some+else-next-tag, in_default-via-in_default}

not_first : (r b : Bool) → r ≡ not b → r ≡ false → b ≡ true
not_first r true e f = refl
not_first r false e f = absurd (let z : false ≡ true = sym f ∙ e in cc)

is_first : (r b : Bool) → r ≡ not b → r ≡ true → b ≡ false
is_first r false e f = refl
is_first r true e f = absurd (let z : true ≡ false = sym f ∙ e in cc)

-- a tag's buffer serves its generation where its next word says it
serves : (m : PoolImage) (t : TagParts) (b : Buffer) (n : NextParts) → IsTag t → (b ≡ buffer_at (home (tag_number t))) → IsBuffer m.pool b × IsNext n × (next_word n ≡ number_in m (Next b))
    → n.own ≡ t.generation → gen ((decoded m).next (home (tag_number t))) ≡ age (tag_number t)
serves m t b n is at said e = ap gen (next_said m (tag_number t) b n at said.0 said.1 said.2) ∙ e ∙ sym (age_tag t is)

passed : (m : PoolImage) (t : TagParts) (b : Buffer) (n : NextParts) → IsTag t → (b ≡ buffer_at (home (tag_number t))) → IsBuffer m.pool b × IsNext n × (next_word n ≡ number_in m (Next b))
    → n.own ≢ t.generation → gen ((decoded m).next (home (tag_number t))) ≢ age (tag_number t)
passed m t b n is at said ne e = ne (sym (ap gen (next_said m (tag_number t) b n at said.0 said.1 said.2)) ∙ e ∙ age_tag t is)

pub returns-in_default-clause-err : goal.returns-in_default-clause-err
returns-in_default-clause-err c =
    let m = c.args.image.now in let t = c.args.tag in let is : IsTag t = subst IsTag c.tag.view_is c.tag.invariant in
    generation
    (elim c.in_default.branch [
      | in_default-via-in-Some+else-next-tag w ↦
          passed m t c.buffer.result w.in-Some.next is c.buffer.ensures.value w.in-Some.ensures.some
          (λ e. w.if-next-tag.false (ap (λ (n : NextParts). n.own) w.next.view_is ∙ e ∙ sym (ap (λ (x : TagParts). x.generation) c.tag.view_is)))
      | in_default-via-in_default w ↦ λ e.
          let b = buffer_at (home (tag_number t)) in
          let d = shown_next m.pool b (number_in m (Next b)) c.requires.next.shown in
          let at = c.buffer.ensures.value in
          let in_pool : IsBuffer m.pool c.buffer.result = subst (IsBuffer m.pool) (sym at) (buffer_in m.pool (home (tag_number t)) c.requires.range.0) in
          w.in_default.not-Some d.0 (c.next_of.ensures.only d.0 in_pool d.1 (d.2 ∙ ap (λ (x : Buffer). number_in m (Next x)) (sym at)))
    ])
    (λ i. record { rule = Generation; word = c.next_word-word.ensures.value i })

pub returns-then-not-is_first-clause-err : goal.returns-then-not-is_first-clause-err
returns-then-not-is_first-clause-err c =
    let m = c.args.image.now in let t = c.args.tag in let is : IsTag t = subst IsTag c.tag.view_is c.tag.invariant in
    let at = ap (λ (p : Pool). slice_index_or c.args.met.now (place_of p (tag_number t)) false) c.pool.ensures in
    let own : c.in-Some.next.own ≡ t.generation = sym (ap (λ (n : NextParts). n.own) c.next.view_is) ∙ c.if-next-tag.true ∙ ap (λ (x : TagParts). x.generation) c.tag.view_is in
    twice (serves m t c.buffer.result c.in-Some.next is c.buffer.ensures.value c.in-Some.ensures.some own) (sym at ∙ not_first c.is_first.result _ c.is_first.ensures.first c.if-not-is_first.true)
    (λ i. record { rule = Twice; word = c.next_word-word.ensures.value i })

pub returns-in_err-content-clause-err : goal.returns-in_err-content-clause-err
returns-in_err-content-clause-err c =
    let m = c.args.image.now in let t = c.args.tag in let is : IsTag t = subst IsTag c.tag.view_is c.tag.invariant in
    let at = ap (λ (p : Pool). slice_index_or c.args.met.now (place_of p (tag_number t)) false) c.pool.ensures in
    let own : c.in-Some.next.own ≡ t.generation = sym (ap (λ (n : NextParts). n.own) c.next.view_is) ∙ c.if-next-tag.true ∙ ap (λ (x : TagParts). x.generation) c.tag.view_is in
    let fresh = is_first c.is_first.result _ c.is_first.ensures.first c.if-not-is_first.false in
    handed_on c.from_residual.result c.in_err-content.field-0.0 _ c.from_residual.ensures.1
    (content (serves m t c.buffer.result c.in-Some.next is c.buffer.ensures.value c.in-Some.ensures.some own) (λ met. true≢false (sym met ∙ sym at ∙ fresh)) c.in_err-content.ensures.err)

pub returns-clause-ok : goal.returns-clause-ok
returns-clause-ok c =
    let m = c.args.image.now in let t = c.args.tag in let is : IsTag t = subst IsTag c.tag.view_is c.tag.invariant in
    let own : c.in-Some.next.own ≡ t.generation = sym (ap (λ (n : NextParts). n.own) c.next.view_is) ∙ c.if-next-tag.true ∙ ap (λ (x : TagParts). x.generation) c.tag.view_is in
    let said = c.in-Some.ensures.some in
    record {
      serves = serves m t c.buffer.result c.in-Some.next is c.buffer.ensures.value said own;
      links = ap link (next_said m (tag_number t) c.buffer.result c.in-Some.next c.buffer.ensures.value said.0 said.1 said.2) ∙ ap (λ (n : NextParts). option_map tag_number n.link) (sym c.next.view_is);
      content = c.in_ok-content.ensures.ok;
    }

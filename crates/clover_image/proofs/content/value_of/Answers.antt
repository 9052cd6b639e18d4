use Rattle.std.proofs.Common.{◌≡◌, sym, ap, ◌∙◌, subst, arith}
use Rattle.std.specs.Prelude.{Option, Some}
use Rattle.clover_words.specs.declared.pool.Pool.{Pool}
use Rattle.clover_words.specs.declared.word.Buffer.{Buffer}
use Rattle.clover_words.specs.Meta.{MetaParts}
use Rattle.clover_words.specs.Tag.{tag_number}
use Rattle.clover_map.specs.declared.bytes.Value.{Value}
use Rattle.clover_image.specs.Contents.{HasWords}
use Rattle.clover_image.specs.Reading.{of_value}
use Rattle.clover_image.proofs.Contents.{version_none, version_some}
use Rattle.clover_image.proofs.content.value_of.Goals as goal
use Rattle.clover_image.proofs.content.value_of.Goals.{in_default-via-in-Some+then-is_value+else-meta-pool, in_default-via-in-Some+else-is_value, in_default-via-in_default}

pub returns-in_ok-bytes-in-Some : goal.returns-in_ok-bytes-in-Some
returns-in_ok-bytes-in-Some c = λ x has.
    let m = c.args.image.now in let t = tag_number c.args.tag in let n = c.in-Some.meta in let bytes = c.in_ok-bytes-in-Some.bytes in
    let flags : c.meta.inside.flags ≡ n.flags = ap (λ (k : MetaParts). k.flags) c.meta.view_is in
    let long : c.meta.inside.length ≡ n.length = ap (λ (k : MetaParts). k.length) c.meta.view_is in
    let start : ◌≡◌ {A = Option Value} (Some record { flags = c.meta.inside.flags; bytes = bytes }) (Some record { flags = n.flags; bytes = bytes }) = λ i. Some record { flags = flags i; bytes = bytes } in
    start
    ∙ version_some m t x n bytes has (sym c.is_value.ensures ∙ c.if-is_value.true)
    (λ k is. let e : Some n ≡ Some k = sym c.in-Some.is ∙ c.meta_of.ensures.only k is.0 is.1 is.2 in cc)
    (λ value are sized words. c.in_ok-bytes-in-Some.ensures value are (sized ∙ sym long) (subst (λ (b : Buffer). HasWords m b value) (sym c.buffer.ensures.value) words))

pub returns-in_default : goal.returns-in_default
returns-in_default c = λ x has.
    let m = c.args.image.now in let t = tag_number c.args.tag in
    version_none m t x has (λ n is live short.
    let only = c.meta_of.ensures.only n is.0 is.1 is.2 in
    elim c.in_default.branch [
      | in_default-via-in-Some+then-is_value+else-meta-pool w ↦
          let e : w.meta.inside.length ≡ n.length = ap (λ (k : MetaParts). k.length) (w.meta.view_is ∙ (let q : w.in-Some.meta ≡ n = cc in q)) in
          omega (arith, w.if-meta-pool.false, ap (λ (p : Pool). p.words) w.pool.ensures)
      | in_default-via-in-Some+else-is_value w ↦
          let e : of_value w.in-Some.meta.kind ≡ of_value n.kind = ap (λ (k : MetaParts). of_value k.kind) (let q : w.in-Some.meta ≡ n = cc in q) in
          absurd (cc (e, live, w.is_value.ensures, w.if-is_value.false))
      | in_default-via-in_default w ↦ w.in_default.not-Some n only
    ])

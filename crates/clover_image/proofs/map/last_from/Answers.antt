use Rattle.std.proofs.Common.{◌*◌, sym, ap, ◌∙◌, subst, arith, Some}
use Rattle.std.specs.Option.{option_map}
use Rattle.clover_words.specs.declared.pool.Pool.{Pool}
use Rattle.clover_words.specs.Next.{NextParts}
use Rattle.clover_words.specs.Place.{IsBuffer}
use Rattle.clover_words.specs.Tag.{tag_number, home}
use Rattle.clover_rule.proofs.Ties.{buffer_in}
use Rattle.clover_image.specs.Reading.{decoded}
use Rattle.clover_image.proofs.Decoding.{next_decodes}
use Rattle.clover_image.proofs.Tails.{link_said, reached_few, reached_first, reached_last, reached_next, reached_range}
use Rattle.clover_image.proofs.map.last_from.Goals as goal

pub loop-steps-init : goal.loop-steps-init
loop-steps-init c = λ sound tags chain range. reached_first (decoded c.args.image.now) (tag_number c.args.root) tags chain

pub returns-in_err-tag : goal.returns-in_err-tag
returns-in_err-tag c = λ sound tags chain range.
    let m = c.args.image.now in let t = tag_number c.loop-steps.last in
    let r = c.loop-steps.invariant sound tags chain range in
    let i = reached_range m.pool (decoded m) tags c.loop-steps._steps t r range in
    let b = subst (IsBuffer m.pool) (sym c.buffer.ensures.value) (buffer_in m.pool (home t) i.0) in
    let d = next_decodes m sound c.buffer.result b in
    absurd (let e = c.in_err-tag.ensures.only d.0 b d.1 d.2 in cc)

pub returns-in-None : goal.returns-in-None
returns-in-None c = λ sound tags chain range.
    let m = c.args.image.now in let t = tag_number c.loop-steps.last in
    let said = c.in_ok-tag.ensures.some in
    let l = link_said m t c.buffer.result c.in_ok-tag.field-0 c.buffer.ensures.value said.0 said.1 said.2 in
    let e = ap (λ (n : NextParts). option_map tag_number n.link) (sym c.branch.view_is) ∙ ap (option_map tag_number) c.in-None.is in
    sym (reached_last m.pool (decoded m) tags c.loop-steps._steps t (c.loop-steps.invariant sound tags chain range) (l ∙ e))

pub loop-steps-preserved : goal.loop-steps-preserved
loop-steps-preserved c = λ sound tags chain range.
    let m = c.args.image.now in let t = tag_number c.loop-steps.last in
    let said = c.in_ok-tag.ensures.some in
    let l = link_said m t c.buffer.result c.in_ok-tag.field-0 c.buffer.ensures.value said.0 said.1 said.2 in
    let e = ap (λ (n : NextParts). option_map tag_number n.link) (sym c.branch.view_is) ∙ ap (option_map tag_number) c.in-Some.is in
    reached_next m.pool (decoded m) tags c.loop-steps._steps t (c.loop-steps.invariant sound tags chain range) (tag_number c.in-Some.tag) (l ∙ e)

pub returns : goal.returns
returns c = λ sound tags chain range.
    let m = c.args.image.now in
    let f = reached_few m.pool (decoded m) tags c.loop-steps._steps (tag_number c.loop-steps.last) (c.loop-steps.invariant sound tags chain range) (Some (tag_number c.args.root)) chain range in
    let total = c.total-steps-end.ensures.value ∙ ap (λ (p : Pool). p.nodes * p.buffers) c.pool.ensures in
    absurd (omega (arith, c.loop-steps-test.false))

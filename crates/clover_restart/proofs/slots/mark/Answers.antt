use Rattle.std.proofs.Common.{ℕ, get_or, set, ap, ◌∙◌, arith}
use Rattle.clover_words.specs.Tag.{tag_number, home}
use Rattle.clover_alloc.specs.declared.line.Place.TheVariants.{Free, Bound, Out}
use Rattle.clover_restart.proofs.Marking.{item_inside, mark_more, mark_root, place_below}
use Rattle.clover_restart.proofs.slots.mark.Goals as goal

pub bounds-marks-place_of : goal.bounds-marks-place_of
bounds-marks-place_of c =
    let p = c.args.pool.now in let t = c.tag-item.result in
    let at = item_inside p c.args.chain.now c.loop-tag.tag-index t c.requires.chain c.loop-tag-test.true c.tag-item.is in
    let l = place_below p (home (tag_number t)) at in let e = c.place_of.ensures in let long = c.loop-tag.auto.marks in let z = c.requires.sized in
    omega arith

pub loop-tag-preserved : goal.loop-tag-preserved
loop-tag-preserved c =
    let p = c.args.pool.now in let t = c.tag-item.result in let ts = c.args.chain.now in
    let at = item_inside p ts c.loop-tag.tag-index t c.requires.chain c.loop-tag-test.true c.tag-item.is in
    λ q h. ap (λ (n : ℕ). get_or (set c.loop-tag.marks n Out) q Free) c.place_of.ensures
    ∙ mark_more p c.args.marks.now c.loop-tag.marks ts c.loop-tag.tag-index t c.loop-tag-test.true c.tag-item.is at (c.loop-tag.auto.marks ∙ c.requires.sized) c.loop-tag.invariant q h

pub bounds-marks-place_of-2 : goal.bounds-marks-place_of-2
bounds-marks-place_of-2 c =
    let l = place_below c.args.pool.now (home (tag_number c.args.root)) c.requires.root.0 in let e = c.place_of-2.ensures in let long = c.loop-tag.auto.marks in let z = c.requires.sized in
    omega arith

pub returns-clause-marks : goal.returns-clause-marks
returns-clause-marks c =
    let p = c.args.pool.now in
    λ q h. ap (λ (n : ℕ). get_or (set c.loop-tag.marks n Bound) q Free) c.place_of-2.ensures
    ∙ mark_root p c.args.marks.now c.loop-tag.marks c.args.chain.now c.loop-tag.tag-index (tag_number c.args.root) c.loop-tag-test.false c.loop-tag.auto.tag-index-end c.requires.root.0 (c.loop-tag.auto.marks ∙ c.requires.sized) c.loop-tag.invariant q h

use Rattle.std.proofs.Common.{◌≡◌, ℕ, ◌+◌, ◌*◌, true, false, ap, ◌∙◌, arith}
use Rattle.std.specs.Prelude.{not, slice_index_or, slice_set}
use Rattle.clover_words.specs.Tag.{TagParts, tag_number}
use Rattle.clover_image.specs.Walking.{place_of}
use Rattle.clover_image.proofs.Chains.{place_below, place_is}
use Rattle.clover_image.proofs.soundness.is_first.Goals as goal

place : (c : goal.After-slice_known-2-1) → c.from.result * c.from-2.result + c.from-3.result ≡ place_of c.args.pool.now (tag_number c.args.tag)
place c =
    let parts = c.tag.inside in
    (λ i. c.from.ensures i * c.from-2.ensures i + c.from-3.ensures i)
    ∙ place_is c.args.pool.now (record { node = parts.node; index = parts.index; generation = parts.generation }) (record { node = c.tag.invariant.node; index = c.tag.invariant.index; generation = c.tag.invariant.generation })
    ∙ ap (λ (t : TagParts). place_of c.args.pool.now (tag_number t)) c.tag.view_is

pub returns-clause-first : goal.returns-clause-first
returns-clause-first c = ap (λ (n : ℕ). not (slice_index_or c.args.met.now n false)) (place c)

pub returns-clause-marked : goal.returns-clause-marked
returns-clause-marked c = ap (λ (n : ℕ). slice_set c.args.met.now n true) (place c)

pub bounds-met-number : goal.bounds-met-number
bounds-met-number c = let at = place c in let h = place_below c.args.pool.now (tag_number c.args.tag) c.requires.range in let n = c.requires.sized in omega arith

pub bounds-met-number-2 : goal.bounds-met-number-2
bounds-met-number-2 c = let at = place c in let h = place_below c.args.pool.now (tag_number c.args.tag) c.requires.range in let n = c.requires.sized in omega arith

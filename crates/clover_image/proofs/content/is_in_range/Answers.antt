use Rattle.std.proofs.Common.{◌<◌, IsTrue, true, false, nat_lt, ◌≡◌, ◌∙◌, sym, subst, arith}
use Rattle.std.proofs.lemmas.Bool.Decides.{nat_tests}
use Rattle.clover_words.specs.Tag.{TagParts, tag_number}
use Rattle.clover_rule.specs.Content.{InRange}
use Rattle.clover_image.proofs.Shown.{in_range, range_parts}
use Rattle.clover_image.proofs.content.is_in_range.Goals as goal
use Rattle.clover_image.proofs.content.is_in_range.Goals.{then-tag-pool, else-tag-pool}

pub returns-then-tag-pool-2 : goal.returns-then-tag-pool-2
returns-then-tag-pool-2 c =
    let p = c.args.pool.now in let i = c.tag.inside in let v : TagParts = record { node = i.node; index = i.index; generation = i.generation } in
    let P : TagParts → Type 0 = λ t. (IsTrue (nat_lt i.generation p.wear) → InRange p (tag_number t)) × (InRange p (tag_number t) → IsTrue (nat_lt i.generation p.wear)) in
    subst P c.tag.view_is
    (elim c.if-tag-pool.branch [
      | then-tag-pool w ↦ (
        λ young.
            let e : nat_lt i.index p.buffers ≡ true = sym w.value-is ∙ c.if-tag-pool-2.true in let b : i.index < p.buffers = grind (arith, nat_tests) in
            let g : i.generation < p.wear = grind (arith, nat_tests) in in_range p v c.tag.invariant w.if-tag-pool.true b g,
        λ r. let parts = range_parts p v c.tag.invariant r in let g : i.generation < p.wear = parts.2 in grind (arith, nat_tests),
      )
      | else-tag-pool w ↦ let e : nat_lt i.node p.nodes ≡ true = sym w.value-is ∙ c.if-tag-pool-2.true in let a = w.if-tag-pool.false in absurd (grind (arith, nat_tests))
    ])

pub returns-else-tag-pool-2 : goal.returns-else-tag-pool-2
returns-else-tag-pool-2 c =
    let p = c.args.pool.now in let i = c.tag.inside in let v : TagParts = record { node = i.node; index = i.index; generation = i.generation } in
    let P : TagParts → Type 0 = λ t. (IsTrue c.if-tag-pool.value → InRange p (tag_number t)) × (InRange p (tag_number t) → IsTrue c.if-tag-pool.value) in
    subst P c.tag.view_is (
      λ yes. absurd (let e : c.if-tag-pool.value ≡ false = c.if-tag-pool-2.false in grind arith),
      λ r.
          let parts = range_parts p v c.tag.invariant r in
          elim c.if-tag-pool.branch [
            | then-tag-pool w ↦ let e : nat_lt i.index p.buffers ≡ false = sym w.value-is ∙ c.if-tag-pool-2.false in let b : i.index < p.buffers = parts.1 in absurd (grind (arith, nat_tests))
            | else-tag-pool w ↦ let e : nat_lt i.node p.nodes ≡ false = sym w.value-is ∙ c.if-tag-pool-2.false in let b : i.node < p.nodes = parts.0 in absurd (grind (arith, nat_tests))
          ],
    )

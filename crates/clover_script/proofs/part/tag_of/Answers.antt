use Rattle.std.proofs.Common.{◌/◌, ◌%◌, ◌^◌, ◌∙◌, [], arith, rules, ap, length}
use Rattle.clover_script.proofs.LineLemmas.{if_none}
use Rattle.clover_script.proofs.PartLemmas.{tag_parts, index_on, generation_on, index_ends, generation_ends}
use Rattle.clover_script.proofs.part.tag_of.Goals as goal
use Rattle.clover_script.proofs.part.tag_of.Goals.{then-not-is_empty-via-then-not-is_empty, then-not-is_empty-via-else-not-is_empty+then-node-ge64, then-not-is_empty-via-else-not-is_empty+else-node-ge64+then-index-ge65536, then-not-is_empty-via-else-not-is_empty+else-node-ge64+else-index-ge65536+then-generation-ge1048576}

pub returns-in_err-generation-clause-none : goal.returns-in_err-generation-clause-none
returns-in_err-generation-clause-none c = if_none c.from_residual-in_err-generation.result (λ t lt e.
    let node = c.in_ok-node.ensures.only (t / 2 ^ 36) (index_on t) (omega arith) (index_ends t) (e ∙ tag_parts t) in
    let index = c.in_ok-index.ensures.only (t / 2 ^ 20 % 2 ^ 16) (generation_on t) (omega arith) (generation_ends t) node.1 in
    c.in_err-generation.ensures.only (t % 2 ^ 20) [] (omega arith) tt index.1)

pub returns-then-not-is_empty-clause-none : goal.returns-then-not-is_empty-clause-none
returns-then-not-is_empty-clause-none c t lt e =
    let node = c.in_ok-node.ensures.only (t / 2 ^ 36) (index_on t) (omega arith) (index_ends t) (e ∙ tag_parts t) in
    let index = c.in_ok-index.ensures.only (t / 2 ^ 20 % 2 ^ 16) (generation_on t) (omega arith) (generation_ends t) node.1 in
    let generation = c.in_ok-generation.ensures.only (t % 2 ^ 20) [] (omega arith) tt index.1 in
    let empty = ap length generation.1 in
    elim c.then-not-is_empty.branch [
      | then-not-is_empty-via-then-not-is_empty w ↦ absurd (search rules)
      | then-not-is_empty-via-else-not-is_empty+then-node-ge64 w ↦ omega (arith, node.0, w.if-node-ge64)
      | then-not-is_empty-via-else-not-is_empty+else-node-ge64+then-index-ge65536 w ↦ omega (arith, index.0, w.if-index-ge65536)
      | then-not-is_empty-via-else-not-is_empty+else-node-ge64+else-index-ge65536+then-generation-ge1048576 w ↦ omega (arith, generation.0, w.if-generation-ge1048576)
    ]

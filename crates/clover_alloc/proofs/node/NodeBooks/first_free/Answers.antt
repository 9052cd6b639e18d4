use Rattle.std.proofs.Common.{◌≡◌, ◌∙◌, ◌<◌, ◌+◌, ◌*◌, ◌≢◌, ℕ, List, sym, subst, arith}
use Rattle.std.proofs.lemmas.List.{get_or_read}
use Rattle.std.proofs.lemmas.Nat.{trailing_le}
use Rattle.std.specs.Int.{trailing_zeros, w64}
use Rattle.clover_alloc.specs.declared.line.Line.{Line}
use Rattle.clover_alloc.specs.declared.line.Place.TheVariants.{Free}
use Rattle.clover_alloc.specs.Kept.{line_at}
use Rattle.clover_alloc.proofs.NodeLemmas.{low_within, IsIndexed-next, lowest_is_free, lowest_is_first}
use Rattle.clover_alloc.proofs.node.NodeBooks.first_free.Goals as goal

pub index-requires : goal.index-requires
index-requires c = let h = low_within _ _ _ _ c.loop-self.invariant.holds c.loop-self.invariant.some in omega (arith, h.0, c.loop-self.self-inside.words.ok.0)

pub overflow_add-self : goal.overflow_add-self
overflow_add-self c = let h = low_within _ _ _ _ c.loop-self.invariant.holds c.loop-self.invariant.some in omega (arith, h.1)

pub loop-self-preserved : goal.loop-self-preserved
loop-self-preserved c =
    let h = low_within _ _ _ _ c.loop-self.invariant.holds c.loop-self.invariant.some in
    record {
      lines = c.loop-self.invariant.lines;
      some = c.loop-self.invariant.some;
      holds = IsIndexed-next _ _ _ _ c.loop-self.invariant.holds (sym (get_or_read c.loop-self.self-inside.words.items c.loop-self.self-inside.low c.index.result.now h.0 c.index.ensures 0) ∙ c.loop-self-test.true);
    }

pub loop-self-smaller : goal.loop-self-smaller
loop-self-smaller c = let h = low_within _ _ _ _ c.loop-self.invariant.holds c.loop-self.invariant.some in omega (arith, h.0)

pub overflow_mul-result : goal.overflow_mul-result
overflow_mul-result c = let h = low_within _ _ _ _ c.loop-self.invariant.holds c.loop-self.invariant.some in omega (arith, h.1)

pub overflow_cast-result : goal.overflow_cast-result
overflow_cast-result c = let h = low_within _ _ _ _ c.loop-self.invariant.holds c.loop-self.invariant.some in omega (arith, h.1)

pub index-requires-2 : goal.index-requires-2
index-requires-2 c = let h = low_within _ _ _ _ c.loop-self.invariant.holds c.loop-self.invariant.some in omega (arith, h.0, c.loop-self.self-inside.words.ok.0)

pub overflow_add-result : goal.overflow_add-result
overflow_add-result c =
    let h = low_within _ _ _ _ c.loop-self.invariant.holds c.loop-self.invariant.some in
    omega (arith, h.1, trailing_le 64 c.index-2.result.now)

pub returns-clause-free : goal.returns-clause-free
returns-clause-free c =
    let h = low_within _ _ _ _ c.loop-self.invariant.holds c.loop-self.invariant.some in
    let first = get_or_read c.loop-self.self-inside.words.items c.loop-self.self-inside.low c.index.result.now h.0 c.index.ensures 0 in
    let second = get_or_read c.loop-self.self-inside.words.items c.loop-self.self-inside.low c.index-2.result.now h.0 c.index-2.ensures 0 in
    let read = lowest_is_free _ _ _ _ c.loop-self.invariant.holds c.index-2.result.now second (omega (arith, first, second, c.loop-self-test.false)) (omega arith) in
    subst (λ (v : List Line). (line_at v (c.loop-self.self-inside.low * 64 + trailing_zeros w64 c.index-2.result.now)).place ≡ Free) (c.loop-self.invariant.lines ∙ c.self.view_is) read

pub returns-clause-first : goal.returns-clause-first
returns-clause-first c =
    let h = low_within _ _ _ _ c.loop-self.invariant.holds c.loop-self.invariant.some in
    let first = get_or_read c.loop-self.self-inside.words.items c.loop-self.self-inside.low c.index.result.now h.0 c.index.ensures 0 in
    let second = get_or_read c.loop-self.self-inside.words.items c.loop-self.self-inside.low c.index-2.result.now h.0 c.index-2.ensures 0 in
    let read = lowest_is_first _ _ _ _ c.loop-self.invariant.holds c.index-2.result.now second (omega (arith, first, second, c.loop-self-test.false)) (omega arith) in
    subst (λ (v : List Line). (k : ℕ) → k < c.loop-self.self-inside.low * 64 + trailing_zeros w64 c.index-2.result.now → (line_at v k).place ≢ Free) (c.loop-self.invariant.lines ∙ c.self.view_is) read

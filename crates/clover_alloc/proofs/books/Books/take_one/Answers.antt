use Rattle.std.proofs.Common.{◌<◌, sym, subst}
use Rattle.clover_alloc.specs.declared.line.Place.TheVariants.{Free, Out}
use Rattle.clover_alloc.specs.Ledger.{Ledger, count_of}
use Rattle.clover_alloc.proofs.CallLemmas.{line_within, line_serves, may_serve}
use Rattle.clover_alloc.proofs.TakingLemmas.{fullest_some, free_is, IsTag-free}
use Rattle.clover_alloc.proofs.books.Books.take_one.Goals as goal

pub first_free-index-requires : goal.first_free-index-requires
first_free-index-requires c =
    let books : Ledger = record { pool = c.self.inside.pool; nodes = c.self.inside.nodes.items; fresh = c.self.inside.fresh } in
    fullest_some books _ c.self.view_is c.fullest-at.result c.fullest-at.ensures c.index_mut-node.result.now c.index_mut-node.ensures.value (subst (λ (v : Ledger). 0 < count_of Free v) (sym c.self.view_is) c.requires)

pub put-requires-clause-within : goal.put-requires-clause-within
put-requires-clause-within c =
    let books : Ledger = record { pool = c.self.inside.pool; nodes = c.self.inside.nodes.items; fresh = c.self.inside.fresh } in
    let free = free_is books _ c.self.view_is c.fullest-at.result c.fullest-at.ensures c.index_mut-node.result.now c.index_mut-node.ensures.value c.first_free-index.result c.line-generation.result c.first_free-index.new.self c.first_free-index.ensures.free c.first_free-index.ensures.same c.line-generation.ensures in
    line_within books c.self.invariant.whole _ c.line-generation.result.generation Free (λ same. cc) free

pub put-requires-clause-may : goal.put-requires-clause-may
put-requires-clause-may c =
    let books : Ledger = record { pool = c.self.inside.pool; nodes = c.self.inside.nodes.items; fresh = c.self.inside.fresh } in
    let free = free_is books _ c.self.view_is c.fullest-at.result c.fullest-at.ensures c.index_mut-node.result.now c.index_mut-node.ensures.value c.first_free-index.result c.line-generation.result c.first_free-index.new.self c.first_free-index.ensures.free c.first_free-index.ensures.same c.line-generation.ensures in
    may_serve books.pool.wear c.line-generation.result.generation Out (λ same. cc) (line_serves books c.self.invariant.whole _ c.line-generation.result.generation Free (λ same. cc) free)

pub invariant_of-result : goal.invariant_of-result
invariant_of-result c =
    let books : Ledger = record { pool = c.self.inside.pool; nodes = c.self.inside.nodes.items; fresh = c.self.inside.fresh } in
    let free = free_is books _ c.self.view_is c.fullest-at.result c.fullest-at.ensures c.index_mut-node.result.now c.index_mut-node.ensures.value c.first_free-index.result c.line-generation.result c.first_free-index.new.self c.first_free-index.ensures.free c.first_free-index.ensures.same c.line-generation.ensures in
    IsTag-free books c.self.invariant.whole _ c.line-generation.result.generation free

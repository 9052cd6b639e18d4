use Rattle.std.proofs.Common.{◌<◌, List, length, sym, subst, arith}
use Rattle.std.proofs.lemmas.Bool.{both_ways}
use Rattle.clover_alloc.specs.declared.line.Line.{Line}
use Rattle.clover_alloc.proofs.NodeLemmas.{IsIndexed-written}
use Rattle.clover_alloc.proofs.node.NodeBooks.set.Goals as goal

pub invariant_of-self-else-is_free : goal.invariant_of-self-else-is_free
invariant_of-self-else-is_free c =
    let within = subst (λ (v : List Line). c.args.index < length v) (sym c.self.view_is) c.requires in
    rw (c.from.ensures, c.from-2.ensures)
    (IsIndexed-written c.self.inside.lines.items c.self.inside.words.items c.self.inside.free c.self.inside.low c.self.invariant c.args.index within c.args.line c.with_bit-word.result
    c.is_free-was_free.result c.is_free-is_free.result c.index.result.now c.index-2.result.now c.self.inside.low
    c.index.ensures c.is_free-was_free.ensures c.is_free-is_free.ensures c.index-2.ensures c.with_bit-word.ensures.bit c.with_bit-word.ensures.others
    (omega arith) (λ is_true. absurd (both_ways c.is_free-is_free.result c.if-is_free.false is_true)))

pub invariant_of-self : goal.invariant_of-self
invariant_of-self c =
    let within = subst (λ (v : List Line). c.args.index < length v) (sym c.self.view_is) c.requires in
    rw (c.from.ensures, c.from-2.ensures, c.min-self-inside.ensures)
    (IsIndexed-written c.self.inside.lines.items c.self.inside.words.items c.self.inside.free c.self.inside.low c.self.invariant c.args.index within c.args.line c.with_bit-word.result
    c.is_free-was_free.result c.is_free-is_free.result c.index.result.now c.index-2.result.now _
    c.index.ensures c.is_free-was_free.ensures c.is_free-is_free.ensures c.index-2.ensures c.with_bit-word.ensures.bit c.with_bit-word.ensures.others
    (omega arith) (λ is_true. omega arith))

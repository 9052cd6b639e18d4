use Rattle.std.proofs.Common.{sym, subst}
use Rattle.clover_words.specs.Place.{IsBuffer}
use Rattle.clover_alloc.specs.Ledger.{Ledger, MayHave}
use Rattle.clover_alloc.proofs.KeptLemmas.{AreKept-put, counted_some}
use Rattle.clover_alloc.proofs.books.Books.put.Goals as goal

pub less-requires : goal.less-requires
less-requires c =
    counted_some (record { pool = c.self.inside.pool; nodes = c.self.inside.nodes.items; fresh = c.self.inside.fresh }) c.self.inside.counts c.self.invariant
    (record { node = c.args.node; index = c.args.index }) (subst (λ (v : Ledger). IsBuffer v.pool (record { node = c.args.node; index = c.args.index })) (sym c.self.view_is) c.requires.within)
    c.index_mut-lines.result.now c.index_mut-lines.ensures.value c.line-from.result c.line-from.ensures

pub invariant_of-self : goal.invariant_of-self
invariant_of-self c =
    AreKept-put (record { pool = c.self.inside.pool; nodes = c.self.inside.nodes.items; fresh = c.self.inside.fresh }) c.self.inside.counts c.self.invariant
    (record { node = c.args.node; index = c.args.index }) (subst (λ (v : Ledger). IsBuffer v.pool (record { node = c.args.node; index = c.args.index })) (sym c.self.view_is) c.requires.within)
    c.index_mut-lines.result.now c.index_mut-lines.ensures.value
    c.args.line c.line-from.result c.set.new.self c.less.result c.more-self-inside.result
    (subst (λ (v : Ledger). MayHave v.pool.wear c.args.line) (sym c.self.view_is) c.requires.may) c.line-from.ensures c.set.ensures
    c.less.ensures.each c.less.ensures.sum c.more-self-inside.ensures.each c.more-self-inside.ensures.sum

pub returns-clause-whole : goal.returns-clause-whole
returns-clause-whole c = (invariant_of-self c).whole

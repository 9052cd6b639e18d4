use Rattle.std.proofs.Common.{sym, subst}
use Rattle.clover_words.specs.Place.{IsBuffer}
use Rattle.clover_words.specs.Tag.{TagParts}
use Rattle.clover_alloc.specs.declared.line.Place.TheVariants.{Bound, Out}
use Rattle.clover_alloc.specs.Lines.{line}
use Rattle.clover_alloc.specs.Ledger.{IsLedger, MayHave, buffer_of_tag}
use Rattle.clover_alloc.proofs.CallLemmas.{line_within, line_serves, may_serve}
use Rattle.clover_alloc.proofs.books.Books.bind.Goals as goal

pub put-requires-clause-within : goal.put-requires-clause-within
put-requires-clause-within c =
    let whole : IsLedger c.args.self.now = subst IsLedger c.self.view_is c.self.invariant.whole in
    subst (λ (t : TagParts). IsBuffer c.args.self.now.pool (buffer_of_tag t)) (sym c.tag.view_is)
    (line_within c.args.self.now whole (buffer_of_tag c.args.tag) c.args.tag.generation Out (λ same. cc) c.requires)

pub put-requires-clause-may : goal.put-requires-clause-may
put-requires-clause-may c =
    let whole : IsLedger c.args.self.now = subst IsLedger c.self.view_is c.self.invariant.whole in
    subst (λ (t : TagParts). MayHave c.args.self.now.pool.wear (line t.generation Bound)) (sym c.tag.view_is)
    (may_serve c.args.self.now.pool.wear c.args.tag.generation Bound (λ same. cc)
    (line_serves c.args.self.now whole (buffer_of_tag c.args.tag) c.args.tag.generation Out (λ same. cc) c.requires))

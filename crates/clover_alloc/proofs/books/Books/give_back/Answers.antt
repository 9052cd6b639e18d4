use Rattle.std.proofs.Common.{◌≢◌, ◌+◌, ap, sym, subst, arith}
use Rattle.clover_words.specs.Tag.{TagParts}
use Rattle.clover_alloc.specs.declared.line.Place.TheVariants.{Worn, Bound}
use Rattle.clover_alloc.specs.Lines.{line}
use Rattle.clover_alloc.specs.Ledger.{Ledger, IsLedger, KeepsSpent, buffer_of_tag, with_line}
use Rattle.clover_alloc.proofs.CallLemmas.{line_serves, may_serve, may_be_worn, back_keeps}
use Rattle.clover_alloc.proofs.books.Books.give_back.Goals as goal
use Rattle.clover_alloc.proofs.books.Books.give_back.Goals.{then-generation-self, else-generation-self}

pub put-requires-clause-may : goal.put-requires-clause-may
put-requires-clause-may c =
    let whole : IsLedger c.args.self.now = subst IsLedger c.self.view_is c.self.invariant.whole in
    let serving = line_serves c.args.self.now whole (buffer_of_tag c.args.tag) c.args.tag.generation Bound (λ same. cc) c.requires in
    let wear = ap (λ (v : Ledger). v.pool.wear) c.self.view_is in
    let generation = ap (λ (t : TagParts). t.generation) c.tag.view_is in
    elim c.if-generation-self.branch [
      | then-generation-self w ↦ may_be_worn c.args.self.now.pool.wear (c.tag.inside.generation + 1) c.if-generation-self.place w.place-is (omega (arith, w.if-generation-self.true, wear))
      | else-generation-self w ↦
          let q : c.if-generation-self.place ≢ Worn = λ worn. cc (w.place-is, worn) in
          may_serve c.args.self.now.pool.wear (c.tag.inside.generation + 1) c.if-generation-self.place q (omega (arith, w.if-generation-self.false, wear, serving, generation))
    ]

pub returns-clause-spent : goal.returns-clause-spent
returns-clause-spent c =
    let whole : IsLedger c.args.self.now = subst IsLedger c.self.view_is c.self.invariant.whole in
    let keeps = back_keeps c.args.self.now whole (buffer_of_tag c.args.tag) c.args.tag.generation Bound (λ same. cc) c.requires c.if-generation-self.place in
    let keeps' = subst (λ (t : TagParts). KeepsSpent c.args.self.now (with_line c.args.self.now (buffer_of_tag t) (line (t.generation + 1) c.if-generation-self.place))) (sym c.tag.view_is) keeps in
    subst (KeepsSpent c.args.self.now) (sym c.put.ensures.moves.value) keeps'

-- The counts beside books in which one buffer has another line.
use Rattle.std.proofs.Common.{◌≡◌, ◌∙◌, ◌+◌, ◌<◌, true, List, [], length, set, get_or, refl, sym, ap, subst, arith, cond}
use Rattle.std.proofs.lemmas.List.{get_or_read}
use Rattle.std.proofs.lemmas.List.Sums.{get_or-le-sum_by}
use Rattle.clover_words.specs.declared.word.Buffer.{Buffer}
use Rattle.clover_words.specs.Place.{IsBuffer}
use Rattle.clover_alloc.specs.declared.line.Place.{Place}
use Rattle.clover_alloc.specs.declared.line.Place.TheVariants.{Free, Worn, Bound, Out}
use Rattle.clover_alloc.specs.declared.line.Line.{Line}
use Rattle.clover_alloc.specs.declared.line.Counts.{Counts}
use Rattle.clover_alloc.specs.Lines.{line, same_place, count_in, number_of, sum_of}
use Rattle.clover_alloc.specs.Ledger.{Ledger, book, with_line, count_of, MayHave}
use Rattle.clover_alloc.specs.Kept.{AreKept, line_at, one_at}
use Rattle.clover_alloc.proofs.LedgerLemmas.{IsLedger-with_line, count_of-with_line}

same_place-same : (p : Place) → same_place p p ≡ true
same_place-same Free = refl
same_place-same Worn = refl
same_place-same Bound = refl
same_place-same Out = refl

-- one buffer is in the place that it is in
pub counted : (books : Ledger) (b : Buffer) → b.node < length books.nodes → b.index < length (get_or books.nodes b.node []) → 0 < count_of (book books b).place books
counted books b node index =
    let p : Place = (book books b).place in
    let one : one_at p (book books b) ≡ 1 = ap (λ t. cond t 1 0) (same_place-same p) in
    let in_row = get_or-le-sum_by (λ m. one_at p m) (get_or books.nodes b.node []) b.index (line 0 Worn) index in
    let in_all = get_or-le-sum_by (count_in p) books.nodes b.node [] node in
    omega (arith, one, in_row, in_all)

module _ (books : Ledger) (counts : Counts) (kept : AreKept books counts) (b : Buffer) (within : IsBuffer books.pool b) (row : List Line) (read : row ≡ get_or books.nodes b.node row) where
  row_is : row ≡ get_or books.nodes b.node []
  row_is = get_or_read books.nodes b.node row (omega (arith, within.node, kept.whole.lines.nodes)) read []

  line_is : line_at row b.index ≡ book books b
  line_is = ap (λ r. line_at r b.index) row_is

  -- so one may be taken off the count
  pub counted_some : (from : Line) → from ≡ line_at row b.index → 0 < number_of from.place counts
  counted_some from from_is =
      let some = counted books b (omega (arith, within.node, kept.whole.lines.nodes)) (omega (arith, within.index, kept.whole.lines.buffers b.node within.node)) in
      let place : from.place ≡ (book books b).place = ap (λ (m : Line). m.place) (from_is ∙ line_is) in
      subst (λ p. 0 < number_of p counts) (sym place) (omega (arith, some, kept.counted.each (book books b).place))

  -- whole books, counted, are so with another line
  pub AreKept-put : (l from : Line) (new_row : List Line) (less more : Counts) → MayHave books.pool.wear l → from ≡ line_at row b.index → new_row ≡ set row b.index l
      → ((p : Place) → number_of p less + cond (same_place p from.place) 1 0 ≡ number_of p counts) → sum_of less + 1 ≡ sum_of counts
      → ((p : Place) → number_of p more ≡ number_of p less + cond (same_place p l.place) 1 0) → sum_of more ≡ sum_of less + 1
      → AreKept (record books { nodes = set books.nodes b.node new_row }) more
  AreKept-put l from new_row less more may from_is new_is fewer fewer_sum again again_sum =
      let old : from ≡ book books b = from_is ∙ line_is in
      let place : from.place ≡ (book books b).place = ap (λ (m : Line). m.place) old in
      let nodes : set books.nodes b.node new_row ≡ (with_line books b l).nodes = ap (set books.nodes b.node) (new_is ∙ ap (λ r. set r b.index l) row_is) in
      subst (λ ns. AreKept (record books { nodes = ns }) more) (sym nodes) (record {
        whole = IsLedger-with_line books b l kept.whole within may;
        counted = record {
          each = λ p.
              let one : cond (same_place p from.place) 1 0 ≡ one_at p (book books b) = ap (λ q. cond (same_place p q) 1 0) place in
              omega (arith, count_of-with_line books b l kept.whole.lines within p, kept.counted.each p, fewer p, again p, one);
          adds_up = omega (arith, kept.counted.adds_up, fewer_sum, again_sum);
        };
      })

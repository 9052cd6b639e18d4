-- The buffer that is due, and what tags that were taken one after the other leave.
use Rattle.std.proofs.Common.{◌≡◌, ◌≢◌, ◌∙◌, ℕ, ◌+◌, ◌*◌, ◌<◌, ◌≤◌, List, [], ◌∷◌, ◌++◌, length, get_or, sym, ap, subst, arith, All, AllPairs, false}
use Rattle.std.proofs.lemmas.List.{get_or_read}
use Rattle.std.proofs.lemmas.List.Elements.{All-nil, All-cons, All-head, All-tail, All-weaker}
use Rattle.std.proofs.lemmas.List.Kept.{AllPairs-cons}
use Rattle.std.specs.List.{IsFirstMaxByKey}
use Rattle.clover_words.specs.declared.pool.Pool.{Pool}
use Rattle.clover_words.specs.declared.word.Buffer.{Buffer}
use Rattle.clover_words.specs.Place.{IsBuffer}
use Rattle.clover_words.specs.Tag.{TagParts, IsTag}
use Rattle.clover_alloc.specs.declared.line.Place.TheVariants.{Free, Worn, Out}
use Rattle.clover_alloc.specs.declared.line.Line.{Line}
use Rattle.clover_alloc.specs.Lines.{line, count_in}
use Rattle.clover_alloc.specs.Ledger.{Ledger, book, count_of, buffer_of_tag, IsAt, Spent, KeepsSpent, IsLedger}
use Rattle.clover_alloc.specs.Taking.{IsBalanced, with_out, Given, AreTaken, AreNew}
use Rattle.clover_alloc.specs.Kept.{line_at, one_at}
use Rattle.clover_alloc.proofs.NodeLemmas.{found}
use Rattle.clover_alloc.proofs.LedgerLemmas.{book-with_line_same, book-with_line_other, count_of-with_line}
use Rattle.clover_alloc.proofs.CallLemmas.{line_within, line_serves, moved_whole, moved_keeps}

module _ (books view : Ledger) (same : books ≡ view) (at : ℕ) (first : IsFirstMaxByKey (count_in Free) view.nodes (length view.nodes) at) (row : List Line) (read : row ≡ get_or books.nodes at row) where
  full : IsFirstMaxByKey (count_in Free) books.nodes (length books.nodes) at
  full = subst (λ (v : Ledger). IsFirstMaxByKey (count_in Free) v.nodes (length v.nodes) at) (sym same) first

  row_is : row ≡ get_or books.nodes at []
  row_is = get_or_read books.nodes at row full.0 read []

  -- where a buffer is free, one is on the memory node with the most
  pub fullest_some : 0 < count_of Free books → 0 < count_in Free row
  fullest_some some =
      let k = found (count_in Free) books.nodes [] some in
      let most = full.1 k.0 [] k.1 in
      omega (arith, k.2, most, ap (count_in Free) row_is)

  -- and what the books say of it
  pub free_is : (index : ℕ) (l : Line) (again : List Line) → (line_at row index).place ≡ Free → again ≡ row → l ≡ line_at again index → book books (record { node = at; index = index }) ≡ line l.generation Free
  free_is index l again free kept l_is =
      let here : l ≡ line_at row index = l_is ∙ ap (λ r. line_at r index) kept in
      let place : l.place ≡ Free = ap (λ (m : Line). m.place) here ∙ free in
      ap (λ r. line_at r index) (sym row_is) ∙ sym here ∙ ap (line l.generation) place

small : (n b : ℕ) → 1 ≤ n → n * b ≤ 65536 → b ≤ 65536
small n b some fits = grind arith

-- a free buffer's tag has parts that fit
pub IsTag-free : (books : Ledger) → IsLedger books → (b : Buffer) (g : ℕ) → book books b ≡ line g Free → IsTag (record { node = b.node; index = b.index; generation = g })
IsTag-free books whole b g is =
    let serving : Free ≢ Worn = λ same. cc in
    let within = line_within books whole b g Free serving is in
    let below = line_serves books whole b g Free serving is in
    let few = small books.pool.nodes books.pool.buffers books.pool.some_node books.pool.total_fits in
    record { node = omega (arith, within.node, books.pool.nodes_fit); index = omega (arith, within.index, few); generation = omega (arith, below, books.pool.wear_fits) }

-- whether something was taken is no matter of the lines
used : (books : Ledger) → IsLedger books → IsLedger (record books { fresh = false })
used books whole = record { lines = record { nodes = whole.lines.nodes; buffers = whole.lines.buffers }; each = whole.each }

module _ (books : Ledger) (whole : IsLedger books) (t : TagParts) (due : IsBalanced books t) where
  serving : Free ≢ Worn
  serving same = cc

  pub due_within : IsBuffer books.pool (buffer_of_tag t)
  due_within = line_within books whole (buffer_of_tag t) t.generation Free serving due.free

  pub due_serves : t.generation < books.pool.wear
  due_serves = line_serves books whole (buffer_of_tag t) t.generation Free serving due.free

  pub out_whole : IsLedger (with_out books t)
  out_whole = used _ (moved_whole books whole (buffer_of_tag t) t.generation Free serving due.free Out (λ same. cc))

  pub out_keeps : KeepsSpent books (with_out books t)
  out_keeps u spent =
      let kept = moved_keeps books whole (buffer_of_tag t) t.generation Free serving due.free Out (λ same. cc) u spent in
      record { passed = kept.passed; gone = kept.gone }

  pub out_same : book (with_out books t) (buffer_of_tag t) ≡ line t.generation Out
  out_same = book-with_line_same books (buffer_of_tag t) (line t.generation Out) whole.lines due_within

  pub out_other : (b : Buffer) → b ≢ buffer_of_tag t → book (with_out books t) b ≡ book books b
  out_other = book-with_line_other books (buffer_of_tag t) (line t.generation Out) whole.lines due_within

  pub out_counts : count_of Free (with_out books t) + 1 ≡ count_of Free books
  out_counts =
      let counted = count_of-with_line books (buffer_of_tag t) (line t.generation Out) whole.lines due_within Free in
      let one : one_at Free (book books (buffer_of_tag t)) ≡ 1 = ap (one_at Free) due.free in
      omega (arith, counted, one)

-- one more tag
pub Given-push : (before : Ledger) (ts : List TagParts) (between after : Ledger) (t : TagParts) → Given before ts between → IsBalanced between t → after ≡ with_out between t → Given before (ts ++ t ∷ []) after
Given-push before [] between after t same due is = (subst (λ b. IsBalanced b t) same due, is ∙ ap (λ b. with_out b t) same)
Given-push before (u ∷ us) between after t given due is = (given.0, Given-push (with_out before u) us between after t given.1 due is)

-- so many free buffers fewer
pub Given-counts : (before : Ledger) (ts : List TagParts) (after : Ledger) → IsLedger before → Given before ts after → count_of Free after + length ts ≡ count_of Free before
Given-counts before [] after whole same = rw same (omega arith)
Given-counts before (t ∷ ts) after whole given =
    omega (arith, Given-counts (with_out before t) ts after (out_whole before whole t given.0) given.1, out_counts before whole t given.0)

pub Given-keeps : (before : Ledger) (ts : List TagParts) (after : Ledger) → IsLedger before → Given before ts after → KeepsSpent before after
Given-keeps before [] after whole same = λ t spent. subst (λ b. Spent b t) (sym same) spent
Given-keeps before (t ∷ ts) after whole given = λ u spent.
    Given-keeps (with_out before t) ts after (out_whole before whole t given.0) given.1 u (out_keeps before whole t given.0 u spent)

pub Given-whole : (before : Ledger) (ts : List TagParts) (after : Ledger) → IsLedger before → Given before ts after → IsLedger after
Given-whole before [] after whole same = subst IsLedger (sym same) whole
Given-whole before (t ∷ ts) after whole given = Given-whole (with_out before t) ts after (out_whole before whole t given.0) given.1

-- a free line is no line that is out
apart : (m : Line) (g h : ℕ) → m ≡ line g Out → m ≡ line h Free → ⊥
apart m g h out free = let places : Out ≡ Free = ap (λ (n : Line). n.place) (sym out ∙ free) in cc

-- the tag is of another buffer
abbrev IsOther : TagParts → TagParts → Type 0
IsOther t u = buffer_of_tag u ≢ buffer_of_tag t

-- what is free once a tag was taken was free before, where it is of another buffer
free_before : (before : Ledger) (whole : IsLedger before) (t : TagParts) (due : IsBalanced before t) (us : List TagParts) → All (IsOther t) us → All (IsAt Free (with_out before t)) us → All (IsAt Free before) us
free_before before whole t due [] differ free = All-nil (IsAt Free before)
free_before before whole t due (u ∷ us) differ free =
    let here : IsAt Free before u = sym (out_other before whole t due (buffer_of_tag u) (All-head (IsOther t) u us differ)) ∙ All-head (IsAt Free (with_out before t)) u us free in
    All-cons (IsAt Free before) u us here
    (free_before before whole t due us (All-tail (IsOther t) u us differ) (All-tail (IsAt Free (with_out before t)) u us free))

pub AreTaken-given : (before : Ledger) (ts : List TagParts) (after : Ledger) → IsLedger before → Given before ts after → AreTaken before ts after
AreTaken-given before [] after whole same = record { free = All-nil (IsAt Free before); out = All-nil (IsAt Out after); others = λ b _. ap (λ (v : Ledger). book v b) same }
AreTaken-given before (t ∷ ts) after whole given =
    let rest = AreTaken-given (with_out before t) ts after (out_whole before whole t given.0) given.1 in
    let differ : All (IsOther t) ts = All-weaker (IsAt Free (with_out before t)) (IsOther t)
    (λ u free same. apart (book (with_out before t) (buffer_of_tag t)) t.generation u.generation (out_same before whole t given.0) (ap (book (with_out before t)) (sym same) ∙ free)) ts rest.free in
    let differ' : All (λ u. buffer_of_tag t ≢ buffer_of_tag u) ts = All-weaker (IsOther t) (λ u. buffer_of_tag t ≢ buffer_of_tag u) (λ u other same. other (sym same)) ts differ in
    record {
      free = All-cons (IsAt Free before) t ts given.0.free (free_before before whole t given.0 ts differ rest.free);
      out = All-cons (IsAt Out after) t ts (rest.others (buffer_of_tag t) differ' ∙ out_same before whole t given.0) rest.out;
      others = λ b other. rest.others b (All-tail (λ u. b ≢ buffer_of_tag u) t ts other) ∙ out_other before whole t given.0 b (All-head (λ u. b ≢ buffer_of_tag u) t ts other);
    }

-- of buffers of the pool
abbrev InPool : Pool → TagParts → Type 0
InPool pool t = IsBuffer pool (buffer_of_tag t)

-- below the wear
abbrev Serves : Pool → TagParts → Type 0
Serves pool t = t.generation < pool.wear

pub Given-within : (before : Ledger) (ts : List TagParts) (after : Ledger) → IsLedger before → Given before ts after → All (InPool before.pool) ts × All (Serves before.pool) ts
Given-within before [] after whole same = (All-nil (InPool before.pool), All-nil (Serves before.pool))
Given-within before (t ∷ ts) after whole given =
    let rest = Given-within (with_out before t) ts after (out_whole before whole t given.0) given.1 in
    (All-cons (InPool before.pool) t ts (due_within before whole t given.0) rest.0, All-cons (Serves before.pool) t ts (due_serves before whole t given.0) rest.1)

pub Given-differ : (before : Ledger) (ts : List TagParts) (after : Ledger) → IsLedger before → Given before ts after → AllPairs (λ t u. buffer_of_tag t ≢ buffer_of_tag u) ts
Given-differ before [] after whole same = λ i j d below within. absurd (omega arith)
Given-differ before (t ∷ ts) after whole given =
    let rest = AreTaken-given (with_out before t) ts after (out_whole before whole t given.0) given.1 in
    AllPairs-cons (λ t u. buffer_of_tag t ≢ buffer_of_tag u) t ts
    (All-weaker (IsAt Free (with_out before t)) (λ u. buffer_of_tag t ≢ buffer_of_tag u)
    (λ u free same. apart (book (with_out before t) (buffer_of_tag t)) t.generation u.generation (out_same before whole t given.0) (ap (book (with_out before t)) same ∙ free)) ts rest.free)
    (Given-differ (with_out before t) ts after (out_whole before whole t given.0) given.1)

-- a tag that is free is not spent, and one that is out is
free_is_unspent : (books : Ledger) (t : TagParts) → IsAt Free books t → Spent books t → ⊥
free_is_unspent books t is spent = spent.gone (sym (ap (λ (m : Line). m.generation) is)) (ap (λ (m : Line). m.place) is)

out_is_spent : (books : Ledger) (t : TagParts) → IsAt Out books t → Spent books t
out_is_spent books t is = record {
  passed = let same = ap (λ (m : Line). m.generation) is in omega (arith, same);
  gone = λ _ free. let places : Out ≡ Free = sym (ap (λ (m : Line). m.place) is) ∙ free in cc;
}

pub AreNew-given : (before : Ledger) (ts : List TagParts) (after : Ledger) → IsLedger before → Given before ts after → AreNew before ts after
AreNew-given before ts after whole given =
    let taken = AreTaken-given before ts after whole given in
    let parts = Given-within before ts after whole given in
    record {
      within = parts.0;
      differ = Given-differ before ts after whole given;
      serving = parts.1;
      unspent = All-weaker (IsAt Free before) (λ t. Spent before t → ⊥) (free_is_unspent before) ts taken.free;
      spent = All-weaker (IsAt Out after) (Spent after) (out_is_spent after) ts taken.out;
    }

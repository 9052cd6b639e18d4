-- Books in which one buffer has another line: what they say of each buffer, that they stay whole, and how they count.
use Rattle.std.proofs.Common.{◌≡◌, ◌≢◌, ◌∙◌, ◌+◌, ◌<◌, ◌≤◌, ◌⊎◌, inl, inr, List, [], length, length-set, set, get_or, get_or-set_same, get_or-set_other, sym, ap, subst, ⊎_elim, arith}
use Rattle.std.proofs.lemmas.Bool.{cases_eq, cases_lt}
use Rattle.std.proofs.lemmas.List.{get_or_past}
use Rattle.std.proofs.lemmas.List.Sums.{sum_by-set}
use Rattle.clover_words.specs.declared.word.Buffer.{Buffer}
use Rattle.clover_words.specs.Place.{IsBuffer}
use Rattle.clover_alloc.specs.declared.line.Place.{Place}
use Rattle.clover_alloc.specs.declared.line.Place.TheVariants.{Free, Worn}
use Rattle.clover_alloc.specs.declared.line.Line.{Line}
use Rattle.clover_alloc.specs.Lines.{line, count_in}
use Rattle.clover_alloc.specs.Ledger.{Ledger, book, with_line, count_of, buffer_of_tag, Spent, KeepsSpent, HasLines, MayHave, IsLedger}
use Rattle.clover_alloc.specs.Kept.{one_at}
use Rattle.clover_alloc.proofs.NodeLemmas.{count_in-set}

-- two buffers are one, or they differ
pub same_buffer : (b c : Buffer) → (b ≡ c) ⊎ (b ≢ c)
same_buffer b c = ⊎_elim
    (λ node. ⊎_elim (λ index. inl (both node index)) (λ other. inr (λ same. other (ap (λ (d : Buffer). d.index) same))) (cases_eq b.index c.index))
    (λ other. inr (λ same. other (ap (λ (d : Buffer). d.node) same)))
    (cases_eq b.node c.node)
  where
    both : b.node ≡ c.node → b.index ≡ c.index → b ≡ c
    both node index = ap (λ n. record { node = n; index = b.index }) node ∙ ap (λ i. record { node = c.node; index = i }) index

-- a buffer that is not worn is in the pool
pub is_within : (books : Ledger) (b : Buffer) → HasLines books → (book books b).place ≢ Worn → IsBuffer books.pool b
is_within books b whole serves = ⊎_elim
    (λ node. ⊎_elim
    (λ index. record { node = node; index = index })
    (λ past. absurd (serves (ap (λ (m : Line). m.place) (get_or_past (get_or books.nodes b.node []) b.index (line 0 Worn) (omega (arith, past, whole.buffers b.node node))))))
    (cases_lt b.index books.pool.buffers))
    (λ past. absurd (serves (ap (λ (row : List Line). (get_or row b.index (line 0 Worn)).place) (get_or_past books.nodes b.node [] (omega (arith, whole.nodes))))))
    (cases_lt b.node books.pool.nodes)

module _ (books : Ledger) (b : Buffer) (l : Line) (whole : HasLines books) (within : IsBuffer books.pool b) where
  row : List Line
  row = get_or books.nodes b.node []

  node_within : b.node < length books.nodes
  node_within = omega (arith, within.node, whole.nodes)

  index_within : b.index < length (get_or books.nodes b.node [])
  index_within = omega (arith, within.index, whole.buffers b.node within.node)

  new_row : get_or (with_line books b l).nodes b.node [] ≡ set (get_or books.nodes b.node []) b.index l
  new_row = get_or-set_same books.nodes b.node _ [] node_within

  -- the buffer has the line
  pub book-with_line_same : book (with_line books b l) b ≡ l
  book-with_line_same = rw new_row (get_or-set_same (get_or books.nodes b.node []) b.index l (line 0 Worn) index_within)

  -- each other one has the line that it had
  pub book-with_line_other : (c : Buffer) → c ≢ b → book (with_line books b l) c ≡ book books c
  book-with_line_other c other = ⊎_elim
      (λ same. subst (λ n. get_or (get_or (with_line books b l).nodes n []) c.index (line 0 Worn) ≡ get_or (get_or books.nodes n []) c.index (line 0 Worn)) (sym same)
      (ap (λ (r : List Line). get_or r c.index (line 0 Worn)) new_row
      ∙ get_or-set_other (get_or books.nodes b.node []) b.index c.index l (line 0 Worn) (λ index. other (both same index))))
      (λ node. ap (λ (r : List Line). get_or r c.index (line 0 Worn)) (get_or-set_other books.nodes b.node c.node _ [] node))
      (cases_eq c.node b.node)
    where
      both : c.node ≡ b.node → c.index ≡ b.index → c ≡ b
      both node index = ap (λ n. record { node = n; index = c.index }) node ∙ ap (λ i. record { node = b.node; index = i }) index

  pub HasLines-with_line : HasLines (with_line books b l)
  HasLines-with_line = record {
    nodes = length-set books.nodes b.node _ ∙ whole.nodes;
    buffers = λ n below. ⊎_elim
        (λ same. subst (λ m. length (get_or (with_line books b l).nodes m []) ≡ books.pool.buffers) (sym same)
        (ap length new_row ∙ length-set (get_or books.nodes b.node []) b.index l ∙ whole.buffers b.node within.node))
        (λ other. ap length (get_or-set_other books.nodes b.node n _ [] other) ∙ whole.buffers n below)
        (cases_eq n b.node);
  }

  -- one buffer less in the place that it had, and one more in the one that it has
  pub count_of-with_line : (p : Place) → count_of p (with_line books b l) + one_at p (book books b) ≡ count_of p books + one_at p l
  count_of-with_line p =
      let rows = sum_by-set (count_in p) books.nodes b.node (set (get_or books.nodes b.node []) b.index l) [] node_within in
      let lines = count_in-set p (get_or books.nodes b.node []) b.index l index_within in
      omega (arith, rows, lines)

  -- a tag that was spent stays so, where the generation does not fall and the buffer does not become free at the one that it had
  pub KeepsSpent-with_line : (book books b).generation ≤ l.generation → ((book books b).generation ≡ l.generation → l.place ≢ Free) → KeepsSpent books (with_line books b l)
  KeepsSpent-with_line rises gone t spent = ⊎_elim
      (λ same.
      let was : book books (buffer_of_tag t) ≡ book books b = ap (book books) same in
      let is : book (with_line books b l) (buffer_of_tag t) ≡ l = ap (book (with_line books b l)) same ∙ book-with_line_same in
      let old_generation : (book books (buffer_of_tag t)).generation ≡ (book books b).generation = ap (λ (m : Line). m.generation) was in
      let new_generation : (book (with_line books b l) (buffer_of_tag t)).generation ≡ l.generation = ap (λ (m : Line). m.generation) is in
      record {
        passed = omega (arith, spent.passed, old_generation, new_generation, rises);
        gone = λ at. subst (λ (m : Line). m.place ≢ Free) (sym is) (gone (omega (arith, spent.passed, old_generation, new_generation, rises, at)));
      })
      (λ other. subst (λ (m : Line). (t.generation ≤ m.generation) × (t.generation ≡ m.generation → m.place ≢ Free) → Spent (with_line books b l) t) (book-with_line_other (buffer_of_tag t) other)
      (λ (passed, gone). record { passed = passed; gone = gone })
      (spent.passed, spent.gone))
      (same_buffer (buffer_of_tag t) b)

-- whole books stay whole
pub IsLedger-with_line : (books : Ledger) (b : Buffer) (l : Line) → IsLedger books → IsBuffer books.pool b → MayHave books.pool.wear l → IsLedger (with_line books b l)
IsLedger-with_line books b l whole within may = record {
  lines = HasLines-with_line books b l whole.lines within;
  each = λ c inside. ⊎_elim
      (λ same. subst (MayHave books.pool.wear) (sym (ap (book (with_line books b l)) same ∙ book-with_line_same books b l whole.lines within)) may)
      (λ other. subst (MayHave books.pool.wear) (sym (book-with_line_other books b l whole.lines within c other)) (whole.each c inside))
      (same_buffer c b);
}

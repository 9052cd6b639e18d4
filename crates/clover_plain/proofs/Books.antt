-- What new books of one memory node give out: its buffers at generation 0, from the lowest index on.
use Rattle.std.proofs.Common.{◌≡◌, ◌≢◌, ◌∙◌, ℕ, zero, suc, ◌+◌, ◌*◌, ◌<◌, ◌≤◌, List, [], ◌∷◌, length, get_or, replicate, refl, sym, ap, subst, ⊎_elim, arith, cond}
use Rattle.std.proofs.lemmas.Bool.{cases_eq, cases_lt}
use Rattle.std.proofs.lemmas.List.{get_or-replicate}
use Rattle.std.proofs.lemmas.List.Folds.{sum_by-replicate}
use Rattle.std.proofs.Math.Nat.{min-eq_left}
use Rattle.clover_words.specs.declared.pool.Pool.{Pool}
use Rattle.clover_words.specs.declared.word.Buffer.{Buffer}
use Rattle.clover_words.specs.Tag.{TagParts}
use Rattle.clover_alloc.specs.declared.line.Place.TheVariants.{Free, Worn, Out}
use Rattle.clover_alloc.specs.declared.line.Line.{Line}
use Rattle.clover_alloc.specs.Lines.{line, same_place, count_in}
use Rattle.clover_alloc.specs.Ledger.{Ledger, book, buffer_of_tag, count_of, new_ledger, IsLedger}
use Rattle.clover_alloc.specs.Taking.{IsBalanced, Given, Takes, with_out}
use Rattle.clover_alloc.proofs.TakingLemmas.{out_counts, out_other, out_same, out_whole}

-- a buffer of the node, and its tag
abbrev buffer : ℕ → Buffer
buffer i = record { node = 0; index = i }

abbrev pub new_tag : ℕ → TagParts
new_tag i = record { node = 0; index = i; generation = 0 }

-- so many tags, from this index on
abbrev pub new_tags : ℕ → ℕ → List TagParts
new_tags k zero = []
new_tags k (suc n) = new_tag k ∷ new_tags (suc k) n

-- of the node's n buffers the first k were taken, and each other one is free
pub record AreLeft (n : ℕ) (books : Ledger) (k : ℕ) : Type 0 where
  pub whole : IsLedger books
  pub one : books.pool.nodes ≡ 1
  pub many : books.pool.buffers ≡ n
  pub taken : (i : ℕ) → i < k → (book books (buffer i)).place ≢ Free
  pub free : (i : ℕ) → k ≤ i → i < n → book books (buffer i) ≡ line 0 Free
  pub count : count_of Free books + k ≡ n

pub left_new : (p : Pool) → p.nodes ≡ 1 → IsLedger (new_ledger p) → AreLeft p.buffers (new_ledger p) 0
left_new p one whole = record {
  whole = whole;
  one = one;
  many = refl;
  taken = λ i h. absurd (omega arith);
  free = λ i low high. ap (λ (row : List Line). get_or row i (line 0 Worn)) (get_or-replicate p.nodes 0 (replicate p.buffers (line 0 Free)) [] (omega arith)) ∙ get_or-replicate p.buffers i (line 0 Free) (line 0 Worn) high;
  count =
      let rows = sum_by-replicate (count_in Free) p.nodes (replicate p.buffers (line 0 Free)) in
      let lines = sum_by-replicate (λ (l : Line). cond (same_place Free l.place) 1 0) p.buffers (line 0 Free) in
      let row : p.nodes * count_in Free (replicate p.buffers (line 0 Free)) ≡ count_in Free (replicate p.buffers (line 0 Free)) = ap (λ (n : ℕ). n * count_in Free (replicate p.buffers (line 0 Free))) one ∙ omega arith in
      omega (arith, rows, row, lines);
}

module _ (n : ℕ) (books : Ledger) (k : ℕ) (left : AreLeft n books k) (below : k < n) (t : TagParts) (due : IsBalanced books t) where
  on_node : t.node ≡ 0
  on_node = let a = due.node.0 in let b = left.whole.lines.nodes in let c = left.one in omega arith

  here : buffer_of_tag t ≡ buffer t.index
  here = ap (λ (n : ℕ). let b : Buffer = record { node = n; index = t.index } in b) on_node

  at_index : t.index ≡ k
  at_index = ⊎_elim
      (λ low. absurd (left.taken t.index low (ap (λ (l : Line). l.place) (sym (ap (book books) here) ∙ due.free))))
      (λ high. ⊎_elim
      (λ above. absurd (due.first k above (ap (λ (n : ℕ). (book books (record { node = n; index = k })).place) on_node ∙ ap (λ (l : Line). l.place) (left.free k (omega arith) below))))
      (λ most. omega arith)
      (cases_lt k t.index))
      (cases_lt t.index k)

  at_zero : t.generation ≡ 0
  at_zero = sym (ap (λ (l : Line). l.generation) (sym (left.free k (omega arith) below) ∙ sym (ap (λ (i : ℕ). book books (buffer i)) at_index) ∙ sym (ap (book books) here) ∙ due.free))

  due_is : t ≡ new_tag k
  due_is = λ i. record { node = on_node i; index = at_index i; generation = at_zero i }

  other : (i : ℕ) → i ≢ k → buffer i ≢ buffer_of_tag t
  other i d e = d (ap (λ (b : Buffer). b.index) e ∙ at_index)

  left_then : AreLeft n (with_out books t) (suc k)
  left_then = record {
    whole = out_whole books left.whole t due;
    one = left.one;
    many = left.many;
    taken = λ i low. ⊎_elim
        (λ same. λ free. (
        let is : book (with_out books t) (buffer i) ≡ line t.generation Out = ap (book (with_out books t)) (ap buffer (same ∙ sym at_index) ∙ sym here) ∙ out_same books left.whole t due in
        let places : Out ≡ Free = sym (ap (λ (l : Line). l.place) is) ∙ free in cc))
        (λ d. subst (λ (l : Line). l.place ≢ Free) (sym (out_other books left.whole t due (buffer i) (other i d))) (left.taken i (omega arith)))
        (cases_eq i k);
    free = λ i low high. out_other books left.whole t due (buffer i) (other i (λ e. omega arith)) ∙ left.free i (omega arith) high;
    count = let a = out_counts books left.whole t due in let b = left.count in omega arith;
  }

module _ (n : ℕ) where
  given_so : (m k : ℕ) (before : Ledger) (tags : List TagParts) (after : Ledger) → AreLeft n before k → k + m ≤ n → length tags ≡ m → Given before tags after → (tags ≡ new_tags k m) × AreLeft n after (k + m)
  given_so zero k before [] after left fits many same = (refl, subst (λ (b : Ledger). AreLeft n b (k + 0)) (sym same) (subst (AreLeft n before) (omega arith) left))
  given_so zero k before (t ∷ ts) after left fits many given = absurd (omega arith)
  given_so (suc m) k before [] after left fits many given = absurd (omega arith)
  given_so (suc m) k before (t ∷ ts) after left fits many given =
      let here = due_is n before k left (omega arith) t given.0 in
      let rest = given_so m (suc k) (with_out before t) ts after (left_then n before k left (omega arith) t given.0) (omega arith) (omega arith) given.1 in
      ((λ i. here i ∷ rest.0 i), subst (AreLeft n after) (omega arith) rest.1)

  -- a taking gives the next ones
  pub takes_next : (m k : ℕ) (before : Ledger) (tags : List TagParts) (after : Ledger) → AreLeft n before k → k + m ≤ n → Takes before m tags after → (tags ≡ new_tags k m) × AreLeft n after (k + m)
  takes_next m k before tags after left fits takes = given_so m k before tags after left fits (let a = left.count in takes.many ∙ min-eq_left (omega arith)) takes.each

-- How much a server without a task may have left to do, and that the count which a client loaded is no more than the bindings that there are.
use Rattle.std.proofs.Common.{◌≡◌, ℕ, suc, ◌+◌, ◌*◌, ◌-◌, ◌<◌, ◌≤◌, List, [], ◌∷◌, length, get_or, sym, ap, subst, arith}
use Rattle.std.specs.Prelude.{sum_by, None}
use Rattle.std.proofs.lemmas.List.Sums.{sum_by-cons}
use Rattle.clover_words.specs.declared.pool.Pool.{Pool}
use Rattle.clover_alloc.specs.Ledger.{Ledger, HasLines}
use Rattle.clover_alloc.specs.declared.line.Line.{Line}
use Rattle.clover_server.specs.Left.{lines_left, generations_left, of_task, unswept, work_left}
use Rattle.clover_server.specs.Server.{ServerState}
use Rattle.clover_run.specs.Left.{most_work}

-- a sum of which each part is at most so much
sum_most : {A : Type 0} (f : A → ℕ) (d : A) (m : ℕ) (xs : List A) → ((n : ℕ) → n < length xs → f (get_or xs n d) ≤ m) → sum_by f xs ≤ length xs * m
sum_most f d m [] h = omega arith
sum_most f d m (x ∷ xs) h =
    let first : f x ≤ m = h 0 (omega arith) in
    let rest = sum_most f d m xs (λ n below. h (suc n) (omega arith)) in
    subst (λ n. n ≤ suc (length xs) * m) (sym (sum_by-cons f x xs)) (omega arith)

-- the buffers of a memory node may each serve as many generations as the wear
lines_most : (wear : ℕ) (lines : List Line) → lines_left wear lines ≤ length lines * wear
lines_most wear [] = omega arith
lines_most wear (l ∷ lines) =
    let rest = lines_most wear lines in
    subst (λ n. n ≤ suc (length lines) * wear) (sym (sum_by-cons (λ (m : Line). wear - m.generation) l lines)) (omega arith)

-- and so may those of all
pub generations_most : (books : Ledger) → HasLines books → generations_left books ≤ books.pool.nodes * (books.pool.buffers * books.pool.wear)
generations_most books has =
    let wear = books.pool.wear in
    let each = sum_most (lines_left wear) [] (books.pool.buffers * wear) books.nodes (λ n below.
    let row = lines_most wear (get_or books.nodes n []) in
    subst (λ k. lines_left wear (get_or books.nodes n []) ≤ k * wear) (has.buffers n (subst (λ k. n < k) has.nodes below)) row) in
    subst (λ k. generations_left books ≤ k * (books.pool.buffers * wear)) has.nodes each

-- A server without a task has no more left to do than that.
pub work_most : (p : Pool) (s : ServerState) → HasLines s.books → s.books.pool ≡ p → s.directory.pool ≡ p → s.task ≡ None → length s.directory.list ≤ p.slots → work_left s ≤ most_work p
work_most p s has pool same idle few =
    let generations : generations_left s.books ≤ p.nodes * (p.buffers * p.wear) = subst (λ (q : Pool). generations_left s.books ≤ q.nodes * (q.buffers * q.wear)) pool (generations_most s.books has) in
    let slots : s.directory.pool.slots ≡ p.slots = ap (λ (q : Pool). q.slots) same in
    let task : of_task s.task ≡ 150 = ap of_task idle in
    sums (generations_left s.books) (p.nodes * (p.buffers * p.wear)) s.directory.pool.slots p.slots (length s.directory.list) (of_task s.task) (unswept s) generations slots task few (omega arith)
  where
    sums : (g n t k l w u : ℕ) → g ≤ n → t ≡ k → w ≡ 150 → l ≤ k → u ≤ l → 150 * (g + (t - l)) + w + u ≤ 150 * (n + k + 1) + k
    sums g n t k l w u a b c d e = omega arith

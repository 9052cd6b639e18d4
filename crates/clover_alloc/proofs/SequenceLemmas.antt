-- No tag is given twice, whatever calls are made.
use Rattle.std.proofs.Common.{◌≡◌, ◌≢◌, ◌∙◌, ℕ, suc, ◌<◌, true, false, List, [], ◌∷◌, ◌++◌, length, get_or, refl, sym, ap, subst, arith, All, AllPairs}
use Rattle.std.proofs.lemmas.List.{length-replicate, get_or-replicate}
use Rattle.std.proofs.lemmas.List.Elements.{All-nil, All-append, All-head, All-tail, All-weaker}
use Rattle.std.proofs.lemmas.List.Kept.{AllPairs-cons}
use Rattle.clover_words.specs.declared.pool.Pool.{Pool}
use Rattle.clover_words.specs.Tag.{TagParts}
use Rattle.clover_alloc.specs.declared.line.Place.TheVariants.{Free, Worn, Bound, Out}
use Rattle.clover_alloc.specs.declared.line.Line.{Line}
use Rattle.clover_alloc.specs.Lines.{line}
use Rattle.clover_alloc.specs.Ledger.{Ledger, new_ledger, buffer_of_tag, Spent, KeepsSpent, IsLedger, MayHave}
use Rattle.clover_alloc.specs.Taking.{with_out, Given}
use Rattle.clover_alloc.specs.Calls.{BookCall, Taking, Binding, GivingBack, Restoring, Makes, Leads, given_by, NoTagTwiceLaw}
use Rattle.clover_alloc.proofs.LedgerLemmas.{IsLedger-with_line}
use Rattle.clover_alloc.proofs.CallLemmas.{may_serve, moved_whole, moved_keeps, back_whole, back_keeps}
use Rattle.clover_alloc.proofs.TakingLemmas.{Given-whole, Given-keeps, AreNew-given}

-- the books of a pool are whole
IsLedger-new : (pool : Pool) → IsLedger (new_ledger pool)
IsLedger-new pool = record {
  lines = record {
    nodes = length-replicate pool.nodes _;
    buffers = λ n below. ap length (get_or-replicate pool.nodes n _ [] below) ∙ length-replicate pool.buffers _;
  };
  each = λ b within. subst (MayHave pool.wear)
      (sym (ap (λ (row : List Line). get_or row b.index (line 0 Worn)) (get_or-replicate pool.nodes b.node _ [] within.node) ∙ get_or-replicate pool.buffers b.index (line 0 Free) (line 0 Worn) within.index))
      (may_serve pool.wear 0 Free (λ same. cc) pool.some_wear);
}

Given-used : (before : Ledger) (ts : List TagParts) (after : Ledger) → before.fresh ≡ false → Given before ts after → after.fresh ≡ false
Given-used before [] after used same = ap (λ (v : Ledger). v.fresh) same ∙ used
Given-used before (t ∷ ts) after used given = Given-used (with_out before t) ts after refl given.1

Given-pool : (before : Ledger) (ts : List TagParts) (after : Ledger) → Given before ts after → after.pool ≡ before.pool
Given-pool before [] after same = ap (λ (v : Ledger). v.pool) same
Given-pool before (t ∷ ts) after given = Given-pool (with_out before t) ts after given.1

module _ (before after : Ledger) (whole : IsLedger before) where
  makes_whole : (call : BookCall) → Makes call before after → IsLedger after
  makes_whole (Taking count ts) made = Given-whole before ts after whole made.1.each
  makes_whole (Binding t) made = subst IsLedger (sym made.1.value) (moved_whole before whole (buffer_of_tag t) t.generation Out (λ same. cc) made.0 Bound (λ same. cc))
  makes_whole (GivingBack t) made = subst IsLedger (sym made.1.value) (back_whole before whole (buffer_of_tag t) t.generation Bound (λ same. cc) made.0)
  makes_whole (Restoring b l) made = subst IsLedger (sym made.3.value) (IsLedger-with_line before b l whole made.0 made.1)

  makes_pool : (call : BookCall) → Makes call before after → after.pool ≡ before.pool
  makes_pool (Taking count ts) made = Given-pool before ts after made.1.each
  makes_pool (Binding t) made = ap (λ (v : Ledger). v.pool) made.1.value
  makes_pool (GivingBack t) made = ap (λ (v : Ledger). v.pool) made.1.value
  makes_pool (Restoring b l) made = ap (λ (v : Ledger). v.pool) made.3.value

  makes_used : (call : BookCall) → before.fresh ≡ false → Makes call before after → after.fresh ≡ false
  makes_used (Taking count ts) used made = Given-used before ts after used made.1.each
  makes_used (Binding t) used made = ap (λ (v : Ledger). v.fresh) made.1.value ∙ used
  makes_used (GivingBack t) used made = ap (λ (v : Ledger). v.fresh) made.1.value ∙ used
  makes_used (Restoring b l) used made = ap (λ (v : Ledger). v.fresh) made.3.value ∙ used

  makes_keeps : (call : BookCall) → before.fresh ≡ false → Makes call before after → KeepsSpent before after
  makes_keeps (Taking count ts) used made = Given-keeps before ts after whole made.1.each
  makes_keeps (Binding t) used made = subst (KeepsSpent before) (sym made.1.value) (moved_keeps before whole (buffer_of_tag t) t.generation Out (λ same. cc) made.0 Bound (λ same. cc))
  makes_keeps (GivingBack t) used made = subst (KeepsSpent before) (sym made.1.value) (back_keeps before whole (buffer_of_tag t) t.generation Bound (λ same. cc) made.0 _)
  makes_keeps (Restoring b l) used made = let both : true ≡ false = sym made.2 ∙ used in cc

-- the tag is not spent
abbrev IsUnspent : Ledger → TagParts → Type 0
IsUnspent books t = Spent books t → ⊥

-- what was spent before a call is so behind it
unspent_before : (call : BookCall) (before between : Ledger) (ts : List TagParts) → IsLedger before → before.fresh ≡ false → Makes call before between
    → All (IsUnspent between) ts → All (IsUnspent before) ts
unspent_before call before between ts whole used made = All-weaker (IsUnspent between) (IsUnspent before) (λ t unspent spent. unspent (makes_keeps before between whole call used made t spent)) ts

-- once something was taken, no spent tag is given later
later : (calls : List BookCall) (before after : Ledger) → IsLedger before → before.fresh ≡ false → Leads before calls after → All (IsUnspent before) (given_by calls)
later [] before after whole used leads = All-nil (IsUnspent before)
later (Taking count ts ∷ calls) before after whole used (between, made, leads) =
    All-append (IsUnspent before) ts (given_by calls) (AreNew-given before ts between whole made.1.each).unspent
    (unspent_before (Taking count ts) before between (given_by calls) whole used made
    (later calls between after (makes_whole before between whole (Taking count ts) made) (makes_used before between whole (Taking count ts) used made) leads))
later (Binding t ∷ calls) before after whole used (between, made, leads) =
    unspent_before (Binding t) before between (given_by calls) whole used made
    (later calls between after (makes_whole before between whole (Binding t) made) (makes_used before between whole (Binding t) used made) leads)
later (GivingBack t ∷ calls) before after whole used (between, made, leads) =
    unspent_before (GivingBack t) before between (given_by calls) whole used made
    (later calls between after (makes_whole before between whole (GivingBack t) made) (makes_used before between whole (GivingBack t) used made) leads)
later (Restoring b l ∷ calls) before after whole used (between, made, leads) =
    unspent_before (Restoring b l) before between (given_by calls) whole used made
    (later calls between after (makes_whole before between whole (Restoring b l) made) (makes_used before between whole (Restoring b l) used made) leads)

-- pairs over two lists, one behind the other
module _ (R : TagParts → TagParts → Type 0) where
  head_pairs : (x : TagParts) (xs : List TagParts) → AllPairs R (x ∷ xs) → All (R x) xs
  head_pairs x xs pairs = λ k d within. pairs 0 (suc k) d (omega arith) (omega arith)

  tail_pairs : (x : TagParts) (xs : List TagParts) → AllPairs R (x ∷ xs) → AllPairs R xs
  tail_pairs x xs pairs = λ i j d below within. pairs (suc i) (suc j) d (omega arith) (omega arith)

  AllPairs-append : (xs ys : List TagParts) → AllPairs R xs → AllPairs R ys → All (λ x. All (R x) ys) xs → AllPairs R (xs ++ ys)
  AllPairs-append [] ys first second across = second
  AllPairs-append (x ∷ xs) ys first second across =
      AllPairs-cons R x (xs ++ ys) (All-append (R x) xs ys (head_pairs x xs first) (All-head (λ z. All (R z) ys) x xs across))
      (AllPairs-append xs ys (tail_pairs x xs first) second (All-tail (λ z. All (R z) ys) x xs across))

-- tags that differ and are below the wear
AreOnce : ℕ → List TagParts → Type 0
AreOnce wear ts = AllPairs (λ t u. t ≢ u) ts × All (λ t. t.generation < wear) ts

-- a taking, and the tags that are given later
taken_once : (count : ℕ) (ts us : List TagParts) (before between : Ledger) → IsLedger before → Makes (Taking count ts) before between
    → (between.fresh ≡ false → All (IsUnspent between) us) → AreOnce between.pool.wear us → AreOnce before.pool.wear (ts ++ us)
unfolding AreOnce
taken_once count [] us before between whole made unspent once = subst (λ (p : Pool). AreOnce p.wear us) (makes_pool before between whole (Taking count []) made) once
taken_once count (u ∷ ts) us before between whole made unspent once =
    let new = AreNew-given before (u ∷ ts) between whole made.1.each in
    let used = Given-used (with_out before u) ts between refl made.1.each.1 in
    let below = subst (λ (p : Pool). AreOnce p.wear us) (makes_pool before between whole (Taking count (u ∷ ts)) made) once in (
      AllPairs-append (λ t v. t ≢ v) (u ∷ ts) us
          (λ i j d below within same. new.differ i j d below within (ap buffer_of_tag same))
          once.0
          (All-weaker (Spent between) (λ t. All (λ v. t ≢ v) us) (λ t spent. All-weaker (IsUnspent between) (λ v. t ≢ v) (λ v fresh same. fresh (subst (Spent between) same spent)) us (unspent used)) (u ∷ ts) new.spent),
      All-append (λ t. t.generation < before.pool.wear) (u ∷ ts) us new.serving below.1,
    )

given_once : (calls : List BookCall) (before after : Ledger) → IsLedger before → Leads before calls after → AreOnce before.pool.wear (given_by calls)
unfolding AreOnce
given_once [] before after whole leads = (λ i j d below within. absurd (omega arith), All-nil (λ t. t.generation < before.pool.wear))
given_once (Taking count ts ∷ calls) before after whole (between, made, leads) =
    let whole' = makes_whole before between whole (Taking count ts) made in
    taken_once count ts (given_by calls) before between whole made (λ used. later calls between after whole' used leads) (given_once calls between after whole' leads)
given_once (Binding t ∷ calls) before after whole (between, made, leads) =
    subst (λ (p : Pool). AreOnce p.wear (given_by calls)) (makes_pool before between whole (Binding t) made) (given_once calls between after (makes_whole before between whole (Binding t) made) leads)
given_once (GivingBack t ∷ calls) before after whole (between, made, leads) =
    subst (λ (p : Pool). AreOnce p.wear (given_by calls)) (makes_pool before between whole (GivingBack t) made) (given_once calls between after (makes_whole before between whole (GivingBack t) made) leads)
given_once (Restoring b l ∷ calls) before after whole (between, made, leads) =
    subst (λ (p : Pool). AreOnce p.wear (given_by calls)) (makes_pool before between whole (Restoring b l) made) (given_once calls between after (makes_whole before between whole (Restoring b l) made) leads)

-- the law
pub no_tag_twice : NoTagTwiceLaw
unfolding AreOnce
no_tag_twice pool calls after leads = given_once calls (new_ledger pool) after (IsLedger-new pool) leads

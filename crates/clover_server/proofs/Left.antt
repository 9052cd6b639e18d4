-- How what is left to do for the server falls: by what an access of its task came to, and by what a call begins.
use Rattle.std.proofs.Common.{◌≡◌, ◌≢◌, ℕ, ◌+◌, ◌-◌, ◌/◌, ◌^◌, ◌<◌, ◌≤◌, List, [], ◌∷◌, length, length-append, set, get_or, Bool, refl, sym, ap, ◌∙◌, subst, arith}
use Rattle.std.specs.Prelude.{slice_get, Option, Some, None}
use Rattle.std.proofs.lemmas.List.Sums.{sum_by-set}
use Rattle.std.proofs.lemmas.Option.{slice_get_within}
use Rattle.clover_words.specs.declared.setup.Setup.{Setup}
use Rattle.clover_words.specs.declared.word.Buffer.{Buffer}
use Rattle.clover_words.specs.Place.{IsBuffer}
use Rattle.clover_words.specs.Tag.{TagParts}
use Rattle.clover_alloc.specs.Calls.{next_line}
use Rattle.clover_alloc.specs.Ledger.{Ledger, IsLedger, HasLines, MayHave, book, buffer_of_tag, with_line}
use Rattle.clover_alloc.specs.Lines.{line}
use Rattle.clover_alloc.specs.Taking.{IsBalanced, with_out}
use Rattle.clover_alloc.specs.declared.line.Line.{Line}
use Rattle.clover_alloc.specs.declared.line.Place.{Place}
use Rattle.clover_alloc.specs.declared.line.Place.TheVariants.{Free, Worn, Bound, Out}
use Rattle.clover_alloc.proofs.LedgerLemmas.{is_within, IsLedger-with_line}
use Rattle.clover_dir.specs.Directory.{Bindings, with_binding}
use Rattle.clover_dir.specs.declared.stage.Stage.{Stage as BindStage}
use Rattle.clover_dir.specs.declared.stage.Stage.TheVariants.{Tombstone, FlushedTombstone, Key, FlushedKey, Root, FlushedRoot, Count, Over as BindOver}
use Rattle.clover_recycle.specs.Recycling.{answer_to}
use Rattle.clover_recycle.specs.declared.turn.RecycleTurn.{RecycleTurn}
use Rattle.clover_recycle.specs.declared.turn.RecycleTurn.TheVariants.{More as MoreOf, Unlinked as UnlinkedOf, Recycled as RecycledOf, Unreached as UnreachedOf}
use Rattle.clover_rule.specs.Steps.{Step}
use Rattle.clover_server.specs.Going.{books_bound, books_moved, taken_in, turn_of, work_step, work_on, outcome_of, bind_outcome, recycle_outcome, directory_on, at_last, OnMade, OnBound}
use Rattle.clover_server.specs.Left.{lines_left, generations_left, unbound, of_task, work_left, Lowers, LowersBy}
use Rattle.clover_server.specs.Looking.{position}
use Rattle.clover_server.specs.Server.{ServerState}
use Rattle.clover_server.specs.Steps.{recycling, binding, swept_on}
use Rattle.clover_server.specs.Told.{CanTake}
use Rattle.clover_server.specs.declared.outcome.Outcome.{Outcome}
use Rattle.clover_server.specs.declared.outcome.Outcome.TheVariants.{Going, Unlinked, Recycled, Bound as WasBound, Unreached}
use Rattle.clover_server.specs.declared.turn.ServerTurn.{ServerTurn}
use Rattle.clover_server.specs.declared.work.Work.{Work}
use Rattle.clover_server.specs.declared.work.Work.TheVariants.{Binding, Recycling}

-- a buffer that the books do not call worn is in the pool
serves : (books : Ledger) (b : Buffer) (g : ℕ) (q : Place) → HasLines books → q ≢ Worn → book books b ≡ line g q → IsBuffer books.pool b
serves books b g q lines not_worn e = is_within books b lines (λ w. not_worn (sym (ap (λ (l : Line). l.place) e) ∙ w))

-- books in which one buffer has another line
module _ (books : Ledger) (b : Buffer) (l : Line) (lines : HasLines books) (within : IsBuffer books.pool b) where
  pub generations_with : generations_left (with_line books b l) + (books.pool.wear - (book books b).generation) ≡ generations_left books + (books.pool.wear - l.generation)
  generations_with =
      let wear : ℕ = books.pool.wear in
      let row : List Line = get_or books.nodes b.node [] in
      let rows = sum_by-set (lines_left wear) books.nodes b.node (set row b.index l) [] (let z = within.node in let y = lines.nodes in omega arith) in
      let in_row = sum_by-set (λ (m : Line). wear - m.generation) row b.index l (line 0 Worn) (let z = within.index in let y = lines.buffers b.node within.node in omega arith) in
      omega (arith, rows, in_row)

-- a buffer that changes its place alone
same_generation : (books : Ledger) (b : Buffer) (g : ℕ) (q r : Place) → HasLines books → q ≢ Worn → book books b ≡ line g q → generations_left (with_line books b (line g r)) ≡ generations_left books
same_generation books b g q r lines not_worn e =
    let z = generations_with books b (line g r) lines (serves books b g q lines not_worn e) in
    let y : (book books b).generation ≡ g = ap (λ (l : Line). l.generation) e in
    let x : books.pool.wear - (book books b).generation ≡ books.pool.wear - g = ap (λ (n : ℕ). books.pool.wear - n) y in
    omega arith

out_serves : ◌≢◌ {A = Place} Out Worn
out_serves e = absurd cc

bound_serves : ◌≢◌ {A = Place} Bound Worn
bound_serves e = absurd cc

free_serves : ◌≢◌ {A = Place} Free Worn
free_serves e = absurd cc

-- a buffer that was bound and comes back has served a generation
one_less : (books : Ledger) (b : Buffer) (g : ℕ) → IsLedger books → book books b ≡ line g Bound → generations_left (with_line books b (next_line books.pool.wear g)) + 1 ≡ generations_left books
one_less books b g whole e =
    let within = serves books b g Bound whole.lines bound_serves e in
    let may : MayHave books.pool.wear (line g Bound) = subst (MayHave books.pool.wear) e (whole.each b within) in
    let below : g ≢ books.pool.wear = λ same. bound_serves (may.worn.1 same) in
    let most : g ≤ books.pool.wear = may.most in
    let z = generations_with books b (next_line books.pool.wear g) whole.lines within in
    let y : (book books b).generation ≡ g = ap (λ (l : Line). l.generation) e in
    let x : books.pool.wear - (book books b).generation ≡ books.pool.wear - g = ap (λ (n : ℕ). books.pool.wear - n) y in
    grind (arith, z, x, below, most)

-- the books once a recycling or a binding has ended
module _ (books : Ledger) (whole : IsLedger books) where
  pub bound_same : (own : TagParts) → book books (buffer_of_tag own) ≡ line own.generation Out → generations_left (books_bound books own) ≡ generations_left books
  bound_same own e = same_generation books (buffer_of_tag own) own.generation Out Bound whole.lines out_serves e

  pub moved_less : (old root : TagParts) → IsLedger (books_bound books root) → book books (buffer_of_tag root) ≡ line root.generation Out → book (books_bound books root) (buffer_of_tag old) ≡ line old.generation Bound → generations_left (books_moved books old root) + 1 ≡ generations_left books
  moved_less old root between e f = one_less (books_bound books root) (buffer_of_tag old) old.generation between f ∙ bound_same root e

-- the books in which a root version's buffer is bound are whole
pub bound_whole : (books : Ledger) (own : TagParts) → IsLedger books → book books (buffer_of_tag own) ≡ line own.generation Out → IsLedger (books_bound books own)
bound_whole books own whole e =
    let within = serves books (buffer_of_tag own) own.generation Out whole.lines out_serves e in
    let may : MayHave books.pool.wear (line own.generation Out) = subst (MayHave books.pool.wear) e (whole.each (buffer_of_tag own) within) in
    IsLedger-with_line books (buffer_of_tag own) (line own.generation Bound) whole within (record {
      most = may.most;
      worn = ((λ (w : Bound ≡ Worn). absurd (bound_serves w)), λ same. absurd (out_serves (may.worn.1 same)));
    })

-- the directory that an access leaves: behind a binding's last one it has a binding more, and there is a slot for each
abbrev pub Grew : Outcome → Bindings → Bindings → Type 0
Grew (WasBound own) d e = (e.pool.slots ≡ d.pool.slots) × (length e.list ≡ length d.list + 1) × (length e.list ≤ e.pool.slots)
Grew outcome d e = e ≡ d

-- what an access of the task came to
module _ (setup : Setup) (books : Ledger) (d e : Bindings) (sweep : Option ℕ) (left : Bool) (work n : Work) (whole : IsLedger books) where
  abbrev state : Work → Bindings → ServerState
  state w b = record { setup = setup; books = books; directory = b; task = Some (record { work = w; left = left }); sweep = sweep }

  -- a directory that the access left as it was
  kept : (b : Bindings) → b ≡ d → (unbound b ≡ unbound d) × (length b.list - position sweep ≡ length d.list - position sweep)
  kept b q = (ap unbound q, ap (λ (z : Bindings). length z.list - position sweep) q)

  pub lowered : (r : Outcome) → Lowers r work n → CanTake (state n e) r → Grew r d e → LowersBy (turn_of r) (work_left (state work d)) (work_left (taken_in (state n e) r))
  lowered Going h t g = let k = kept e g in omega (arith, k.0, k.1, h)
  lowered Unlinked h t g = let k = kept e g in omega (arith, k.0, k.1, h)
  lowered (Recycled slot old root) h t g =
      let k = kept e g in
      let m = moved_less books whole old root (bound_whole books root whole t.0) t.0 t.1 in
      omega (arith, k.0, k.1, h, m)
  lowered (WasBound own) h t g =
      let m = bound_same books whole own t in
      let s : e.pool.slots ≡ d.pool.slots = g.0 in
      let l : length e.list ≡ length d.list + 1 = g.1 in
      let f : length e.list ≤ e.pool.slots = g.2 in
      omega (arith, m, s, l, f, h)
  lowered Unreached h t g = tt

  -- the directory that it left
  grew : (w : Work) (x : ℕ) (r : Outcome) → r ≡ outcome_of w x → e ≡ directory_on d w → OnBound r (length e.list ≤ e.pool.slots) → Grew r d e
  grew (Binding own c) x r q z f = subst (λ (y : Outcome). Grew y d e) (sym q) (by c.stage z (subst (λ (y : Outcome). OnBound y (length e.list ≤ e.pool.slots)) q f))
    where
      by : (at : BindStage) → e ≡ at_last at (with_binding d c.slot c.key c.own) d → OnBound (bind_outcome own at) (length e.list ≤ e.pool.slots) → Grew (bind_outcome own at) d e
      by Tombstone z f = z
      by FlushedTombstone z f = z
      by (Key j) z f = z
      by (FlushedKey j) z f = z
      by Root z f = z
      by FlushedRoot z f = z
      by Count z f = (ap (λ (y : Bindings). y.pool.slots) z, ap (λ (y : Bindings). length y.list) z ∙ length-append d.list ((c.slot, c.key) ∷ []), f)
      by BindOver z f = z
  grew (Recycling slot c) x r q z f = subst (λ (y : Outcome). Grew y d e) (sym q) (by (answer_to c x))
    where
      by : (t : RecycleTurn) → Grew (recycle_outcome slot t) d e
      by MoreOf = z
      by UnlinkedOf = z
      by (RecycledOf old root) = z
      by UnreachedOf = z

  abbrev Went : (Step → ℕ → Type 0) → Outcome → Type 0
  Went made r = (x : ℕ) × made (work_step d work) x × (r ≡ outcome_of work x) × (n ≡ work_on work x) × (e ≡ directory_on d work)

  pub went_lowered : (made : Step → ℕ → Type 0) (r : Outcome) → OnMade r (Went made r) → Lowers r work n → OnBound r (length e.list ≤ e.pool.slots) → CanTake (state n e) r → (new : ServerState) (turn : ServerTurn) → new ≡ taken_in (state n e) r → turn ≡ turn_of r → LowersBy turn (work_left (state work d)) (work_left new)
  went_lowered made r om h f t new turn en et = subst (λ (z : ServerTurn). LowersBy z (work_left (state work d)) (work_left new)) (sym et)
      (subst (λ (z : ServerState). LowersBy (turn_of r) (work_left (state work d)) (work_left z)) (sym en) (by r refl om))
    where
      main : Went made r → LowersBy (turn_of r) (work_left (state work d)) (work_left (taken_in (state n e) r))
      main q = lowered r h t (grew work q.0 r q.2 q.4 f)

      by : (s : Outcome) → r ≡ s → OnMade s (Went made r) → LowersBy (turn_of r) (work_left (state work d)) (work_left (taken_in (state n e) r))
      by Going q om = main om
      by Unlinked q om = main om
      by (Recycled slot old root) q om = main om
      by (WasBound own) q om = main om
      by Unreached q om = subst (λ (z : Outcome). LowersBy (turn_of z) (work_left (state work d)) (work_left (taken_in (state n e) z))) (sym q) tt

-- what a call begins
pub recycling_one : (s : ServerState) (slot : ℕ) (root : TagParts) → s.task ≡ None → work_left (recycling s slot root) ≡ work_left s + 1
recycling_one s slot root e = let z : of_task s.task ≡ 150 = ap of_task e in omega arith

pub binding_no_more : (s : ServerState) (slot : ℕ) (key : List ℕ) (own : TagParts) → s.task ≡ None → IsLedger s.books → IsBalanced s.books own → length key ≤ 250 → work_left (binding s slot key own) ≤ work_left s
binding_no_more s slot key own e whole due few =
    let z : of_task s.task ≡ 150 = ap of_task e in
    let m : generations_left (with_out s.books own) ≡ generations_left s.books = same_generation s.books (buffer_of_tag own) own.generation Free Out whole.lines free_serves due.free in
    let n : (length key + 8) / 8 ≤ 32 = omega arith in
    omega (arith, z, m, n)

-- the sweep has left a binding behind
pub swept_one : (s : ServerState) (q : ℕ × List ℕ) → slice_get s.directory.list (position s.sweep) ≡ Some q → length s.directory.list < 2 ^ 64 → work_left (swept_on s) + 1 ≡ work_left s
swept_one s q here few = let l = slice_get_within s.directory.list (position s.sweep) q here in omega arith

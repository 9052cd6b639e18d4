-- What an access leaves to a sweep over all bindings, and how many buffers it gives back.
use Rattle.std.proofs.Common.{◌≡◌, ℕ, zero, suc, ◌+◌, ◌≤◌, List, [], ◌∷◌, length, length-append, set, get_or, sum_by, Bool, true, false, if◌then◌else◌, nat_eq, refl, sym, ap, ◌∙◌, subst, arith}
use Rattle.std.specs.Prelude.{Option, Some, None}
use Rattle.std.proofs.lemmas.List.Sums.{sum_by-cons}
use Rattle.clover_words.specs.declared.word.Buffer.{Buffer}
use Rattle.clover_words.specs.Tag.{TagParts}
use Rattle.clover_alloc.specs.Calls.{next_line}
use Rattle.clover_alloc.specs.Kept.{one_at}
use Rattle.clover_alloc.specs.Ledger.{Ledger, count_of, buffer_of_tag, with_line}
use Rattle.clover_alloc.specs.Lines.{line}
use Rattle.clover_alloc.specs.declared.line.Line.{Line}
use Rattle.clover_alloc.specs.declared.line.Place.{Place}
use Rattle.clover_alloc.specs.declared.line.Place.TheVariants.{Free, Worn, Bound}
use Rattle.clover_dir.specs.Task.{UnderWay as BindUnderWay}
use Rattle.clover_dir.specs.declared.stage.Stage.{Stage}
use Rattle.clover_dir.specs.declared.stage.Stage.TheVariants.{Tombstone, FlushedTombstone, Key, FlushedKey, Root, FlushedRoot, Count, Over as BindOver}
use Rattle.clover_recycle.specs.Recycling.{answer_to, made_task}
use Rattle.clover_recycle.specs.declared.turn.RecycleTurn.{RecycleTurn}
use Rattle.clover_recycle.specs.declared.turn.RecycleTurn.TheVariants.{More as MoreOf, Unlinked as UnlinkedOf, Recycled as RecycledOf, Unreached as UnreachedOf}
use Rattle.clover_rule.specs.Steps.{Step}
use Rattle.clover_server.specs.Going.{books_bound, books_moved, taken_in, turn_of, work_on, outcome_of, recycle_outcome, directory_on, went, answer_of}
use Rattle.clover_server.specs.Left.{work_left, sweep_left, LowersBy, Lessens}
use Rattle.clover_server.specs.Looking.{given_back}
use Rattle.clover_server.specs.Server.{ServerState}
use Rattle.clover_server.specs.Steps.{own_turn, recycling}
use Rattle.clover_server.specs.declared.outcome.Outcome.{Outcome}
use Rattle.clover_server.specs.declared.outcome.Outcome.TheVariants.{Going, Unlinked, Recycled, Bound as WasBound, Unreached}
use Rattle.clover_server.specs.declared.turn.ServerTurn.{ServerTurn}
use Rattle.clover_server.specs.declared.turn.ServerTurn.TheVariants.{More, Ready, Unlinked as TurnUnlinked, Recycled as TurnRecycled, Full, NoSlot, Unreached as TurnUnreached}
use Rattle.clover_server.specs.declared.work.Unfinished.{Unfinished}
use Rattle.clover_server.specs.declared.work.Work.{Work}
use Rattle.clover_server.specs.declared.work.Work.TheVariants.{Binding, Recycling}
use Rattle.clover_server.proofs.Left.{recycling_one}
use Rattle.clover_server.proofs.Steps.{WentOn}

-- a sum once one element is another, wherever it stands
module _ {X : Type 0} (f : X → ℕ) where
  sum_with : (xs : List X) (i : ℕ) (y : X) → sum_by f (set xs i y) ≤ sum_by f xs + f y
  sum_with [] i y = omega arith
  sum_with (x ∷ xs) zero y = omega (arith, sum_by-cons f y xs, sum_by-cons f x xs)
  sum_with (x ∷ xs) (suc i) y = omega (arith, sum_with xs i y, sum_by-cons f x (set xs i y), sum_by-cons f x xs)

  sums_with : (rows : List (List X)) (n i : ℕ) (y : X) → sum_by (sum_by f) (set rows n (set (get_or rows n []) i y)) ≤ sum_by (sum_by f) rows + f y
  sums_with [] n i y = omega arith
  sums_with (r ∷ rows) zero i y = omega (arith, sum_with r i y, sum_by-cons (sum_by f) (set r i y) rows, sum_by-cons (sum_by f) r rows)
  sums_with (r ∷ rows) (suc n) i y = omega (arith, sums_with rows n i y, sum_by-cons (sum_by f) r (set rows n (set (get_or rows n []) i y)), sum_by-cons (sum_by f) r rows)

count_with : (p : Place) (books : Ledger) (b : Buffer) (l : Line) → count_of p (with_line books b l) ≤ count_of p books + one_at p l
count_with p books b l = sums_with (λ (m : Line). one_at p m) books.nodes b.node b.index l

-- how many are free or worn
abbrev given : Ledger → ℕ
given books = count_of Free books + count_of Worn books

bound_gives : (books : Ledger) (own : TagParts) → given (books_bound books own) ≤ given books
bound_gives books own =
    let b = buffer_of_tag own in let l = line own.generation Bound in
    omega (arith, count_with Free books b l, count_with Worn books b l)

moved_gives : (books : Ledger) (old root : TagParts) → given (books_moved books old root) ≤ given books + 1
moved_gives books old root =
    let b = buffer_of_tag old in let l = next_line books.pool.wear old.generation in
    omega (arith, bound_gives books root, count_with Free (books_bound books root) b l, count_with Worn (books_bound books root) b l, once (nat_eq (old.generation + 1) books.pool.wear))
  where
    once : (worn : Bool) → one_at Free (line (old.generation + 1) (if worn then Worn else Free)) + one_at Worn (line (old.generation + 1) (if worn then Worn else Free)) ≤ 1
    once true = omega arith
    once false = omega arith

taken_gives : (s : ServerState) (r : Outcome) → given_back (taken_in s r) ≤ given_back s + 1
taken_gives s Going = omega arith
taken_gives s Unlinked = omega arith
taken_gives s (Recycled slot old root) = moved_gives s.books old root
taken_gives s (WasBound own) = let h = bound_gives s.books own in omega (arith, h)
taken_gives s Unreached = omega arith

-- how many bindings there are behind an access
abbrev Grows : ServerTurn → ℕ → ℕ → Type 0
Grows TurnUnlinked before after = after ≡ before
Grows TurnUnreached before after = Unit {0}
Grows turn before after = after ≤ before + 1

-- the server behind an access of its task
module _ (s : ServerState) (x : ℕ) where
  abbrev with_task : Option Unfinished → ServerState
  with_task t = record { setup = s.setup; books = s.books; directory = s.directory; task = t; sweep = s.sweep }

  went_gives : (t : Option Unfinished) → given_back (went (with_task t) x) ≤ given_back s + 1
  went_gives None = omega arith
  went_gives (Some u) = taken_gives (record (with_task (Some u)) { directory = directory_on s.directory u.work; task = Some (record u { work = work_on u.work x }) }) (outcome_of u.work x)

  -- a recycling leaves the list of bindings as it is
  abbrev recycled : Unfinished → Outcome → ServerState
  recycled u r = taken_in (record (with_task (Some u)) { task = Some u }) r

  same_list : (u : Unfinished) (slot : ℕ) (t : RecycleTurn) → length (recycled u (recycle_outcome slot t)).directory.list ≡ length s.directory.list
  same_list u slot MoreOf = refl
  same_list u slot UnlinkedOf = refl
  same_list u slot (RecycledOf old root) = refl
  same_list u slot UnreachedOf = refl

  grows_list : (u : Unfinished) (slot : ℕ) (t : RecycleTurn) → Grows (turn_of (recycle_outcome slot t)) (length s.directory.list) (length (recycled u (recycle_outcome slot t)).directory.list)
  grows_list u slot MoreOf = omega arith
  grows_list u slot UnlinkedOf = refl
  grows_list u slot (RecycledOf old root) = omega arith
  grows_list u slot UnreachedOf = omega arith

  abbrev WentGrows : Option Unfinished → Type 0
  WentGrows t = Grows (answer_of (with_task t) x) (length s.directory.list) (length (went (with_task t) x).directory.list)

  went_binding : (left : Bool) (own : TagParts) (c : BindUnderWay) → WentGrows (Some (record { work = Binding own c; left = left }))
  went_binding left own c = by c.stage
    where
      by : (at : Stage) → WentGrows (Some (record { work = Binding own (record c { stage = at }); left = left }))
      by Tombstone = omega arith
      by FlushedTombstone = omega arith
      by (Key j) = omega arith
      by (FlushedKey j) = omega arith
      by Root = omega arith
      by FlushedRoot = omega arith
      by Count = let l = length-append s.directory.list ((c.slot, c.key) ∷ []) in omega (arith, l)
      by BindOver = omega arith

  went_grows : (t : Option Unfinished) → WentGrows t
  went_grows None = omega arith
  went_grows (Some u) = by u.work
    where
      by : (w : Work) → WentGrows (Some (record { work = w; left = u.left }))
      by (Binding own c) = went_binding u.left own c
      by (Recycling slot c) = grows_list (record { work = work_on (Recycling slot c) x; left = u.left }) slot (answer_to c x)

-- what go_on tells: the access of the server b was made or refused, and left n with this answer
module _ (made : Step → ℕ → Type 0) (failed : Type 0) (b n : ServerState) where
  pub gives_on : (r : ServerTurn) → WentOn b n r made failed → given_back n ≤ given_back b + 1
  gives_on r told = by r told
    where
      main : (x : ℕ) → n ≡ went b x → given_back n ≤ given_back b + 1
      main x e = subst (λ (z : ServerState). given_back z ≤ given_back b + 1) (sym e) (went_gives b x b.task)

      by : (q : ServerTurn) → WentOn b n q made failed → given_back n ≤ given_back b + 1
      by More t = main t.0 t.1.1
      by Ready t = main t.0 t.1.1
      by TurnUnlinked t = main t.0 t.1.1
      by (TurnRecycled old) t = main t.0 t.1.1
      by (Full bound worn out) t = main t.0 t.1.1
      by NoSlot t = main t.0 t.1.1
      by TurnUnreached t = let e : given_back n ≡ given_back b = ap given_back t.1 in omega (arith, e)

  -- a task's access leaves fewer, whatever the answer tells of it
  pub lessened : (left : Bool) (r0 r : ServerTurn) → r ≡ own_turn left r0 → WentOn b n r0 made failed → LowersBy r0 (work_left b) (work_left n) → Lessens r (sweep_left b) (sweep_left n)
  lessened left r0 r er told h = subst (λ (z : ServerTurn). Lessens z (sweep_left b) (sweep_left n)) (sym er) (by left r0 told h)
    where
      grows : (q : ServerTurn) (x : ℕ) → n ≡ went b x → q ≡ answer_of b x → Grows q (length b.directory.list) (length n.directory.list)
      grows q x e f = subst (λ (z : ServerTurn). Grows z (length b.directory.list) (length n.directory.list)) (sym f)
          (subst (λ (z : ServerState). Grows (answer_of b x) (length b.directory.list) (length z.directory.list)) (sym e) (went_grows b x b.task))

      by : (l : Bool) (q : ServerTurn) → WentOn b n q made failed → LowersBy q (work_left b) (work_left n) → Lessens (own_turn l q) (sweep_left b) (sweep_left n)
      by true More t h = let g = grows More t.0 t.1.1 t.1.2 in omega (arith, g, h)
      by true Ready t h = let g = grows Ready t.0 t.1.1 t.1.2 in omega (arith, g, h)
      by true TurnUnlinked t h = let g = grows TurnUnlinked t.0 t.1.1 t.1.2 in omega (arith, g, h)
      by true (TurnRecycled old) t h = let g = grows (TurnRecycled old) t.0 t.1.1 t.1.2 in omega (arith, g, h)
      by true (Full bound worn out) t h = let g = grows (Full bound worn out) t.0 t.1.1 t.1.2 in omega (arith, g, h)
      by true NoSlot t h = let g = grows NoSlot t.0 t.1.1 t.1.2 in omega (arith, g, h)
      by true TurnUnreached t h = tt
      by false More t h = let g = grows More t.0 t.1.1 t.1.2 in omega (arith, g, h)
      by false Ready t h = let g = grows Ready t.0 t.1.1 t.1.2 in omega (arith, g, h)
      by false TurnUnlinked t h = let g = grows TurnUnlinked t.0 t.1.1 t.1.2 in omega (arith, g, h)
      by false (TurnRecycled old) t h = let g = grows (TurnRecycled old) t.0 t.1.1 t.1.2 in omega (arith, g, h)
      by false (Full bound worn out) t h = let g = grows (Full bound worn out) t.0 t.1.1 t.1.2 in omega (arith, g, h)
      by false NoSlot t h = let g = grows NoSlot t.0 t.1.1 t.1.2 in omega (arith, g, h)
      by false TurnUnreached t h = tt

  -- a recycling's first access leaves the list of bindings as it is, and lowers what its beginning has raised by one
  pub begun_lessened : (s : ServerState) (slot : ℕ) (root : TagParts) (r : ServerTurn) → s.task ≡ None → b ≡ recycling s slot root → WentOn b n r made failed → LowersBy r (work_left b) (work_left n) → Lessens r (sweep_left s) (sweep_left n)
  begun_lessened s slot root r idle e told h = by r told h
    where
      one : work_left b ≡ work_left s + 1
      one = ap work_left e ∙ recycling_one s slot root idle

      list : (x : ℕ) → n ≡ went b x → length n.directory.list ≡ length s.directory.list
      list x q = ap (λ (z : ServerState). length z.directory.list) q ∙ ap (λ (z : ServerState). length (went z x).directory.list) e ∙ same_list s x (record { work = work_on (Recycling slot (made_task slot root)) x; left = false }) slot (answer_to (made_task slot root) x)

      by : (q : ServerTurn) → WentOn b n q made failed → LowersBy q (work_left b) (work_left n) → Lessens q (sweep_left s) (sweep_left n)
      by More t h = let l = list t.0 t.1.1 in omega (arith, l, h, one)
      by Ready t h = let l = list t.0 t.1.1 in omega (arith, l, h, one)
      by TurnUnlinked t h = let l = list t.0 t.1.1 in omega (arith, l, h, one)
      by (TurnRecycled old) t h = let l = list t.0 t.1.1 in omega (arith, l, h, one)
      by (Full bound worn out) t h = let l = list t.0 t.1.1 in omega (arith, l, h, one)
      by NoSlot t h = let l = list t.0 t.1.1 in omega (arith, l, h, one)
      by TurnUnreached t h = tt

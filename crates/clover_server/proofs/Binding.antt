-- That the view and the server agree behind an access of a binding.
use Rattle.std.proofs.Common.{◌≡◌, ◌≢◌, ℕ, ◌+◌, ◌<◌, List, [], ◌∷◌, ◌++◌, length, length-append, Bool, true, false, refl, sym, ap, ◌∙◌, subst, arith}
use Rattle.std.specs.Prelude.{nat_lt, slice_get, if◌then◌else◌, Option, Some, None}
use Rattle.std.specs.Option.{option_map}
use Rattle.std.proofs.lemmas.Option.{slice_get-get_or}
use Rattle.std.proofs.lemmas.List.{get_or_append_left}
use Rattle.clover_words.specs.declared.pool.Pool.{Pool}
use Rattle.clover_words.specs.declared.setup.Setup.{Setup}
use Rattle.clover_words.specs.declared.word.Buffer.{Buffer}
use Rattle.clover_words.specs.Tag.{TagParts, IsTag, tag_number, home, age}
use Rattle.clover_words.proofs.Versions.{buffer_tag, age_tag}
use Rattle.clover_map.specs.declared.call.Entry.{Entry}
use Rattle.clover_port.specs.Told.{Open, Made}
use Rattle.clover_rule.specs.Asks.{IsAt}
use Rattle.clover_rule.specs.Content.{InRange}
use Rattle.clover_rule.specs.Lists.{Within}
use Rattle.clover_rule.specs.Told.{Facts}
use Rattle.clover_rule.specs.Views.{book, find_book}
use Rattle.clover_rule.specs.declared.view.BookLine.{BookLine}
use Rattle.clover_rule.specs.declared.view.BufferState.TheVariants.{Out as ViewOut, Bound as ViewBound}
use Rattle.clover_rule.specs.declared.view.Role.TheVariants.{Serving}
use Rattle.clover_rule.specs.declared.view.ServerTask.TheVariants.{Idle}
use Rattle.clover_rule.specs.declared.view.View.{View}
use Rattle.clover_alloc.specs.Ledger.{Ledger, IsLedger, with_line, book as line_of}
use Rattle.clover_alloc.specs.Lines.{line}
use Rattle.clover_alloc.specs.declared.line.Place.TheVariants.{Bound}
use Rattle.clover_dir.specs.Directory.{Bindings, root_of, with_binding}
use Rattle.clover_dir.specs.Holding.{IsDirectoryOf}
use Rattle.clover_dir.specs.Task.{UnderWay, after, bind_on, bind_step, key_length, staged}
use Rattle.clover_dir.specs.declared.stage.Stage.{Stage}
use Rattle.clover_dir.specs.declared.stage.Stage.TheVariants.{Tombstone, FlushedTombstone, Key, FlushedKey, Root, FlushedRoot, Count, Over}
use Rattle.clover_server.specs.Going.{books_bound}
use Rattle.clover_server.specs.Holding.{Agrees, AreBooksOf, IsSweptBy, WorkHolds, if_before, seen_book}
use Rattle.clover_server.specs.Server.{ServerState}
use Rattle.clover_server.specs.declared.work.Unfinished.{Unfinished}
use Rattle.clover_server.specs.declared.work.Work.TheVariants.{Binding}
use Rattle.clover_server.proofs.Lines.{SameBooks, same_with_view, same_with_line}

-- behind its first access a binding has nothing taken that the view does not know of
none_before : (n : ℕ) (t : TagParts) (at : Stage) → if_before (after n at) t ≡ []
none_before n t Tombstone = refl
none_before n t FlushedTombstone = refl
none_before n t (Key j) = by (nat_lt (j + 1) n)
  where
    by : (b : Bool) → if_before (if b then Key (j + 1) else FlushedKey 0) t ≡ []
    by true = refl
    by false = refl
none_before n t (FlushedKey j) = by (nat_lt (j + 1) n)
  where
    by : (b : Bool) → if_before (if b then FlushedKey (j + 1) else Root) t ≡ []
    by true = refl
    by false = refl
none_before n t Root = refl
none_before n t FlushedRoot = refl
none_before n t Count = refl
none_before n t Over = refl

-- the roots of a directory that is the view's are in range
pub ranged_of : (p : Pool) (d : Bindings) (w : View) (h : List Entry) → Facts p w h → w.pass.role ≡ Serving → IsDirectoryOf p d w → (slot : ℕ) (t : TagParts) → root_of d slot ≡ Some t → InRange p (tag_number t)
ranged_of p d w h f role e slot t r = ((f.server role).roots slot (tag_number t) (e.roots slot ∙ ap (option_map tag_number) r)).1

-- nothing is taken, and the books are those of the view
pub books_of : (p : Pool) (books : Ledger) (w : View) → IsLedger books → books.pool ≡ p → w.pass.role ≡ Serving → SameBooks p w.server.books books → AreBooksOf p [] books w
books_of p books w whole of_pool role same = record { whole = whole; pool = of_pool; same = λ b i z. same b i; tags = tt; free = record { server = role; free = tt; apart = tt }; out = tt }

-- what a sweep has read stays read, also where a binding comes behind
pub swept_kept : (v w : View) (list : List (ℕ × List ℕ)) (sweep : Option ℕ) → ((slot : ℕ) → Within slot v.server.unlinked → Within slot w.server.unlinked) → IsSweptBy v list sweep → IsSweptBy w list sweep
swept_kept v w list None k h = tt
swept_kept v w list (Some n) k h = (h.0, λ i q l e. k q.0 (h.1 i q l e))

swept_grown : (w : View) (list : List (ℕ × List ℕ)) (x : ℕ × List ℕ) (sweep : Option ℕ) → IsSweptBy w list sweep → IsSweptBy w (list ++ x ∷ []) sweep
swept_grown w list x None h = tt
swept_grown w list x (Some n) h = ((let a = h.0 in let e = length-append list (x ∷ []) in omega arith), λ i q l e. h.1 i q l (there i q (let a = h.0 in omega arith) e))
  where
    there : (i : ℕ) (q : ℕ × List ℕ) → i < length list → slice_get (list ++ x ∷ []) i ≡ Some q → slice_get list i ≡ Some q
    there i q l e = slice_get-get_or list i q l ∙ ap Some (sym (get_or_append_left list (x ∷ []) q i l)) ∙ sym (slice_get-get_or (list ++ x ∷ []) i q (let a = length-append list (x ∷ []) in omega arith)) ∙ e

module _ (p : Pool) (setup : Setup) (books : Ledger) (d : Bindings) (sweep : Option ℕ) (left : Bool) (own : TagParts) (c : UnderWay) where
  abbrev with_task : Option Unfinished → Ledger → Bindings → ServerState
  with_task task bs e = record { setup = setup; books = bs; directory = e; task = task; sweep = sweep }

  abbrev at_stage : Stage → ServerState
  at_stage at = with_task (Some (record { work = Binding own (staged c at); left = left })) books d

  abbrev then_at : Stage → ServerState
  then_at at = with_task (Some (record { work = Binding own (bind_on (staged c at)); left = left })) books d

  module _ (v : View) (o : Option Open) (x : ℕ) (w : View) (o1 : Option Open) where
    abbrev Here : Stage → Type 0
    Here at = Made p (bind_step (staged c at) d) false v o x w o1

    role_now : (at : Stage) → Agrees p [] (at_stage at) v → w.pass.role ≡ v.pass.role → w.pass.role ≡ Serving
    role_now at a e = e ∙ a.task.0.at.server

    -- an access that is not the last one
    onward : (at : Stage) (h : List Entry) → Agrees p [] (at_stage at) v → WorkHolds p d w (Binding own (bind_on (staged c at))) → Facts p w h → w.pass.role ≡ v.pass.role → w.server.unlinked ≡ v.server.unlinked → SameBooks p w.server.books books → Agrees p [] (then_at at) w
    onward at h a holds f role unlinked same = record {
      pool = a.pool;
      task = holds;
      directory = holds.0.directory;
      ranged = a.ranged;
      books = subst (λ (l : List TagParts). AreBooksOf p l books w) (sym (none_before (key_length c.key) c.own at)) (books_of p books w a.books.whole a.books.pool (role_now at a role) same);
      held = a.held;
      sweep = swept_kept v w d.list sweep (λ slot. subst (Within slot) (sym unlinked)) a.sweep;
    }

    -- the books where the view's are as they were, and where it has the binding's own buffer out
    still : (l : List TagParts) → l ≡ [] → AreBooksOf p l books v → w.server.books ≡ v.server.books → SameBooks p w.server.books books
    still l q b e k i = ap (λ (bs : List BookLine). find_book bs k) e ∙ same0 k i
      where
        same0 : SameBooks p v.server.books books
        same0 = let z : AreBooksOf p [] books v = subst (λ (m : List TagParts). AreBooksOf p m books v) q b in λ k i. z.same k i tt

    first : Agrees p [] (at_stage Tombstone) v → Here Tombstone → SameBooks p w.server.books books
    first a m = subst (λ (bs : List BookLine). SameBooks p bs books) (sym (ap (λ (z : View). z.server.books) m.told.next))
        (same_with_view p v.server.books books (home (tag_number c.own)) (age (tag_number c.own)) ViewOut
        (λ b i n. a.books.same b i (n, tt))
        (ap (λ (b : Buffer). seen_book (line_of books b)) (buffer_tag c.own a.books.tags.0) ∙ ap seen_book a.books.out.0 ∙ ap (λ (g : ℕ). book g ViewOut) (sym (age_tag c.own a.books.tags.0))))

    pub bind_goes : (at : Stage) → at ≢ Count → Agrees p [] (at_stage at) v → Here at → WorkHolds p d w (Binding own (bind_on (staged c at))) → Agrees p [] (then_at at) w
    bind_goes Tombstone is a m holds = let e = m.told.next in onward Tombstone _ a holds m.told.after (ap (λ (z : View). z.pass.role) e) (ap (λ (z : View). z.server.unlinked) e) (first a m)
    bind_goes FlushedTombstone is a m holds = let e = m.told.next in onward FlushedTombstone _ a holds m.told.after (ap (λ (z : View). z.pass.role) e) (ap (λ (z : View). z.server.unlinked) e) (still _ refl a.books (ap (λ (z : View). z.server.books) e))
    bind_goes (Key j) is a m holds = let e = m.told.next in onward (Key j) _ a holds m.told.after (ap (λ (z : View). z.pass.role) e) (ap (λ (z : View). z.server.unlinked) e) (still _ refl a.books (ap (λ (z : View). z.server.books) e))
    bind_goes (FlushedKey j) is a m holds = let e = m.told.next in onward (FlushedKey j) _ a holds m.told.after (ap (λ (z : View). z.pass.role) e) (ap (λ (z : View). z.server.unlinked) e) (still _ refl a.books (ap (λ (z : View). z.server.books) e))
    bind_goes Root is a m holds = let e = m.told.next in onward Root _ a holds m.told.after (ap (λ (z : View). z.pass.role) e) (ap (λ (z : View). z.server.unlinked) e) (still _ refl a.books (ap (λ (z : View). z.server.books) e))
    bind_goes FlushedRoot is a m holds = let e = m.told.next in onward FlushedRoot _ a holds m.told.after (ap (λ (z : View). z.pass.role) e) (ap (λ (z : View). z.server.unlinked) e) (still _ refl a.books (ap (λ (z : View). z.server.books) e))
    bind_goes Count is a m holds = absurd (is refl)
    bind_goes Over is a m holds = absurd (a.task.1 refl)

    -- the last access
    abbrev e1 : Bindings
    e1 = with_binding d c.slot c.key c.own

    last_books : Agrees p [] (at_stage Count) v → Here Count → SameBooks p w.server.books (books_bound books c.own)
    last_books a m =
        let tag : IsTag c.own = subst IsTag (sym a.task.2) a.held.0 in
        subst (λ (bs : List BookLine). SameBooks p bs (books_bound books c.own)) (sym (ap (λ (z : View). z.server.books) m.told.next))
        (subst (λ (b : Buffer). SameBooks p (record { buffer = home (tag_number c.own); generation = age (tag_number c.own); state = ViewBound } ∷ v.server.books) (with_line books b (line c.own.generation Bound))) (buffer_tag c.own tag)
        (same_with_line p v.server.books books a.books.whole.lines a.books.pool (home (tag_number c.own)) a.task.0.buffer (line c.own.generation Bound) (age (tag_number c.own)) ViewBound (ap (λ (g : ℕ). book g ViewBound) (sym (age_tag c.own tag))) (λ b i. a.books.same b i tt)))

    pub bind_ends : Agrees p [] (at_stage Count) v → Here Count → IsAt w Idle → IsDirectoryOf p e1 w → IsLedger (books_bound books own) → Agrees p [] (with_task None (books_bound books own) e1) w
    bind_ends a m idle dir whole = let e = m.told.next in let role = role_now Count a (ap (λ (z : View). z.pass.role) e) in record {
      pool = a.pool;
      task = idle;
      directory = dir;
      ranged = ranged_of p e1 w _ m.told.after role dir;
      books = books_of p (books_bound books own) w whole a.books.pool role (subst (λ (t : TagParts). SameBooks p w.server.books (books_bound books t)) a.task.2 (last_books a m));
      held = tt;
      sweep = swept_grown w d.list (c.slot, c.key) sweep (swept_kept v w d.list sweep (λ slot. subst (Within slot) (sym (ap (λ (z : View). z.server.unlinked) e))) a.sweep);
    }

-- That a batch that is taken from the books is ahead of the view, and nothing else.
use Rattle.std.proofs.Common.{◌≡◌, ◌≢◌, ℕ, zero, suc, List, [], ◌∷◌, ◌++◌, map, Bool, true, cond, eqb, get_or, replicate, refl, sym, ap, ◌∙◌, subst, eq-eqb, ne_eqb}
use native.Mathlib.Decide.{ℕ_discrete}
use mathlib.Core.Logic.{dite}
use Rattle.std.specs.Prelude.{Option, Some, None}
use Rattle.std.specs.Option.{option_map}
use Rattle.clover_words.specs.declared.pool.Pool.{Pool}
use Rattle.clover_words.specs.declared.setup.Setup.{Setup}
use Rattle.clover_words.specs.declared.word.Buffer.{Buffer}
use Rattle.clover_words.specs.Place.{IsBuffer}
use Rattle.clover_words.specs.Tag.{TagParts, IsTag, tag_number, home, age}
use Rattle.clover_words.specs.Version.{buffer_at}
use Rattle.clover_words.proofs.Versions.{buffer_tag, age_tag}
use Rattle.clover_rule.specs.Content.{inside}
use Rattle.clover_rule.specs.Lists.{Each}
use Rattle.clover_rule.specs.Moves.{giving}
use Rattle.clover_rule.specs.Server.{waiting_name}
use Rattle.clover_rule.specs.Views.{Apart, book, book_at, find_book, find_root, line as view_line}
use Rattle.clover_rule.specs.declared.view.BookLine.{BookLine}
use Rattle.clover_rule.specs.declared.view.BufferState.TheVariants.{Free as ViewFree, Out as ViewOut}
use Rattle.clover_rule.specs.declared.view.View.{View}
use Rattle.clover_rule.proofs.Keeping.{inside_of}
use Rattle.clover_rule.proofs.Ties.{buffer_same, buffer_in}
use Rattle.clover_alloc.specs.Ledger.{Ledger, IsLedger, buffer_of_tag, book as line_of}
use Rattle.clover_alloc.specs.Lines.{line}
use Rattle.clover_alloc.specs.Taking.{Given, IsBalanced, with_out}
use Rattle.clover_alloc.specs.declared.line.Line.{Line}
use Rattle.clover_alloc.specs.declared.line.Place.{Place}
use Rattle.clover_alloc.specs.declared.line.Place.TheVariants.{Free, Out}
use Rattle.clover_alloc.proofs.TakingLemmas.{IsTag-free, due_within, out_whole, out_same, out_other}
use Rattle.clover_dir.specs.Directory.{Bindings, nothing_bound}
use Rattle.clover_dir.specs.Holding.{IfBefore}
use Rattle.clover_dir.specs.Task.{UnderWay}
use Rattle.clover_dir.specs.declared.stage.Stage.{Stage}
use Rattle.clover_dir.specs.declared.stage.Stage.TheVariants.{Tombstone, FlushedTombstone, Key, FlushedKey, Root, FlushedRoot, Count, Over}
use Rattle.clover_server.specs.Holding.{Agrees, AreBooksOf, IsSweptBy, TaskHasOut, TaskHolds, WorkHolds, if_before, reserved, seen_book}
use Rattle.clover_server.specs.Laws.{IsFirstServer}
use Rattle.clover_server.specs.Server.{ServerState, new_server}
use Rattle.clover_server.proofs.Binding.{books_of}
use Rattle.clover_server.specs.declared.work.Unfinished.{Unfinished}
use Rattle.clover_server.specs.declared.work.Work.{Work}
use Rattle.clover_server.specs.declared.work.Work.TheVariants.{Binding, Recycling}

-- an element stands at the front as well as within a list
to_front : {A : Type 0} (P : A → Type 0) (xs : List A) (t : A) (ys : List A) → Each P (xs ++ t ∷ ys) → Each P (t ∷ (xs ++ ys))
to_front P [] t ys h = h
to_front P (x ∷ xs) t ys h = let r = to_front P xs t ys h.1 in (r.0, (h.0, r.1))

from_front : {A : Type 0} (P : A → Type 0) (xs : List A) (t : A) (ys : List A) → Each P (t ∷ (xs ++ ys)) → Each P (xs ++ t ∷ ys)
from_front P [] t ys h = h
from_front P (x ∷ xs) t ys h = (h.1.0, from_front P xs t ys (h.0, h.1.1))

apart_front : (xs : List TagParts) (t : TagParts) (ys : List TagParts) → Apart (map tag_number (xs ++ t ∷ ys)) → Apart (map tag_number (t ∷ (xs ++ ys)))
apart_front [] t ys h = h
apart_front (x ∷ xs) t ys h =
    let r = apart_front xs t ys h.1 in
    let z = mapped (λ (u : ℕ). home u ≢ home (tag_number x)) xs t ys h.0 in
    (((λ e. z.0 (sym e)), r.0), (z.1, r.1))
  where
    mapped : (P : ℕ → Type 0) (xs : List TagParts) (t : TagParts) (ys : List TagParts) → Each P (map tag_number (xs ++ t ∷ ys)) → P (tag_number t) × Each P (map tag_number (xs ++ ys))
    mapped P [] t ys h = h
    mapped P (x ∷ xs) t ys h = let r = mapped P xs t ys h.1 in (r.0, (h.0, r.1))

free_front : (Q : ℕ → Type 0) (xs : List TagParts) (t : TagParts) (ys : List TagParts) → Each Q (map tag_number (xs ++ t ∷ ys)) → Each Q (map tag_number (t ∷ (xs ++ ys)))
free_front Q [] t ys h = h
free_front Q (x ∷ xs) t ys h = let r = free_front Q xs t ys h.1 in (r.0, (h.0, r.1))

books_front : (p : Pool) (xs : List TagParts) (t : TagParts) (ys : List TagParts) (books : Ledger) (v : View) → AreBooksOf p (xs ++ t ∷ ys) books v → AreBooksOf p (t ∷ (xs ++ ys)) books v
books_front p xs t ys books v a = record {
  whole = a.whole;
  pool = a.pool;
  same = λ b i h. a.same b i (from_front (λ (u : TagParts). home (tag_number u) ≢ b) xs t ys h);
  tags = to_front IsTag xs t ys a.tags;
  free = record { server = a.free.server; free = free_front _ xs t ys a.free.free; apart = apart_front xs t ys a.free.apart };
  out = to_front (λ (u : TagParts). line_of books (buffer_of_tag u) ≡ line u.generation Out) xs t ys a.out;
}

-- a buffer that is out is not one that is free
module _ (books : Ledger) (t : TagParts) (due : IsBalanced books t) where
  not_due : (b : Buffer) (g : ℕ) → line_of books b ≡ line g Out → b ≢ buffer_of_tag t
  not_due b g out e = let z : line g Out ≡ line t.generation Free = sym out ∙ ap (line_of books) e ∙ due.free in let y : ◌≡◌ {A = Place} Out Free = ap (λ (l : Line). l.place) z in cc

  module _ (tag : IsTag t) where
    other_home : (u : TagParts) → IsTag u → line_of books (buffer_of_tag u) ≡ line u.generation Out → home (tag_number u) ≢ home (tag_number t)
    other_home u h out e = not_due (buffer_of_tag u) u.generation out (sym (buffer_tag u h) ∙ ap buffer_at e ∙ buffer_tag t tag)

    other_homes : (taken : List TagParts) → Each IsTag taken → Each (λ (u : TagParts). line_of books (buffer_of_tag u) ≡ line u.generation Out) taken → Each (λ (u : TagParts). home (tag_number u) ≢ home (tag_number t)) taken × Each (λ (u : ℕ). home u ≢ home (tag_number t)) (map tag_number taken)
    other_homes [] h o = (tt, tt)
    other_homes (u ∷ us) h o = let r = other_homes us h.1 o.1 in let z = other_home u h.0 o.0 in ((z, r.0), (z, r.1))

-- one more is taken
take_one : (p : Pool) (taken : List TagParts) (books : Ledger) (v : View) (t : TagParts) → AreBooksOf p taken books v → IsBalanced books t → AreBooksOf p (t ∷ taken) (with_out books t) v
take_one p taken books v t a due = record {
  whole = out_whole books a.whole t due;
  pool = a.pool;
  same = λ b i h. a.same b i h.1 ∙ ap seen_book (sym (out_other books a.whole t due (buffer_at b) (λ e. h.0 (same_home b e))));
  tags = (tag, a.tags);
  free = record { server = a.free.server; free = ((here, seen), a.free.free); apart = (others.1, a.free.apart) };
  out = (out_same books a.whole t due, outs taken a.out);
}
  where
    tag : IsTag t
    tag = IsTag-free books a.whole (buffer_of_tag t) t.generation due.free

    at_home : buffer_at (home (tag_number t)) ≡ buffer_of_tag t
    at_home = buffer_tag t tag

    here : inside p (home (tag_number t)) ≡ true
    here = inside_of p (home (tag_number t)) (subst (IsBuffer p) (sym at_home) (subst (λ (q : Pool). IsBuffer q (buffer_of_tag t)) a.pool (due_within books a.whole t due)))

    others : Each (λ (u : TagParts). home (tag_number u) ≢ home (tag_number t)) taken × Each (λ (u : ℕ). home u ≢ home (tag_number t)) (map tag_number taken)
    others = other_homes books t due tag taken a.tags a.out

    seen : book_at v.server (home (tag_number t)) ≡ book (age (tag_number t)) ViewFree
    seen = a.same (home (tag_number t)) here others.0 ∙ ap (λ (b : Buffer). seen_book (line_of books b)) at_home ∙ ap seen_book due.free ∙ ap (λ (g : ℕ). book g ViewFree) (sym (age_tag t tag))

    same_home : (b : ℕ) → buffer_at b ≡ buffer_of_tag t → home (tag_number t) ≡ b
    same_home b e = let z = at_home ∙ sym e in buffer_same (home (tag_number t)) b (ap (λ (q : Buffer). q.node) z) (ap (λ (q : Buffer). q.index) z)

    outs : (us : List TagParts) → Each (λ (u : TagParts). line_of books (buffer_of_tag u) ≡ line u.generation Out) us → Each (λ (u : TagParts). line_of (with_out books t) (buffer_of_tag u) ≡ line u.generation Out) us
    outs [] o = tt
    outs (u ∷ us) o = (out_other books a.whole t due (buffer_of_tag u) (not_due books t due (buffer_of_tag u) u.generation o.0) ∙ o.0, outs us o.1)

-- so many are taken
take_all : (p : Pool) (ts taken : List TagParts) (books after : Ledger) (v : View) → AreBooksOf p taken books v → Given books ts after → AreBooksOf p (ts ++ taken) after v
take_all p [] taken books after v a h = subst (λ (z : Ledger). AreBooksOf p taken z v) (sym h) a
take_all p (t ∷ ts) taken books after v a h = books_front p ts t taken after v (take_all p ts (t ∷ taken) (with_out books t) after v (take_one p taken books v t a h.0) h.1)

-- what was out stays so
out_stays : (p : Pool) (ts taken : List TagParts) (books after : Ledger) (v : View) → AreBooksOf p taken books v → Given books ts after → (b : Buffer) (g : ℕ) → line_of books b ≡ line g Out → line_of after b ≡ line g Out
out_stays p [] taken books after v a h b g e = ap (λ (z : Ledger). line_of z b) h ∙ e
out_stays p (t ∷ ts) taken books after v a h b g e = out_stays p ts (t ∷ taken) (with_out books t) after v (take_one p taken books v t a h.0) h.1 b g (out_other books a.whole t h.0 b (not_due books t h.0 b g e) ∙ e)

-- a batch is taken
pub agrees_granted : (p : Pool) (s : ServerState) (v : View) (ts : List TagParts) (after : Ledger) → Agrees p [] s v → Given s.books ts after → Agrees p ts (record s { books = after }) v
agrees_granted p s v ts after a h = record {
  pool = a.pool;
  task = a.task;
  directory = a.directory;
  ranged = a.ranged;
  books = take_all p ts (reserved s.task) s.books after v a.books h;
  held = held s.task a.held;
  sweep = a.sweep;
}
  where
    held : (t : Option Unfinished) → TaskHasOut s.books t → TaskHasOut after t
    held None k = tt
    held (Some u) k = by u.work k
      where
        by : (w : Work) → TaskHasOut s.books (Some (record { work = w; left = u.left })) → TaskHasOut after (Some (record { work = w; left = u.left }))
        by (Binding own c) k = (k.0, out_stays p ts (reserved s.task) s.books after v a.books h (buffer_of_tag own) own.generation k.1)
        by (Recycling slot c) k = tt

-- one tag of a batch is handed over: the view has its buffer out, too
hand_one : (p : Pool) (t : TagParts) (rest : List TagParts) (books : Ledger) (v : View) → AreBooksOf p (t ∷ rest) books v → AreBooksOf p rest books (record v { server = record v.server { books = view_line (home (tag_number t)) (age (tag_number t)) ViewOut ∷ v.server.books } })
hand_one p t rest books v a = record {
  whole = a.whole;
  pool = a.pool;
  same = λ b i h. dite (ℕ_discrete (home (tag_number t)) b)
      (λ e. ap (λ (z : Bool). cond z (book (age (tag_number t)) ViewOut) (book_at v.server b)) (eq-eqb (home (tag_number t)) b e) ∙ ap (λ (g : ℕ). book g ViewOut) (age_tag t a.tags.0) ∙ ap seen_book (sym a.out.0) ∙ ap (λ (z : Buffer). seen_book (line_of books z)) (sym (buffer_tag t a.tags.0)) ∙ ap (λ (n : ℕ). seen_book (line_of books (buffer_at n))) e)
      (λ n. ap (λ (z : Bool). cond z (book (age (tag_number t)) ViewOut) (book_at v.server b)) (ne_eqb (home (tag_number t)) b n) ∙ a.same b i (n, h));
  tags = a.tags.1;
  free = record { server = a.free.server; free = still (map tag_number rest) a.free.apart.0 a.free.free.1; apart = a.free.apart.1 };
  out = a.out.1;
}
  where
    still : (us : List ℕ) → Each (λ (u : ℕ). home u ≢ home (tag_number t)) us → Each (λ (u : ℕ). (inside p (home u) ≡ true) × (book_at v.server (home u) ≡ book (age u) ViewFree)) us
        → Each (λ (u : ℕ). (inside p (home u) ≡ true) × (cond (eqb (home (tag_number t)) (home u)) (book (age (tag_number t)) ViewOut) (book_at v.server (home u)) ≡ book (age u) ViewFree)) us
    still [] n h = tt
    still (u ∷ us) n h = ((h.0.0, ap (λ (z : Bool). cond z (book (age (tag_number t)) ViewOut) (book_at v.server (home u))) (ne_eqb (home (tag_number t)) (home u) (λ e. n.0 (sym e))) ∙ h.0.1), still us n.1 h.1)

-- and the whole batch
handed_books : (p : Pool) (ts rest : List TagParts) (books : Ledger) (v : View) → AreBooksOf p (ts ++ rest) books v → AreBooksOf p rest books (giving (map tag_number ts) v)
handed_books p [] rest books v a = record { whole = a.whole; pool = a.pool; same = a.same; tags = a.tags; free = record { server = a.free.server; free = a.free.free; apart = a.free.apart }; out = a.out }
handed_books p (t ∷ ts) rest books v a = handed_books p ts rest books (record v { server = record v.server { books = view_line (home (tag_number t)) (age (tag_number t)) ViewOut ∷ v.server.books } }) (hand_one p t (ts ++ rest) books v a)

-- a binding none of whose accesses was made has its buffer still free
still_free : (p : Pool) (c : UnderWay) (at : Stage) (books : Ledger) (w : View) → AreBooksOf p (if_before at c.own) books w → IfBefore at (book_at w.server (home (tag_number c.own)) ≡ book (age (tag_number c.own)) ViewFree)
still_free p c Tombstone books w a = a.free.free.0.1
still_free p c FlushedTombstone books w a = tt
still_free p c (Key j) books w a = tt
still_free p c (FlushedKey j) books w a = tt
still_free p c Root books w a = tt
still_free p c FlushedRoot books w a = tt
still_free p c Count books w a = tt
still_free p c Over books w a = tt

-- what the task stands on is not what a hand-over changes
task_handed : (p : Pool) (d : Bindings) (v : View) (ts : List TagParts) (books : Ledger) (t : Option Unfinished) → AreBooksOf p (reserved t) books (giving (map tag_number ts) v) → TaskHolds p d v t → TaskHolds p d (giving (map tag_number ts) v) t
task_handed p d v ts books None b h = record { server = h.server; task_is = h.task_is }
task_handed p d v ts books (Some u) b h = by u.work b h
  where
    by : (w : Work) → AreBooksOf p (reserved (Some (record { work = w; left = u.left }))) books (giving (map tag_number ts) v) → WorkHolds p d v w → WorkHolds p d (giving (map tag_number ts) v) w
    by (Binding own c) b h = (
      record {
        at = record { server = h.0.at.server; task_is = h.0.at.task_is };
        directory = record { pool = h.0.directory.pool; list = h.0.directory.list; roots = h.0.directory.roots };
        enter = h.0.enter;
        buffer = h.0.buffer;
        free = still_free p c c.stage books (giving (map tag_number ts) v) b;
      },
      h.1,
      h.2,
    )
    by (Recycling slot c) b h = (record { task = record { server = h.0.task.server; task_is = h.0.task.task_is }; root = h.0.root; stands = h.0.stands }, h.1, h.2, h.3)

-- the batch is handed over, where no sweep is under way
pub agrees_handed : (p : Pool) (s : ServerState) (v : View) (ts : List TagParts) → Agrees p ts s v → s.sweep ≡ None → Agrees p [] s (giving (map tag_number ts) v)
agrees_handed p s v ts a none =
    let b = handed_books p ts (reserved s.task) s.books v a.books in
    record {
      pool = a.pool;
      task = task_handed p s.directory v ts s.books s.task b a.task;
      directory = record { pool = a.directory.pool; list = a.directory.list; roots = a.directory.roots };
      ranged = a.ranged;
      books = b;
      held = a.held;
      sweep = subst (IsSweptBy (giving (map tag_number ts) v) s.directory.list) (sym none) tt;
    }

-- the server that is made with new books and an empty directory
pub agrees_first : (setup : Setup) (books : Ledger) (v : View) → IsLedger books → books.pool ≡ setup.pool → ((b : Buffer) → IsBuffer setup.pool b → line_of books b ≡ line 0 Free) → IsFirstServer v → Agrees setup.pool [] (new_server setup books (nothing_bound setup.pool)) v
agrees_first setup books v whole of_pool free first = record {
  pool = refl;
  task = first.idle;
  directory = record { pool = refl; list = first.directory ∙ sym (ap waiting_name first.idle.task_is); roots = λ s. ap (λ (rs : List (ℕ × ℕ)). find_root rs s) first.roots ∙ ap (option_map tag_number) (sym (no_root setup.pool.slots s)) };
  ranged = λ s t e. absurd (let z : ◌≡◌ {A = Option TagParts} None (Some t) = sym (no_root setup.pool.slots s) ∙ e in cc);
  books = books_of setup.pool books v whole of_pool first.idle.server (λ b i. ap (λ (bs : List BookLine). find_book bs b) first.books ∙ ap seen_book (sym (free (buffer_at b) (buffer_in setup.pool b i))));
  held = tt;
  sweep = tt;
}
  where
    no_root : (n s : ℕ) → ◌≡◌ {A = Option TagParts} (get_or (replicate n None) s None) None
    no_root zero s = refl
    no_root (suc n) zero = refl
    no_root (suc n) (suc s) = no_root n s

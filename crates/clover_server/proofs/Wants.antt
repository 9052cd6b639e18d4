-- That the view and the server agree where a want has ended or begun something, and what a want finds.
use Rattle.std.proofs.Common.{◌≡◌, ℕ, zero, suc, ◌+◌, ◌-◌, ◌^◌, ◌<◌, ◌≤◌, min, ◌⊎◌, List, [], ◌∷◌, length, true, false, refl, sym, ap, ◌∙◌, inl, inr, ⊎_elim, subst, arith}
use Rattle.std.specs.Prelude.{slice_get, Option, Some, None, IsSome, IfSome}
use Rattle.std.specs.Option.{option_map, is_some}
use Rattle.std.proofs.lemmas.Option.{slice_get_within}
use Rattle.clover_words.specs.declared.pool.Pool.{Pool}
use Rattle.clover_words.specs.declared.setup.Setup.{Setup}
use Rattle.clover_words.specs.declared.word.Buffer.{Buffer}
use Rattle.clover_words.specs.Place.{IsBuffer}
use Rattle.clover_words.specs.Tag.{TagParts, IsTag, tag_number, home, age}
use Rattle.clover_words.specs.Version.{buffer_at}
use Rattle.clover_words.proofs.Versions.{buffer_tag, age_tag}
use Rattle.clover_rule.specs.Content.{inside}
use Rattle.clover_rule.specs.Lists.{Within}
use Rattle.clover_rule.specs.Views.{book, book_at}
use Rattle.clover_rule.specs.declared.view.BufferState.TheVariants.{Free as ViewFree}
use Rattle.clover_rule.specs.declared.view.View.{View}
use Rattle.clover_rule.proofs.Keeping.{inside_of}
use Rattle.clover_rule.proofs.Ties.{buffer_same}
use Rattle.clover_alloc.specs.Ledger.{Ledger, IsLedger, buffer_of_tag, total_of, book as line_of}
use Rattle.clover_alloc.specs.Lines.{line}
use Rattle.clover_alloc.specs.Taking.{IsBalanced, with_out}
use Rattle.clover_alloc.specs.declared.line.Place.TheVariants.{Free, Out}
use Rattle.clover_alloc.proofs.LedgerLemmas.{book-with_line_same, book-with_line_other}
use Rattle.clover_dir.specs.Directory.{Bindings, IsBound, root_of}
use Rattle.clover_dir.specs.Holding.{MayEnter}
use Rattle.clover_recycle.specs.Sweeping.{after_turn}
use Rattle.clover_recycle.specs.declared.turn.RecycleTurn.TheVariants.{Unlinked as WasUnlinked}
use Rattle.clover_server.specs.Holding.{Agrees, IsSweptBy, seen_book}
use Rattle.clover_server.specs.Looking.{position, free_in}
use Rattle.clover_server.specs.Server.{ServerState}
use Rattle.clover_server.specs.Steps.{Due, Finishes, or_finish, ended, sweeping, recycling, binding, swept_on}
use Rattle.clover_server.specs.Told.{IsFull}
use Rattle.clover_server.specs.declared.work.Unfinished.{Unfinished}

-- an unfinished task comes first, and only that
pub busy_due : (t : Option Unfinished) (due : Due) → IsSome t → or_finish t due ≡ Finishes
busy_due None due h = absurd (let z : false ≡ true = h in cc)
busy_due (Some u) due h = refl

pub idle_due : (t : Option Unfinished) (due : Due) → t ≡ None → or_finish t due ≡ due
idle_due t due e = ap (λ (z : Option Unfinished). or_finish z due) e

-- a want has ended
pub agrees_ended : (p : Pool) (s : ServerState) (v : View) → Agrees p [] s v → Agrees p [] (ended s) v
agrees_ended p s v a = record { pool = a.pool; task = a.task; directory = a.directory; ranged = a.ranged; books = a.books; held = a.held; sweep = tt }

-- the slot at a place of the list is bound
pub bound_at : (list : List (ℕ × List ℕ)) (i : ℕ) (q : ℕ × List ℕ) → slice_get list i ≡ Some q → Within q list
bound_at [] i q e = absurd cc
bound_at (x ∷ list) zero q e = inl (some_is x q e)
  where
    some_is : (x q : ℕ × List ℕ) → ◌≡◌ {A = Option (ℕ × List ℕ)} (Some x) (Some q) → x ≡ q
    some_is x q e = cc
bound_at (x ∷ list) (suc i) q e = inr (bound_at list i q e)

pub place_of : (list : List (ℕ × List ℕ)) (q : ℕ × List ℕ) → Within q list → (i : ℕ) × (slice_get list i ≡ Some q)
place_of [] q x' = elim x' [ ]
place_of (x ∷ list) q (inl e) = (0, ap Some e)
place_of (x ∷ list) q (inr h) = let r = place_of list q h in (suc r.0, r.1)

module _ (p : Pool) (setup : Setup) (books : Ledger) (d : Bindings) (sweep : Option ℕ) (v : View) where
  abbrev idle : ServerState
  idle = record { setup = setup; books = books; directory = d; task = None; sweep = sweep }

  -- a recycling has begun, for itself or for a sweep
  pub agrees_recycling : (slot : ℕ) (root : TagParts) → Agrees p [] idle v → root_of d slot ≡ Some root → IsBound slot d → Agrees p [] (recycling idle slot root) v
  agrees_recycling slot root a e b = record {
    pool = a.pool;
    task = (record { task = record { server = a.task.server; task_is = a.task.task_is }; root = a.ranged slot root e; stands = a.directory.roots slot ∙ ap (option_map tag_number) e }, refl, e, b);
    directory = a.directory;
    ranged = a.ranged;
    books = a.books;
    held = tt;
    sweep = a.sweep;
  }

  -- a binding has begun
  pub agrees_binding : (slot : ℕ) (key : List ℕ) (own : TagParts) → Agrees p [] idle v → MayEnter slot key d → IsTag own → line_of books (buffer_of_tag own) ≡ line own.generation Free → IsBuffer books.pool (buffer_of_tag own) → IsLedger (with_out books own) → Agrees p [] (binding idle slot key own) v
  agrees_binding slot key own a may tag free within whole = record {
    pool = a.pool;
    task = (record { at = record { server = a.task.server; task_is = a.task.task_is }; directory = a.directory; enter = may; buffer = here; free = seen }, (λ e. absurd cc), refl);
    directory = a.directory;
    ranged = a.ranged;
    books = record {
      whole = whole;
      pool = a.books.pool;
      same = λ b i other. a.books.same b i tt ∙ ap seen_book (sym (book-with_line_other books (buffer_of_tag own) (line own.generation Out) a.books.whole.lines within (buffer_at b) (λ e. other.0 (same_home b e))));
      tags = (tag, tt);
      free = record { server = a.task.server; free = ((here, seen), tt); apart = (tt, tt) };
      out = (out, tt);
    };
    held = (tag, out);
    sweep = a.sweep;
  }
    where
      at_home : buffer_at (home (tag_number own)) ≡ buffer_of_tag own
      at_home = buffer_tag own tag

      here : inside p (home (tag_number own)) ≡ true
      here = inside_of p (home (tag_number own)) (subst (IsBuffer p) (sym at_home) (subst (λ (q : Pool). IsBuffer q (buffer_of_tag own)) a.books.pool within))

      seen : book_at v.server (home (tag_number own)) ≡ book (age (tag_number own)) ViewFree
      seen = a.books.same (home (tag_number own)) here tt ∙ ap (λ (b : Buffer). seen_book (line_of books b)) at_home ∙ ap seen_book free ∙ ap (λ (g : ℕ). book g ViewFree) (sym (age_tag own tag))

      out : line_of (with_out books own) (buffer_of_tag own) ≡ line own.generation Out
      out = book-with_line_same books (buffer_of_tag own) (line own.generation Out) a.books.whole.lines within

      same_home : (b : ℕ) → buffer_at b ≡ buffer_of_tag own → home (tag_number own) ≡ b
      same_home b e = let z = at_home ∙ sym e in buffer_same (home (tag_number own)) b (ap (λ (q : Buffer). q.node) z) (ap (λ (q : Buffer). q.index) z)

-- the sweep of a want is under way
pub agrees_sweeping : (p : Pool) (s : ServerState) (v : View) → Agrees p [] s v → Agrees p [] (sweeping s) v
agrees_sweeping p s v a = record { pool = a.pool; task = a.task; directory = a.directory; ranged = a.ranged; books = a.books; held = a.held; sweep = begun s.sweep a.sweep }
  where
    begun : (w : Option ℕ) → IsSweptBy v s.directory.list w → IsSweptBy v s.directory.list (Some (position w))
    begun None h = ((let z : 0 ≤ length s.directory.list = omega arith in z), λ i q l e. absurd (omega arith))
    begun (Some n) h = h

-- and leaves a slot behind that it has read unlinked
pub agrees_swept_on : (p : Pool) (s : ServerState) (v : View) (n : ℕ) (slot : ℕ) (key : List ℕ) → Agrees p [] s v → s.sweep ≡ Some n → slice_get s.directory.list n ≡ Some (slot, key) → Within slot v.server.unlinked → Agrees p [] (swept_on s) v
agrees_swept_on p s v n slot key a e here w = record { pool = a.pool; task = a.task; directory = a.directory; ranged = a.ranged; books = a.books; held = a.held; sweep = subst (λ (z : Option ℕ). IsSweptBy v s.directory.list (Some (after_turn (position z) WasUnlinked))) (sym e) on }
  where
    was : IsSweptBy v s.directory.list (Some n)
    was = subst (IsSweptBy v s.directory.list) e a.sweep

    last : (i : ℕ) (q : ℕ × List ℕ) → i ≡ n → slice_get s.directory.list i ≡ Some q → Within q.0 v.server.unlinked
    last i q f g = let z : ◌≡◌ {A = Option (ℕ × List ℕ)} (Some q) (Some (slot, key)) = sym g ∙ ap (slice_get s.directory.list) f ∙ here in subst (λ (x : Option (ℕ × List ℕ)). Within (slot_or x) v.server.unlinked) (sym z) w
      where
        slot_or : Option (ℕ × List ℕ) → ℕ
        slot_or None = 0
        slot_or (Some q) = q.0

    on : IsSweptBy v s.directory.list (Some (min (n + 1) (2 ^ 64 - 1)))
    on = ((let l = slice_get_within s.directory.list n (slot, key) here in omega arith), λ i q l g. ⊎_elim (λ (h : i < n). was.1 i q h g) (λ (h : i ≡ n). last i q h g) (split i n (let z : i < n + 1 = omega arith in z)))
      where
        split : (i n : ℕ) → i < n + 1 → (i < n) ⊎ (i ≡ n)
        split i n l = grind arith

-- a server whose sweep has left the last binding behind, and that has no free buffer, is full
pub is_full : (p : Pool) (s : ServerState) (v : View) (bound worn out : ℕ) → Agrees p [] s v → free_in s ≡ 0 → length s.directory.list ≤ position s.sweep → bound + worn + out ≡ total_of s.books → IsFull (ended s) v bound worn out
is_full p s v bound worn out a none past all = record { none = none; all = all; read = λ slot b. let r = place_of s.directory.list (slot, b.0) b.1 in by s.sweep r.0 (slot, b.0) r.1 past a.sweep }
  where
    by : (w : Option ℕ) (i : ℕ) (q : ℕ × List ℕ) → slice_get s.directory.list i ≡ Some q → length s.directory.list ≤ position w → IsSweptBy v s.directory.list w → Within q.0 v.server.unlinked
    by None i q e l h = absurd (let z = slice_get_within s.directory.list i q e in omega arith)
    by (Some n) i q e l h = h.1 i q (let z = slice_get_within s.directory.list i q e in omega arith) e

-- a recycling has begun of a server without a task
pub begun_recycling : (p : Pool) (s : ServerState) (v : View) (slot : ℕ) (root : TagParts) → Agrees p [] s v → s.task ≡ None → root_of s.directory slot ≡ Some root → IsBound slot s.directory → Agrees p [] (recycling s slot root) v
begun_recycling p s v slot root a e q b = agrees_recycling p s.setup s.books s.directory s.sweep v slot root (subst (λ (t : Option Unfinished). Agrees p [] (record s { task = t }) v) e a) q b

-- and a binding
pub begun_binding : (p : Pool) (s : ServerState) (v : View) (slot : ℕ) (key : List ℕ) (own : TagParts) → Agrees p [] s v → s.task ≡ None → MayEnter slot key s.directory → IsTag own → IsBalanced s.books own → IsBuffer s.books.pool (buffer_of_tag own) → IsLedger (with_out s.books own) → Agrees p [] (binding s slot key own) v
begun_binding p s v slot key own a e may tag due within whole = agrees_binding p s.setup s.books s.directory s.sweep v slot key own (subst (λ (t : Option Unfinished). Agrees p [] (record s { task = t }) v) e a) may tag due.free within whole

-- what is there
pub some_root : (o : Option TagParts) (P : TagParts → Type 0) → IsSome o → IfSome o P → (root : TagParts) × (o ≡ Some root) × P root
some_root None P h q = absurd (let z : false ≡ true = h in cc)
some_root (Some root) P h q = (root, refl, q)

-- what is not there
pub none_is : (t : Option Unfinished) → is_some t ≡ false → t ≡ None
none_is None h = refl
none_is (Some u) h = absurd (let z : true ≡ false = h in cc)

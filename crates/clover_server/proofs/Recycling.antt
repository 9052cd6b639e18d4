-- That the view and the server agree behind an access of a recycling, and where its end finds the buffers.
use Prim.Native.Nat.{suc}
use Rattle.std.proofs.Common.{◌≡◌, ◌≢◌, ℕ, ◌+◌, ◌/◌, ◌%◌, ◌<◌, ◌≤◌, List, [], ◌∷◌, ◌++◌, length, Bool, true, false, cond, eqb, refl, sym, ap, ◌∙◌, inr, ⊎_elim, subst, arith, eq-eqb, ne_eqb}
use native.Mathlib.Decide.{ℕ_discrete}
use mathlib.Core.Logic.{dite}
use Rattle.std.specs.Prelude.{nat_eq, if◌then◌else◌, Option, Some, None}
use Rattle.std.specs.Option.{option_map}
use Rattle.std.proofs.lemmas.List.{get_or-set_same, get_or-set_other, get_or_past}
use Rattle.std.proofs.lemmas.Bool.{cases_lt}
use Rattle.clover_words.specs.declared.pool.Pool.{Pool}
use Rattle.clover_words.specs.declared.setup.Setup.{Setup}
use Rattle.clover_words.specs.declared.word.Buffer.{Buffer}
use Rattle.clover_words.specs.Place.{IsBuffer}
use Rattle.clover_words.specs.Tag.{TagParts, IsTag, tag_number, home, age}
use Rattle.clover_words.proofs.Versions.{buffer_tag, age_tag}
use Rattle.clover_port.specs.Told.{Open, Made}
use Rattle.clover_rule.specs.Asks.{IsAt}
use Rattle.clover_rule.specs.Content.{InRange}
use Rattle.clover_rule.specs.Learned.{looked as showed, counted}
use Rattle.clover_rule.specs.Lists.{Within}
use Rattle.clover_rule.specs.Memory.{word}
use Rattle.clover_rule.specs.Server.{waiting_name}
use Rattle.clover_rule.specs.Steps.{ReadVersion, act_of}
use Rattle.clover_rule.specs.Told.{behind_root}
use Rattle.clover_rule.proofs.Ties.{buffer_in}
use Rattle.clover_rule.specs.Views.{book, find_book, find_root, root_at, free_or_worn}
use Rattle.clover_rule.specs.Words.{root_of as root_in_word}
use Rattle.clover_rule.specs.declared.view.BookLine.{BookLine}
use Rattle.clover_rule.specs.declared.view.BufferState.TheVariants.{Out as ViewOut, Bound as ViewBound, Worn as ViewWorn, Free as ViewFree}
use Rattle.clover_rule.specs.declared.view.Role.TheVariants.{Serving}
use Rattle.clover_rule.specs.declared.view.ServerTask.TheVariants.{Idle}
use Rattle.clover_rule.specs.declared.view.View.{View}
use Rattle.clover_alloc.specs.Calls.{next_line}
use Rattle.clover_alloc.specs.Ledger.{Ledger, IsLedger, HasLines, buffer_of_tag, with_line, book as line_of}
use Rattle.clover_alloc.specs.Lines.{line}
use Rattle.clover_alloc.specs.declared.line.Line.{Line}
use Rattle.clover_alloc.specs.declared.line.Place.{Place}
use Rattle.clover_alloc.specs.declared.line.Place.TheVariants.{Free, Worn, Bound, Out}
use Rattle.clover_alloc.proofs.LedgerLemmas.{HasLines-with_line, book-with_line_other}
use Rattle.clover_dir.specs.Directory.{Bindings, root_of, with_root}
use Rattle.clover_dir.specs.Holding.{IsDirectoryOf}
use Rattle.clover_recycle.specs.Recycling.{RecycleState, recycle_step, unfinished, staged}
use Rattle.clover_recycle.specs.declared.stage.Stage.{Stage}
use Rattle.clover_recycle.specs.declared.stage.Stage.TheVariants.{AtVersion, AtLink, AtRoot, AtFlushedRoot, AtPass, AtFree, Over}
use Rattle.clover_server.specs.Going.{books_bound, books_moved}
use Rattle.clover_server.specs.Holding.{Agrees, AreBooksOf, IsSweptBy, WorkHolds, seen_book}
use Rattle.clover_server.specs.Server.{ServerState}
use Rattle.clover_server.specs.declared.work.Unfinished.{Unfinished}
use Rattle.clover_server.specs.declared.work.Work.TheVariants.{Recycling}
use Rattle.clover_server.proofs.Lines.{SameBooks, same_with_line, tag_line}
use Rattle.clover_server.proofs.Binding.{books_of, ranged_of, swept_kept}

-- no binding waits beside a recycling
none_waits : (c : RecycleState) (at : Stage) → waiting_name (unfinished (staged c at)) ≡ []
none_waits c AtVersion = refl
none_waits c (AtLink t) = refl
none_waits c (AtRoot t) = refl
none_waits c (AtFlushedRoot t) = refl
none_waits c (AtPass t) = refl
none_waits c (AtFree t) = refl
none_waits c Over = refl

-- what an access of a recycling that is not its last one leaves of the server's view
pub record IsKept (v w : View) : Type 0 where
  pub role : w.pass.role ≡ v.pass.role
  pub books : w.server.books ≡ v.server.books
  pub directory : w.server.directory ≡ v.server.directory
  pub roots : w.server.roots ≡ v.server.roots
  pub unlinked : (slot : ℕ) → Within slot v.server.unlinked → Within slot w.server.unlinked

module _ (p : Pool) (setup : Setup) (books : Ledger) (d : Bindings) (sweep : Option ℕ) (left : Bool) (slot : ℕ) (c : RecycleState) where
  abbrev with_task : Option Unfinished → Ledger → Bindings → ServerState
  with_task task bs e = record { setup = setup; books = bs; directory = e; task = task; sweep = sweep }

  abbrev at_stage : Stage → ServerState
  at_stage at = with_task (Some (record { work = Recycling slot (staged c at); left = left })) books d

  module _ (v : View) (o : Option Open) (x : ℕ) (w : View) (o1 : Option Open) where
    abbrev Here : Stage → Type 0
    Here at = Made p (recycle_step (staged c at)) false v o x w o1

    -- the load
    read_kept : Here AtVersion → IsKept v w
    read_kept m = go (root_in_word (x % 8796093022208)) refl
      where
        after : Option ℕ → View
        after l = counted false (act_of (ReadVersion c.slot (tag_number c.root)) x) 0 (showed c.slot (tag_number c.root) v (word (x / 8796093022208) l))

        to : (l : Option ℕ) → IsKept v (after l)
        to None = record { role = refl; books = refl; directory = refl; roots = refl; unlinked = λ s h. inr h }
        to (Some t) = record { role = refl; books = refl; directory = refl; roots = refl; unlinked = λ s h. h }

        go : (l : Option ℕ) → root_in_word (x % 8796093022208) ≡ l → IsKept v w
        go l e = subst (IsKept v) (sym (m.told.next ∙ ap after e)) (to l)

    kept_by : (e : View) → w ≡ e → IsKept v e → IsKept v w
    kept_by e q k = subst (IsKept v) (sym q) k

    is_kept : (at : Stage) → Agrees p [] (at_stage at) v → ((t : TagParts) → at ≢ AtFree t) → Here at → IsKept v w
    is_kept AtVersion a is m = read_kept m
    is_kept (AtLink t) a is m = kept_by _ m.told.next (record { role = refl; books = refl; directory = refl; roots = refl; unlinked = λ s h. h })
    is_kept (AtRoot t) a is m = kept_by _ m.told.next (record { role = refl; books = refl; directory = refl; roots = refl; unlinked = λ s h. h })
    is_kept (AtFlushedRoot t) a is m = kept_by _ m.told.next (record { role = refl; books = refl; directory = refl; roots = refl; unlinked = λ s h. h })
    is_kept (AtPass t) a is m = kept_by _ m.told.next (record { role = refl; books = refl; directory = refl; roots = refl; unlinked = λ s h. h })
    is_kept (AtFree t) a is m = absurd (is t refl)
    is_kept Over a is m = absurd a.task.0.stands

    -- what agrees where the view is kept, and no binding waits
    agrees_kept : (at : Stage) (task : Option Unfinished) → Agrees p [] (at_stage at) v → IsKept v w → waiting_name w.server.task ≡ [] → w.pass.role ≡ Serving → IsDirectoryOf p d w × AreBooksOf p [] books w × IsSweptBy w d.list sweep
    agrees_kept at task a k q role = (
      record {
        pool = a.directory.pool;
        list = k.directory ∙ a.directory.list ∙ ap (λ (l : List (ℕ × List ℕ)). d.list ++ l) (ap waiting_name a.task.0.task.task_is ∙ none_waits c at ∙ sym q);
        roots = λ s. ap (λ (rs : List (ℕ × ℕ)). find_root rs s) k.roots ∙ a.directory.roots s;
      },
      books_of p books w a.books.whole a.books.pool role (λ b i. ap (λ (bs : List BookLine). find_book bs b) k.books ∙ a.books.same b i tt),
      swept_kept v w d.list sweep k.unlinked a.sweep,
    )

    -- the recycling goes on
    pub recycle_goes : (at : Stage) (n : RecycleState) → Agrees p [] (at_stage at) v → ((t : TagParts) → at ≢ AtFree t) → Here at → WorkHolds p d w (Recycling slot n) → Agrees p [] (with_task (Some (record { work = Recycling slot n; left = left })) books d) w
    recycle_goes at n a is m holds =
        let k = is_kept at a is m in
        let r = agrees_kept at None a k (ap waiting_name holds.0.task.task_is ∙ none_waits n n.stage) holds.0.task.server in
        record { pool = a.pool; task = holds; directory = r.0; ranged = a.ranged; books = r.1; held = tt; sweep = r.2 }

    -- it has ended without a link
    pub recycle_stays : (at : Stage) → Agrees p [] (at_stage at) v → ((t : TagParts) → at ≢ AtFree t) → Here at → IsAt w Idle → Agrees p [] (with_task None books d) w
    recycle_stays at a is m idle =
        let k = is_kept at a is m in
        let r = agrees_kept at None a k (ap waiting_name idle.task_is) idle.server in
        record { pool = a.pool; task = idle; directory = r.0; ranged = a.ranged; books = r.1; held = tt; sweep = r.2 }

    -- the last raise
    module _ (t : TagParts) (a : Agrees p [] (at_stage (AtFree t)) v) (m : Here (AtFree t)) (old_tag : IsTag c.root) (new_tag : IsTag t) where
      role : v.pass.role ≡ Serving
      role = a.task.0.task.server

      same : SameBooks p v.server.books books
      same b i = a.books.same b i tt

      root_now : root_at v.server slot ≡ Some (tag_number c.root)
      root_now = a.directory.roots slot ∙ ap (option_map tag_number) a.task.2

      -- the version behind the root is out, and the root version is bound
      next_out : InRange p (tag_number t) × (find_book v.server.books (home (tag_number t)) ≡ book (age (tag_number t)) ViewOut)
      next_out = (m.told.before.server role).behind (tag_number t) (ap behind_root a.task.0.task.task_is)

      pub next_line_out : line_of books (buffer_of_tag t) ≡ line t.generation Out
      next_line_out = tag_line p v.server.books books t Out same new_tag next_out.0.0 next_out.1

      root_line_bound : line_of books (buffer_of_tag c.root) ≡ line c.root.generation Bound
      root_line_bound = tag_line p v.server.books books c.root Bound same old_tag a.task.0.root.0 ((m.told.before.server role).bound slot (tag_number c.root) root_now)

      differ : buffer_of_tag c.root ≢ buffer_of_tag t
      differ e = absurd (let z : line c.root.generation Bound ≡ line t.generation Out = sym root_line_bound ∙ ap (line_of books) e ∙ next_line_out in let y : ◌≡◌ {A = Place} Bound Out = ap (λ (l : Line). l.place) z in cc)

      next_within : IsBuffer books.pool (buffer_of_tag t)
      next_within = subst (λ (q : Pool). IsBuffer q (buffer_of_tag t)) (sym a.books.pool) (subst (IsBuffer p) (buffer_tag t new_tag) (buffer_in p (home (tag_number t)) next_out.0.0))

      pub root_line_still : line_of (books_bound books t) (buffer_of_tag c.root) ≡ line c.root.generation Bound
      root_line_still = book-with_line_other books (buffer_of_tag t) (line t.generation Bound) a.books.whole.lines next_within (buffer_of_tag c.root) differ ∙ root_line_bound

      bound_lines : HasLines (books_bound books t)
      bound_lines = HasLines-with_line books (buffer_of_tag t) (line t.generation Bound) a.books.whole.lines next_within

      -- the new root version's line in both
      same_bound : SameBooks p (record { buffer = home (tag_number t); generation = age (tag_number t); state = ViewBound } ∷ v.server.books) (books_bound books t)
      same_bound = subst (λ (b : Buffer). SameBooks p (record { buffer = home (tag_number t); generation = age (tag_number t); state = ViewBound } ∷ v.server.books) (with_line books b (line t.generation Bound))) (buffer_tag t new_tag)
          (same_with_line p v.server.books books a.books.whole.lines a.books.pool (home (tag_number t)) next_out.0.0 (line t.generation Bound) (age (tag_number t)) ViewBound (ap (λ (g : ℕ). book g ViewBound) (sym (age_tag t new_tag))) same)

      -- and the old one's
      seen_next : (wear g : ℕ) → seen_book (next_line wear g) ≡ book (suc g) (free_or_worn wear (suc g))
      seen_next wear g = by (nat_eq (g + 1) wear) refl
        where
          suc_is : g + 1 ≡ suc g
          suc_is = omega arith

          by : (b : Bool) → nat_eq (g + 1) wear ≡ b → seen_book (line (g + 1) (if b then Worn else Free)) ≡ book (suc g) (free_or_worn wear (suc g))
          by true q = (λ i. book (suc_is i) ViewWorn) ∙ ap (λ (z : Bool). book (suc g) (cond z ViewWorn ViewFree)) (sym (ap (λ (n : ℕ). eqb n wear) (sym suc_is) ∙ q))
          by false q = (λ i. book (suc_is i) ViewFree) ∙ ap (λ (z : Bool). book (suc g) (cond z ViewWorn ViewFree)) (sym (ap (λ (n : ℕ). eqb n wear) (sym suc_is) ∙ q))

      wear_is : v.pass.pool.wear ≡ books.pool.wear
      wear_is = ap (λ (q : Pool). q.wear) (m.told.before.of_pool ∙ sym a.books.pool)

      abbrev lines_now : List BookLine
      lines_now = record { buffer = home (tag_number c.root); generation = suc (age (tag_number c.root)); state = free_or_worn v.pass.pool.wear (suc (age (tag_number c.root))) } ∷ record { buffer = home (tag_number t); generation = age (tag_number t); state = ViewBound } ∷ v.server.books

      same_moved : SameBooks p w.server.books (books_moved books c.root t)
      same_moved = subst (λ (bs : List BookLine). SameBooks p bs (books_moved books c.root t)) (sym (ap (λ (z : View). z.server.books) m.told.next))
          (subst (λ (b : Buffer). SameBooks p lines_now (with_line (books_bound books t) b (next_line books.pool.wear c.root.generation))) (buffer_tag c.root old_tag)
          (same_with_line p (record { buffer = home (tag_number t); generation = age (tag_number t); state = ViewBound } ∷ v.server.books) (books_bound books t) bound_lines a.books.pool (home (tag_number c.root)) a.task.0.root.0 (next_line books.pool.wear c.root.generation) (suc (age (tag_number c.root))) (free_or_worn v.pass.pool.wear (suc (age (tag_number c.root))))
          (seen_next books.pool.wear c.root.generation ∙ (λ i. book (suc (sym (age_tag c.root old_tag) i)) (free_or_worn (sym wear_is i) (suc (sym (age_tag c.root old_tag) i))))) same_bound))

      -- the root of the slot
      slot_there : slot < length d.roots
      slot_there = ⊎_elim (λ (l : slot < length d.roots). l) (λ (g : length d.roots ≤ slot). absurd (let z : ◌≡◌ {A = Option TagParts} None (Some c.root) = sym (get_or_past d.roots slot None g) ∙ a.task.2 in cc)) (cases_lt slot (length d.roots))

      roots_now : (s : ℕ) → cond (eqb c.slot s) (Some (tag_number t)) (root_at v.server s) ≡ option_map tag_number (root_of (with_root d slot t) s)
      roots_now s = dite (ℕ_discrete c.slot s)
          (λ e. ap (λ (b : Bool). cond b (Some (tag_number t)) (root_at v.server s)) (eq-eqb c.slot s e) ∙ ap (option_map tag_number) (sym (ap (λ (n : ℕ). root_of (with_root d slot t) n) (sym e ∙ a.task.1) ∙ get_or-set_same d.roots slot (Some t) None slot_there)))
          (λ n. ap (λ (b : Bool). cond b (Some (tag_number t)) (root_at v.server s)) (ne_eqb c.slot s n) ∙ a.directory.roots s ∙ ap (option_map tag_number) (sym (get_or-set_other d.roots slot s (Some t) None (λ e. n (a.task.1 ∙ sym e)))))

      pub recycle_ends : IsAt w Idle → IsLedger (books_moved books c.root t) → Agrees p [] (with_task None (books_moved books c.root t) (with_root d slot t)) w
      recycle_ends idle whole =
          let e = m.told.next in
          let dir : IsDirectoryOf p (with_root d slot t) w = record {
            pool = a.directory.pool;
            list = ap (λ (z : View). z.server.directory) e ∙ a.directory.list ∙ ap (λ (l : List (ℕ × List ℕ)). d.list ++ l) (ap waiting_name a.task.0.task.task_is ∙ sym (ap waiting_name idle.task_is));
            roots = λ s. ap (λ (z : View). root_at z.server s) e ∙ roots_now s;
          } in
          record {
            pool = a.pool;
            task = idle;
            directory = dir;
            ranged = ranged_of p (with_root d slot t) w _ m.told.after idle.server dir;
            books = books_of p (books_moved books c.root t) w whole a.books.pool idle.server same_moved;
            held = tt;
            sweep = swept_kept v w d.list sweep (λ s. subst (Within s) (sym (ap (λ (z : View). z.server.unlinked) e))) a.sweep;
          }

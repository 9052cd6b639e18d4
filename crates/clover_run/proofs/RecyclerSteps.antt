-- What the recycler's step comes to: it only waited, its sweep had nothing to read, or the server made an access for it.
use Rattle.std.proofs.Common.{◌≡◌, ◌≢◌, ℕ, ◌+◌, ◌<◌, ◌≤◌, List, length, Bool, true, false, refl, sym, ap, ◌∙◌, subst, arith}
use Rattle.std.specs.Prelude.{Option, Some, None, IfSome, IsSome}
use Rattle.clover_words.specs.declared.setup.Setup.{Setup}
use Rattle.clover_alloc.specs.Ledger.{Ledger, count_of}
use Rattle.clover_alloc.specs.declared.line.Place.TheVariants.{Free, Worn}
use Rattle.clover_rule.specs.Accesses.{CameBack}
use Rattle.clover_rule.specs.Lists.{IsPrefix}
use Rattle.clover_rule.specs.declared.access.Actor.{Actor}
use Rattle.clover_plain.specs.Plain.{Plain}
use Rattle.clover_server.specs.Looking.{given_back}
use Rattle.clover_server.specs.Server.{ServerState}
use Rattle.clover_server.specs.declared.turn.ServerTurn.{ServerTurn}
use Rattle.clover_server.specs.declared.work.Unfinished.{Unfinished}
use Rattle.clover_run.specs.Cleaning.{CleansOrEnds, IsCleaned, IsCleaning, clean_note, cleaned, reads, slot_due}
use Rattle.clover_run.specs.Client.{step_record}
use Rattle.clover_run.specs.Folds.{Doing, acted, ended_if, ends, granted, stepped}
use Rattle.clover_run.specs.Record.{Record}
use Rattle.clover_run.specs.Recycling.{IsOnBound, IsRecyclerAt, MayClean, MayRecycle, RecycledFor, WasCleaned, cleaning_left}
use Rattle.clover_run.specs.Run.{IsAccess, Opening, Standing}
use Rattle.clover_run.specs.Served.{is_elsewhere}
use Rattle.clover_run.specs.Serving.{telling}
use Rattle.clover_run.specs.declared.event.Note.{Note}
use Rattle.clover_run.specs.declared.event.Note.TheVariants.{Quiet, Swept, Waits}
use Rattle.clover_run.specs.declared.recycler.Chore.{Chore}
use Rattle.clover_run.specs.declared.recycler.Chore.TheVariants.{OfSlot, OfAll}
use Rattle.clover_run.specs.declared.recycler.Recycler.{Recycler}
use Rattle.clover_run.specs.declared.served.Served.{Served}
use Rattle.clover_run.proofs.Growing.{cleans_grows, grows_same}
use Rattle.clover_run.proofs.Placing.{moved_none}
use Rattle.clover_run.proofs.Recycled.{bound_grown, due_bound, given_more, left_less, note_is, read_few, refused_books}

-- an access that another slot or task is there for is no sweep's end
cleans_or : (chore : Chore) (slot : Option ℕ) (task : Option Unfinished) (v : Served) (r : Record) → (slot ≡ None → IsSome task) → IsCleaning chore v r → CleansOrEnds chore slot task v r
cleans_or chore None None v r some h = absurd (let z : false ≡ true = some refl in cc)
cleans_or chore None (Some u) v r some h = h
cleans_or chore (Some slot) None v r some h = h
cleans_or chore (Some slot) (Some u) v r some h = h

-- what may be recycled is bound, or a task is unfinished
some_task : (slot : Option ℕ) (s : ServerState) → MayRecycle slot s → slot ≡ None → IsSome s.task
some_task None s h e = h
some_task (Some slot) s h e = absurd (let z : Some slot ≡ None = e in cc)

-- the recycler's access may be made, unless nothing is due and no task is unfinished
pub may_recycle : (chore : Chore) (v : Served) → IsOnBound (Some chore) v → (slot_due chore v ≡ None → IsSome v.server.task) → MayRecycle (slot_due chore v) v.server
may_recycle (OfSlot slot) v bound some = bound
may_recycle OfAll v bound some = by (slot_due OfAll v) refl
  where
    by : (o : Option ℕ) → slot_due OfAll v ≡ o → MayRecycle o v.server
    by None e = some e
    by (Some slot) e = due_bound v slot e

-- no note of it is a grant
not_granted : (chore : Chore) (w : Served) (turn : ServerTurn) (d : Doing) → granted d w (clean_note chore w turn) ≡ d
not_granted chore w turn d = note_is (λ (n : Note). granted d w n ≡ d) refl refl refl (λ old. refl) (λ count. refl) chore w turn

-- a task's end, or the task as it was
pub quiet_or_ends : (chore : Chore) (w : Served) (turn : ServerTurn) → clean_note chore w turn ≢ Quiet → ends (clean_note chore w turn) ≡ true
quiet_or_ends chore w turn = note_is (λ (n : Note). n ≢ Quiet → ends n ≡ true) (λ h. absurd (h refl)) (λ h. refl) (λ h. refl) (λ old h. refl) (λ count h. refl) chore w turn

-- the same of the chore that the code has
abbrev pub with_chore : (o : Opening) (x : Recycler) (v : Served) (p : Plain) → MayClean o x v p → (chore : Chore) → x.chore ≡ Some chore → MayClean o x v p
with_chore o x v p may chore has = record { setup = may.setup; chore = chore; has = has; bound = may.bound; read = may.read; done = may.done; server = may.server }

module _ (o : Opening) (x : Recycler) (v : Served) (p : Plain) (may : MayClean o x v p) where
  of_chore : (P : Chore → Type 0) → P may.chore → IfSome x.chore P
  of_chore P h = subst (λ (c : Option Chore). IfSome c P) (sym may.has) h

  -- the step only waited
  pub clean_waits : is_elsewhere v.holder 0 ≡ true → WasCleaned o x x v v p p Waits
  clean_waits other = record {
    access = None;
    moved = moved_none p may.server.entered;
    others = λ j ne. refl;
    server = may.server;
    grows = grows_same v.server v.server refl;
    follows = λ st a words same at. (
      tt,
      of_chore (λ (c : Chore). IsCleaned c v (step_record st None None Waits v)) (record {
        entry = refl;
        waits = λ h. record { access = refl; note = refl; served = refl };
        cleans = λ h. absurd (let z : true ≡ false = sym other ∙ h in cc);
      }),
      at,
    );
    lessens = λ h. absurd (let z : true ≡ false = sym other ∙ h in cc);
  }

  -- the recycler's task has ended
  abbrev pub over : Bool → Recycler
  over b = record { chore = None; refusing = b }

  -- its sweep had nothing to read, and no task was unfinished
  pub clean_ends : is_elsewhere v.holder 0 ≡ false → slot_due may.chore v ≡ None → v.server.task ≡ None → WasCleaned o x (over x.refusing) v v p p (Swept v.done)
  clean_ends here none idle = record {
    access = None;
    moved = moved_none p may.server.entered;
    others = λ j ne. refl;
    server = may.server;
    grows = grows_same v.server v.server refl;
    follows = λ st a words same at. (
      tt,
      of_chore (λ (c : Chore). IsCleaned c v (step_record st None None (Swept v.done) v)) (record {
        entry = refl;
        waits = λ h. absurd (let z : true ≡ false = sym h ∙ here in cc);
        cleans = λ h. subst (λ (t : Option Unfinished). CleansOrEnds may.chore (slot_due may.chore v) t v (step_record st None None (Swept v.done) v)) (sym idle)
            (subst (λ (s : Option ℕ). CleansOrEnds may.chore s None v (step_record st None None (Swept v.done) v)) (sym none) (record { access = refl; note = refl; served = refl }));
      }),
      record { task = refl; refusing = at.refusing; bound = tt; read = at.read; done = at.done },
    );
    lessens = λ h. subst (λ (c : Option Chore). 0 < cleaning_left c v) (sym may.has) (omega arith);
  }

  -- the server made an access for it, of which no other actor held the server
  module _ (here : is_elsewhere v.holder 0 ≡ false) (due : MayRecycle (slot_due may.chore v) v.server) (b : Bool) (n : ServerState) (q : Plain) (turn : ServerTurn) (w : RecycledFor (slot_due may.chore v) x.refusing b v.server n p q turn) where
    abbrev chore : Chore
    chore = may.chore

    abbrev pub side : Served
    side = cleaned chore v n turn

    abbrev pub note : Note
    note = clean_note chore side turn

    pub cleaned_grows : IsPrefix v.server.directory.list n.directory.list
    cleaned_grows = cleans_grows v.server n turn (telling (Some w.access)) (slot_due chore v) w.cleans

    access_so : (st : Standing) → st.words ≡ p.words → IsRecyclerAt p v x st.does → IsAccess o.setup.pool st w.access
    access_so st words at = record {
      refused = w.is.refused ∙ at.refusing;
      blank = w.is.blank;
      replays = λ made. subst (λ (ws : List ℕ). CameBack o.setup.pool ws w.access.act) (sym words) (subst (λ (s : Setup). CameBack s.pool p.words w.access.act) may.setup (w.is.replays made));
    }

    cleaned_so : (st : Standing) → IsCleaned chore v (step_record st (Some w.access) None note side)
    cleaned_so st = record {
      entry = refl;
      waits = λ h. absurd (let z : true ≡ false = sym h ∙ here in cc);
      cleans = λ h. cleans_or chore (slot_due chore v) v.server.task v (step_record st (Some w.access) None note side) (some_task (slot_due chore v) v.server due)
          (record { turn = turn; server = n; cleans = w.cleans; note = refl; served = refl });
    }

    -- what the records say behind the access
    accessed_so : (st : Standing) → stepped st.does (step_record st (Some w.access) None note side) ≡ ended_if (ends note) (record st.does { refusing = false })
    accessed_so st = ap (ended_if (ends note)) (not_granted chore side turn (acted st.does w.access.actor w.access) ∙ ap (λ (a : Actor). acted st.does a w.access) w.is.actor)

    bound_so : (c : Chore) → IsOnBound (Some c) v → IsOnBound (Some c) side
    bound_so (OfSlot slot) h = bound_grown v.server n slot cleaned_grows h
    bound_so OfAll h = tt

    done_so : side.done ≤ q.made
    done_so = subst (λ (k : ℕ). side.done ≤ k) (sym w.moved.made)
        (given_more v.done p.made (given_back n) (given_back v.server) w.access.refused may.done w.gives
        (λ lost. ap (λ (l : Ledger). count_of Free l + count_of Worn l) (refused_books v.server n turn w.access lost (slot_due chore v) w.cleans)))

    pub read_so : v.read + reads chore turn ≤ length n.directory.list
    read_so = read_few v n w.access may.read cleaned_grows chore turn w.cleans

    step_so : (y : Recycler) → ((d : Doing) → IsRecyclerAt p v x d → IsRecyclerAt q side y (ended_if (ends note) (record d { refusing = false }))) → cleaning_left y.chore side < cleaning_left x.chore v → WasCleaned o x y v side p q note
    step_so y at less = record {
      access = Some w.access;
      moved = w.moved;
      others = λ j ne. w.others j (λ e. ne (e ∙ ap (λ (z : Setup). z.clients) may.setup));
      server = w.server;
      grows = cleaned_grows;
      follows = λ st a words same was. (
        access_so st words was,
        of_chore (λ (c : Chore). IsCleaned c v (step_record st (Some w.access) None note side)) (cleaned_so st),
        subst (IsRecyclerAt q side y) (sym (accessed_so st)) (at st.does was),
      );
      lessens = λ h. less;
    }

    -- its task goes on
    clean_more : note ≡ Quiet → WasCleaned o x (record x { refusing = b }) v side p q note
    clean_more quiet = step_so (record x { refusing = b })
        (λ d at. subst (λ (k : Note). IsRecyclerAt q side (record x { refusing = b }) (ended_if (ends k) (record d { refusing = false }))) (sym quiet) (record {
          task = at.task;
          refusing = w.refusing_is;
          bound = subst (λ (c : Option Chore). IsOnBound c side) (sym may.has) (bound_so chore (subst (λ (c : Option Chore). IsOnBound c v) may.has at.bound));
          read = read_so;
          done = done_so;
        }))
        (subst (λ (c : Option Chore). cleaning_left c side < cleaning_left c v) (sym may.has) (left_less v n w.access may.read cleaned_grows chore turn side w.cleans w.lessens quiet))

    -- its task has ended
    clean_over : note ≢ Quiet → WasCleaned o x (over b) v side p q note
    clean_over loud = step_so (over b)
        (λ d at. subst (λ (k : Bool). IsRecyclerAt q side (over b) (ended_if k (record d { refusing = false }))) (sym (quiet_or_ends chore side turn loud)) (record {
          task = refl;
          refusing = w.refusing_is;
          bound = tt;
          read = read_so;
          done = done_so;
        }))
        (subst (λ (c : Option Chore). 0 < cleaning_left c v) (sym may.has) (omega arith))

    -- the same, said of what the code has
    module _ (u : Served) (k : Note) (same : u ≡ side) (told : k ≡ clean_note chore u turn) where
      told_so : k ≡ note
      told_so = told ∙ ap (λ (z : Served). clean_note chore z turn) same

      as_made : (y : Recycler) → WasCleaned o x y v side p q note → WasCleaned o x y v u p q k
      as_made y h = subst (λ (z : Note). WasCleaned o x y v u p q z) (sym told_so) (subst (λ (z : Served). WasCleaned o x y v z p q note) (sym same) h)

      pub came_more : k ≡ Quiet → WasCleaned o x (record x { refusing = b }) v u p q k
      came_more quiet = as_made (record x { refusing = b }) (clean_more (sym told_so ∙ quiet))

      pub came_over : k ≢ Quiet → WasCleaned o x (over b) v u p q k
      came_over loud = as_made (over b) (clean_over (λ e. loud (told_so ∙ e)))

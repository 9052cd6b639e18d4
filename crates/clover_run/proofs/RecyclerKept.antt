-- Room that was made in a pool changes nothing of what is said of a recycler that may have its step, nor of a step that it had.
use Rattle.std.proofs.Common.{ℕ, ◌≤◌, sym, ◌∙◌, subst}
use Rattle.std.specs.Prelude.{None}
use Rattle.clover_plain.specs.Plain.{Kept, Plain}
use Rattle.clover_run.specs.Folds.{Doing}
use Rattle.clover_run.specs.Recycling.{IsRecyclerAt, MayClean, WasCleaned}
use Rattle.clover_run.specs.Run.{Opening}
use Rattle.clover_run.specs.declared.event.Note.{Note}
use Rattle.clover_run.specs.declared.recycler.Recycler.{Recycler}
use Rattle.clover_run.specs.declared.served.Served.{Served}
use Rattle.clover_run.proofs.ServedKept.{kept_view, moved_kept, server_kept}

module _ (p q : Plain) (k : Kept p q) where
  pub clean_kept : (o : Opening) (x : Recycler) (v : Served) → MayClean o x v p → MayClean o x v q
  clean_kept o x v m = record {
    setup = k.setup ∙ m.setup;
    chore = m.chore;
    has = m.has;
    bound = m.bound;
    read = m.read;
    done = subst (λ (n : ℕ). v.done ≤ n) (sym k.made) m.done;
    server = server_kept p q k v.server m.server;
  }

  recycler_kept : (v : Served) (x : Recycler) (d : Doing) → IsRecyclerAt p v x d → IsRecyclerAt q v x d
  recycler_kept v x d at = record { task = at.task; refusing = at.refusing; bound = at.bound; read = at.read; done = subst (λ (n : ℕ). v.done ≤ n) (sym k.made) at.done }

  -- a step that the recycler had it had before the room was made
  pub was_kept : (r : Plain) (o : Opening) (x y : Recycler) (v w : Served) (note : Note) → WasCleaned o x y v w q r note → WasCleaned o x y v w p r note
  was_kept r o x y v w note s = record {
    access = s.access;
    moved = moved_kept p q k r s.access None s.moved;
    others = λ j ne. s.others j ne ∙ kept_view p q k j;
    server = s.server;
    grows = s.grows;
    follows = λ st a words same at. s.follows st a (words ∙ sym k.words) same (recycler_kept v x st.does at);
    lessens = s.lessens;
  }

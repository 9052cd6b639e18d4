-- The machine behind a step of the recycler: the record is a step of its task, and the machine stands behind it.
use Rattle.std.proofs.Common.{◌≡◌, List, [], ◌∷◌, ◌++◌, refl, sym, ap, ◌∙◌, subst, inl}
use Rattle.std.specs.Prelude.{Option, Some, None, IfSome}
use Rattle.clover_words.specs.declared.pool.Pool.{Pool}
use Rattle.clover_script.specs.declared.line.Task.{Task}
use Rattle.clover_plain.specs.Plain.{Plain, Running}
use Rattle.clover_event.specs.declared.event.Event.TheVariants.{Step}
use Rattle.clover_run.specs.Cleaning.{IsCleaned}
use Rattle.clover_run.specs.Client.{step_record}
use Rattle.clover_run.specs.Folds.{stepped}
use Rattle.clover_run.specs.Machine.{Parts, IsAt, IsTold}
use Rattle.clover_run.specs.Record.{Record}
use Rattle.clover_run.specs.Recycling.{IsRecyclerAt, WasCleaned, chore_task, task_for}
use Rattle.clover_run.specs.Run.{Opening, Standing, Follows, IsStepOf, standing}
use Rattle.clover_run.specs.declared.event.Note.{Note}
use Rattle.clover_run.specs.declared.recycler.Chore.{Chore}
use Rattle.clover_run.specs.declared.recycler.Chore.TheVariants.{OfSlot, OfAll}
use Rattle.clover_run.specs.declared.recycler.Recycler.{Recycler}
use Rattle.clover_run.specs.declared.served.Served.{Served}
use Rattle.clover_run.proofs.BehindRecycler.{with_recycler, recycler_behind, recycler_told}
use Rattle.clover_run.proofs.CleaningTells.{cleaned_tells}
use Rattle.clover_run.proofs.Finding.{found_behind}
use Rattle.clover_run.proofs.Onward.{moved_pool}
use Rattle.clover_run.proofs.Pasts.{served_more}

-- a step of the chore is one of the task that it is of
step_of_chore : (p : Pool) (st : Standing) (r : Record) (chore : Chore) → IsCleaned chore st.served r → IsStepOf p st (Some (task_for chore)) r
step_of_chore p st r (OfSlot slot) h = h
step_of_chore p st r OfAll h = h

module _ (o : Opening) (m : Parts) (rs : List Record) (at : IsAt o m rs) (y : Recycler) (w : Served) (q : Plain) (note : Note) (chore : Chore) (has : m.recycler.chore ≡ Some chore) (had : WasCleaned o m.recycler y m.served w m.pool q note) (running : Running q) where
  abbrev st : Standing
  st = standing o 0 rs

  abbrev r : Record
  r = step_record st had.access None note w

  cleans : IsCleaned chore m.served r
  cleans = subst (λ (k : Option Chore). IfSome k (λ (c : Chore). IsCleaned c m.served r)) has (had.follows st refl (sym at.pool.words) (sym at.served) at.recycler).1

  recycler : IsRecyclerAt q w y (stepped st.does r)
  recycler = (had.follows st refl (sym at.pool.words) (sym at.served) at.recycler).2

  follows : Follows o rs r
  follows = record {
    accesses = (had.follows st refl (sym at.pool.words) (sym at.served) at.recycler).0;
    is = subst (λ (t : Option Task). IsStepOf o.setup.pool st t r) (sym (at.recycler.task ∙ ap chore_task has)) (step_of_chore o.setup.pool st r chore (subst (λ (v : Served). IsCleaned chore v r) at.served cleans));
  }

  pub cleaned_recycler : IsAt o (with_recycler m y w q) (rs ++ r ∷ [])
  cleaned_recycler =
      let tells = cleaned_tells chore m.served r cleans in
      let pool = moved_pool o m.pool q rs r at.pool had.moved in
      recycler_behind o m rs at (Step 0) refl had.access tells.servers note tells.none y w q had.moved had.others recycler follows had.server had.grows
      (found_behind o rs r q w.server at.found pool.setup running had.server pool.words (ap (λ (v : Served). v.server) (sym (served_more o.served rs r))))
      (inl running)

  pub cleaned_told : IsTold (with_recycler m y w q) r
  cleaned_told = let tells = cleaned_tells chore m.served r cleans in recycler_told o m rs at (Step 0) refl had.access tells.servers note tells.none y w q

-- The recycler's steps that do nothing: whether it has a task, by the records, and that one which waits leaves the machine where it stands.
use Rattle.std.proofs.Common.{◌≡◌, ◌≢◌, List, [], ◌∷◌, ◌++◌, true, false, refl, sym, ap, ◌∙◌, subst}
use Rattle.std.specs.Prelude.{Option, Some, None}
use Rattle.clover_script.specs.declared.line.Task.{Task}
use Rattle.clover_event.specs.declared.event.Event.TheVariants.{Step}
use Rattle.clover_run.specs.Cleaning.{IsCleaned}
use Rattle.clover_run.specs.Folds.{doing}
use Rattle.clover_run.specs.Machine.{Parts, IsAt}
use Rattle.clover_run.specs.Record.{Record}
use Rattle.clover_run.specs.Recycling.{chore_task}
use Rattle.clover_run.specs.Run.{Opening, Standing, IsStepOf, standing}
use Rattle.clover_run.specs.Served.{is_elsewhere}
use Rattle.clover_run.specs.declared.event.Note.TheVariants.{Waits}
use Rattle.clover_run.specs.declared.recycler.Chore.{Chore}
use Rattle.clover_run.specs.declared.recycler.Chore.TheVariants.{OfSlot, OfAll}
use Rattle.clover_run.specs.declared.served.Served.{Served}
use Rattle.clover_run.proofs.NoAccess.{silent, stayed, stays}

-- it has a chore where it has a task
pub chore_none : (c : Option Chore) → chore_task c ≡ None → c ≡ None
chore_none None e = refl
chore_none (Some chore) e = absurd cc

no_task : (c : Option Chore) → (c ≢ None → ⊥) → chore_task c ≡ None
no_task None idle = refl
no_task (Some chore) idle = absurd (idle (λ none. cc))

module _ (o : Opening) (m : Parts) (rs : List Record) (at : IsAt o m rs) where
  pub recycler_tasked : m.recycler.chore ≢ None → (doing 0 rs).task ≢ None
  recycler_tasked some none = some (chore_none m.recycler.chore (sym at.recycler.task ∙ none))

  pub recycler_untasked : (m.recycler.chore ≢ None → ⊥) → (doing 0 rs).task ≡ None
  recycler_untasked idle = at.recycler.task ∙ no_task m.recycler.chore idle

  -- another one holds the server
  module _ (away : is_elsewhere m.served.holder 0 ≡ true) where
    abbrev st : Standing
    st = standing o 0 rs

    abbrev r : Record
    r = stays o m rs at (Step 0) Waits

    waits_so : (chore : Chore) → IsCleaned chore st.served r
    waits_so chore = record {
      entry = refl;
      waits = λ e. record { access = refl; note = refl; served = at.served };
      cleans = λ e. absurd (let no : true ≡ false = sym away ∙ ap (λ (v : Served). is_elsewhere v.holder 0) at.served ∙ e in cc);
    }

    waits_on : (c : Option Chore) → c ≢ None → IsStepOf o.setup.pool st (chore_task c) r
    waits_on None some = absurd (some refl)
    waits_on (Some (OfSlot slot)) some = waits_so (OfSlot slot)
    waits_on (Some OfAll) some = waits_so OfAll

    pub recycler_waited : m.recycler.chore ≢ None → IsAt o m (rs ++ stays o m rs at (Step 0) Waits ∷ [])
    recycler_waited some = stayed o m rs at (Step 0) Waits tt (record {
      accesses = tt;
      is = subst (λ (t : Option Task). IsStepOf o.setup.pool st t r) (sym at.recycler.task) (waits_on m.recycler.chore some);
    }) (λ d. refl) (silent o m rs at (Step 0) Waits m.clients (λ c s. s))

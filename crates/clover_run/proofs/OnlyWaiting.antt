-- The machine stands behind a step that only waits, and behind one of an actor without a task; and whether an actor has one, by the records.
use Prim.Native.Nat.{zero, suc}
use Rattle.std.proofs.Common.{◌≡◌, ◌≢◌, ℕ, List, [], ◌∷◌, ◌++◌, true, false, refl, sym, ap, ◌∙◌, subst, arith}
use Rattle.std.specs.Prelude.{Option, Some, None}
use Rattle.clover_words.specs.declared.pool.Pool.{Pool}
use Rattle.clover_map.specs.History.{key_of}
use Rattle.clover_map.specs.declared.call.Call.{Call}
use Rattle.clover_script.specs.declared.line.Task.{Task}
use Rattle.clover_rule.specs.Lists.{nth}
use Rattle.clover_rule.specs.declared.access.Access.{Access}
use Rattle.clover_rule.proofs.Tools.{nth_past}
use Rattle.clover_plain.specs.Plain.{view_at}
use Rattle.clover_event.specs.declared.event.Event.TheVariants.{Step}
use Rattle.clover_run.specs.Client.{Phase, Rests, Wants, Calls, Ends, IsDoing, IsIn, call_at}
use Rattle.clover_run.specs.Folds.{doing}
use Rattle.clover_run.specs.Machine.{Parts, IsAt, IsBusy, IsTasked, IsTold, Happens, OnlyWaits, WaitsFor}
use Rattle.clover_run.specs.Record.{Record}
use Rattle.clover_run.specs.Run.{Opening, Standing, IsStepFor, IsStepOf, standing, want_in}
use Rattle.clover_run.specs.Served.{is_elsewhere}
use Rattle.clover_run.specs.Serving.{IsServed}
use Rattle.clover_run.specs.Wanting.{slot_for, wants}
use Rattle.clover_run.specs.declared.client.ClientState.{ClientState}
use Rattle.clover_run.specs.declared.event.Note.TheVariants.{Quiet, Waits}
use Rattle.clover_run.specs.declared.served.Served.{Served}
use Rattle.clover_run.specs.declared.want.Want.{Want}
use Rattle.clover_run.specs.declared.want.Want.TheVariants.{Nothing, Stock, Names}
use Rattle.clover_run.proofs.NoAccess.{idled, silent, stayed, stays, task_none, task_some}
use Rattle.clover_run.proofs.RecyclerStays.{recycler_tasked, recycler_untasked, recycler_waited}

-- a step that serves whatever is wanted serves this
for_want : (p : Pool) (st : Standing) (call : Call) (r : Record) (w : Want) → w ≢ Nothing → ((u : Want) → IsServed st.actor st.does u call st.served r) → IsStepFor p st call w r
for_want p st call r Nothing some s = absurd (some refl)
for_want p st call r Stock some s = s Stock
for_want p st call r Names some s = s Names

-- a client that wants something is in the phase of those
wants_phase : (f : Phase) (x : ClientState) → IsIn f x → x.want ≢ Nothing → f ≡ Wants
wants_phase Rests x is some = absurd (some is.1)
wants_phase Wants x is some = refl
wants_phase Calls x is some = absurd (some is.2)
wants_phase Ends x is some = absurd (some is.1)

module _ (o : Opening) (m : Parts) (rs : List Record) (at : IsAt o m rs) where
  -- a client that wants something, of a server that another one holds
  module _ (i : ℕ) (x : ClientState) (here : nth m.clients i ≡ Some x) (some : x.want ≢ Nothing) (away : is_elsewhere m.served.holder (suc i) ≡ true) where
    abbrev st : Standing
    st = standing o (suc i) rs

    abbrev r : Record
    r = stays o m rs at (Step (suc i)) Waits

    does : IsDoing Wants x (view_at m.pool i) (doing (suc i) rs)
    does = let was = at.each i x here in subst (λ (f : Phase). IsDoing f x (view_at m.pool i) (doing (suc i) rs)) (wants_phase was.phase x was.stands.phase some) was.matches.doing

    abbrev call : Call
    call = call_at x (view_at m.pool i)

    wants_it : want_in st call ≡ x.want
    wants_it = ap (λ (ns : List (ℕ × List ℕ)). wants call (slot_for (key_of call) ns) st.does.stock st.does.since) (at.each i x here).names ∙ does.2

    waits_so : (u : Want) → IsServed st.actor st.does u call st.served r
    waits_so u = record {
      entry = refl;
      waits = λ e. record { access = refl; note = refl; served = at.served };
      serves = λ e. absurd (let no : true ≡ false = sym away ∙ ap (λ (v : Served). is_elsewhere v.holder (suc i)) at.served ∙ e in cc);
    }

    pub waited : IsAt o m (rs ++ stays o m rs at (Step (suc i)) Waits ∷ [])
    waited = stayed o m rs at (Step (suc i)) Waits tt (record {
      accesses = tt;
      is = subst (λ (t : Option Task). IsStepOf o.setup.pool st t r) (sym does.0.1) (for_want o.setup.pool st call r (want_in st call) (λ none. some (sym wants_it ∙ none)) waits_so);
    }) (λ d. refl) (silent o m rs at (Step (suc i)) Waits m.clients (λ c s. s))

  -- whether the actor has a task, by the records
  tasked : (i : ℕ) (z : Option ClientState) → nth m.clients i ≡ z → IsTasked z → (doing (suc i) rs).task ≢ None
  tasked i None e busy none = busy
  tasked i (Some x) e busy none = let was = at.each i x e in let t = task_some o m.pool i x was.phase (view_at m.pool i) (doing (suc i) rs) busy was.stands was.matches in let no : Some t.0 ≡ None = sym t.1 ∙ none in cc

  pub busy_task : (a : ℕ) → IsBusy m a → (doing a rs).task ≢ None
  busy_task zero busy = recycler_tasked o m rs at busy
  busy_task (suc i) busy = tasked i (nth m.clients i) refl busy

  untasked : (i : ℕ) (z : Option ClientState) → nth m.clients i ≡ z → (IsTasked z → ⊥) → (doing (suc i) rs).task ≡ None
  untasked i None e idle = at.far (suc i) (let l = nth_past m.clients i e in let n = at.clients in omega arith)
  untasked i (Some x) e idle = let was = at.each i x e in task_none o m.pool i x was.phase (view_at m.pool i) (doing (suc i) rs) idle was.stands was.matches

  pub idle_none : (a : ℕ) → (IsBusy m a → ⊥) → (doing a rs).task ≡ None
  idle_none zero idle = recycler_untasked o m rs at idle
  idle_none (suc i) idle = untasked i (nth m.clients i) refl idle

no_access : (x : Access) → None ≡ Some x → ⊥
no_access x e = cc

-- a step of an actor without a task happens, and the machine stays
pub idle_happens : (m : Parts) (a : ℕ) → (IsBusy m a → ⊥) → Happens m m (Step a) Quiet
idle_happens m a idle o rs at = (_, refl, refl, idled o m rs at a (idle_none o m rs at a idle), λ z j q. absurd (no_access z q))

-- and so does one that only waits
pub waits_happens : (m : Parts) (a : ℕ) → OnlyWaits m a → Happens m m (Step a) Waits
waits_happens m zero w o rs at = (stays o m rs at (Step 0) Waits, refl, refl, recycler_waited o m rs at w.1 w.0, λ z j q. absurd (no_access z q))
waits_happens m (suc i) w o rs at = by (nth m.clients i) refl w
  where
    by : (z : Option ClientState) → nth m.clients i ≡ z → WaitsFor m.served (suc i) z → (r : Record) × (r.event ≡ Step (suc i)) × (r.note ≡ Waits) × IsAt o m (rs ++ r ∷ []) × IsTold m r
    by None e w = absurd w
    by (Some x) e w = (stays o m rs at (Step (suc i)) Waits, refl, refl, waited o m rs at i x e w.0 w.1, λ z j q. absurd (no_access z q))

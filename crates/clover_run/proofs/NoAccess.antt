-- The machine stands behind one record more that has no access: a begin that is turned away, a refuse, or a step of an actor without a task.
use Rattle.std.proofs.Common.{◌≡◌, ◌≢◌, ℕ, ◌≤◌, ◌<◌, suc, set, List, [], ◌∷◌, ◌++◌, Bool, true, false, refl, sym, ap, ◌∙◌, subst, arith, append-nil, ltb, inl, inr}
use Rattle.std.specs.Prelude.{Option, Some, None, if◌then◌else◌}
use Rattle.std.proofs.lemmas.Bool.{lt-ltb, le-ltb}
use Rattle.std.proofs.lemmas.List.{length-set}
use native.Mathlib.Decide.{ℕ_discrete}
use mathlib.Core.Logic.{dite}
use Rattle.clover_map.specs.Legal.{Legal}
use Rattle.clover_map.specs.declared.call.Call.{Call}
use Rattle.clover_map.specs.declared.call.Entry.{Entry}
use Rattle.clover_script.specs.declared.line.Task.{Task}
use Rattle.clover_script.specs.declared.line.Task.TheVariants.{Client as ClientTask}
use Rattle.clover_rule.specs.Lists.{nth, Within}
use Rattle.clover_rule.specs.declared.view.View.{View}
use Rattle.clover_plain.specs.Plain.{Plain, view_at, history}
use Rattle.clover_call.specs.Caller.{HasCommitted}
use Rattle.clover_call.specs.declared.under.Underway.TheVariants.{Nothing as NoCall}
use Rattle.clover_event.specs.Alone.{HasChain}
use Rattle.clover_event.specs.Folds.{actor_of}
use Rattle.clover_event.specs.declared.event.Event.{Event}
use Rattle.clover_event.specs.declared.event.Event.TheVariants.{Begin, Step, Refuse}
use Rattle.clover_run.specs.Alone.{Starts, IsOwnStep, AllFound}
use Rattle.clover_run.specs.Client.{LacksNames, Phase, Rests, Wants, Calls, Ends, HasTask, Stands, Matches, Moved, GoesSoFar, Remembers, call_at}
use Rattle.clover_run.specs.Ends.{ended}
use Rattle.clover_run.specs.Folds.{Doing, entries_in, served_after, doing, does, names_of}
use Rattle.clover_run.specs.Machine.{Parts, IsAt, IsPoolAt, IsClientAt}
use Rattle.clover_run.specs.Record.{Record}
use Rattle.clover_run.specs.Recycling.{IsRecyclerAt}
use Rattle.clover_run.specs.Run.{Opening, Standing, Follows, IsStepOf, standing, begin_note}
use Rattle.clover_run.specs.SoFar.{AloneSoFar}
use Rattle.clover_run.specs.Told.{AllTold}
use Rattle.clover_run.specs.declared.client.ClientState.{ClientState}
use Rattle.clover_run.specs.declared.event.Note.{Note}
use Rattle.clover_run.specs.declared.event.Note.TheVariants.{Quiet, Busy, Missing}
use Rattle.clover_run.specs.declared.served.Served.{Served}
use Rattle.clover_run.proofs.Pasts.{entries_more, words_more, served_more, ended_more, ended_still, doing_own, doing_other}
use Rattle.clover_run.proofs.Alone.{alone_aside}
use Rattle.clover_run.proofs.CleaningTells.{AnswersNone}
use Rattle.clover_run.proofs.Finding.{found_more}
use Rattle.clover_run.proofs.Onward.{pushed, goes_as, goes_same, other_client, own_client, standing_behind, each_set, with_client, moved_pool}
use Rattle.clover_run.proofs.Lacking.{refusing_lacks}
use Rattle.clover_run.proofs.Refusing.{refusing, refusing_stands, refusing_matches, refusing_goes}
use Rattle.clover_run.proofs.Telling.{told_unanswered}

-- no access and no entry, and the server's side as it is
abbrev pub still : Served → Event → Note → Record
still v e note = record { event = e; access = None; note = note; entry = None; served = v }

-- the pool behind no access and no entry
pub still_moved : (p : Plain) → p.entries ≡ history p → Moved None None p p
still_moved p entered = record {
  words = refl;
  seats = refl;
  entries = sym (append-nil p.entries);
  entered = entered;
  accesses = same p.traced;
  made = refl;
  whole = refl;
  setup = refl;
  start = refl;
  first = refl;
  used = refl;
  traced = refl;
  opened = refl;
  knows = λ t k. k;
}
  where
    same : (b : Bool) → p.accesses ≡ (if b then p.accesses ++ [] else p.accesses)
    same true = sym (append-nil p.accesses)
    same false = refl

-- a client without a task rests
pub rests_of : (o : Opening) (p : Plain) (i : ℕ) (x : ClientState) (f : Phase) → (HasTask x → ⊥) → Stands o p i x f → f ≡ Rests
rests_of o p i x Rests not s = refl
rests_of o p i x Wants not s = absurd (not (inl (λ none. let c = s.phase.2 in let e : Some c.0 ≡ None = sym c.1 ∙ none in cc)))
rests_of o p i x Calls not s = absurd (not (inr s.phase.0))
rests_of o p i x Ends not s = absurd (not (inr (λ idle. let none : HasCommitted NoCall = subst HasCommitted idle.calls s.phase.0 in none)))

-- and one that rests has none by the records
pub task_none : (o : Opening) (p : Plain) (i : ℕ) (x : ClientState) (f : Phase) (v : View) (d : Doing) → (HasTask x → ⊥) → Stands o p i x f → Matches x v f d → d.task ≡ None
task_none o p i x f v d not s h = (subst (λ (g : Phase). Matches x v g d) (rests_of o p i x f not s) h).doing

-- a client with a task has one by the records
pub task_some : (o : Opening) (p : Plain) (i : ℕ) (x : ClientState) (f : Phase) (v : View) (d : Doing) → HasTask x → Stands o p i x f → Matches x v f d → (t : Task) × (d.task ≡ Some t)
task_some o p i x Rests v d (inl some) s h = absurd (some s.phase.2)
task_some o p i x Rests v d (inr busy) s h = absurd (busy s.phase.0)
task_some o p i x Wants v d has s h = let t = h.doing.0 in (ClientTask _ t.0, t.1)
task_some o p i x Calls v d has s h = let t = h.doing.0 in (ClientTask _ t.0, t.1)
task_some o p i x Ends v d has s h = let t = h.doing.0 in (ClientTask _ t.0, t.1)

module _ (o : Opening) (m : Parts) (rs : List Record) (at : IsAt o m rs) where
  -- the record of an event that leaves the server's side
  abbrev pub stays : Event → Note → Record
  stays e note = still m.served e note

  pub still_pool : (e : Event) (note : Note) → IsPoolAt o m.pool (rs ++ stays e note ∷ [])
  still_pool e note = moved_pool o m.pool m.pool rs (stays e note) at.pool (still_moved m.pool at.pool.entered)

  still_legal : (e : Event) (note : Note) → Legal o.first o.used (entries_in (rs ++ stays e note ∷ []))
  still_legal e note = subst (λ (l : List Entry). Legal o.first o.used l) (sym (entries_more rs (stays e note) ∙ append-nil (entries_in rs))) at.legal

  -- no slot's chain changes
  still_found : (e : Event) (note : Note) → AllFound o (rs ++ stays e note ∷ [])
  still_found e note = found_more o rs (stays e note) at.found (λ slot key named.
      subst (λ (ws : List ℕ). HasChain o.setup.pool ws slot) (sym (words_more o.setup.pool o.words rs (stays e note)))
      (at.found rs [] slot key (sym (append-nil rs)) (subst (λ (v : Served). Within (slot, key) v.server.directory.list) (served_more o.served rs (stays e note) ∙ at.served) named)))

  -- and nothing is told
  still_told : (e : Event) (note : Note) → AnswersNone note → AllTold m.pool (rs ++ stays e note ∷ [])
  still_told e note none = told_unanswered m.pool m.pool rs (stays e note) at.told (λ t k. k) none

  -- no call ends
  pub ends_none : (c : ℕ) (e : Event) (note : Note) → ended c (rs ++ stays e note ∷ []) ≡ ended c rs
  ends_none c e note = ended_more c rs (stays e note) ∙ ended_still c (doing c rs).task note (ended c rs)

  -- no step is of a call that runs alone
  pub no_step : (e : Event) (note : Note) (c : ℕ) → IsOwnStep c (stays e note) → ⊥
  no_step e note c s = let q : None ≡ Some s.access = s.is in absurd cc

  -- a client of which the record is not
  other_still : (e : Event) (note : Note) (i : ℕ) (x : ClientState) → nth m.clients i ≡ Some x → actor_of e ≢ suc i → IsClientAt o m.pool i x (rs ++ stays e note ∷ [])
  other_still e note i x here apart = other_client o m.pool m.pool i x rs (stays e note) (at.each i x here) apart (λ f s. s) refl (ends_none (suc i) e note)
      ([], ap (λ (v : Served). v.server.directory.list) at.served ∙ sym (append-nil (served_after o.served rs).server.directory.list))

  -- what a step of it finds, where the client has what it had
  goes_still : (e : Event) (note : Note) (i : ℕ) (x : ClientState) → nth m.clients i ≡ Some x → (d : Doing) → d ≡ doing (suc i) rs → names_of m.served d ≡ (standing o (suc i) rs).names
  goes_still e note i x here d same = λ j. names_of (at.served j) (same j)

  others_recycler : (e : Event) (note : Note) → actor_of e ≢ 0 → IsRecyclerAt m.pool m.served m.recycler (doing 0 (rs ++ stays e note ∷ []))
  others_recycler e note apart = subst (IsRecyclerAt m.pool m.served m.recycler) (sym (doing_other 0 rs (stays e note) apart)) at.recycler

  -- nothing is another
  pub stayed : (e : Event) (note : Note) → AnswersNone note → Follows o rs (stays e note) → ((d : Doing) → does d (stays e note) e ≡ d) → AloneSoFar o m.pool.words m.clients (rs ++ stays e note ∷ []) → IsAt o m (rs ++ stays e note ∷ [])
  stayed e note none follows same alone = pushed o m m rs (stays e note) at follows refl (still_pool e note) refl at.server kept refl each (λ d above h. ap (λ (z : Doing). z.task) (same d) ∙ h) (still_legal e note) (still_found e note) (inr (refl, refl)) alone (still_told e note none)
    where
      kept : IsRecyclerAt m.pool m.served m.recycler (doing 0 (rs ++ stays e note ∷ []))
      kept = subst (IsRecyclerAt m.pool m.served m.recycler)
          (sym (dite (ℕ_discrete (actor_of e) 0) (λ h. doing_own 0 rs (stays e note) h ∙ same (doing 0 rs)) (λ h. doing_other 0 rs (stays e note) h))) at.recycler

      each : (i : ℕ) (x : ClientState) → nth m.clients i ≡ Some x → IsClientAt o m.pool i x (rs ++ stays e note ∷ [])
      each i x here =
          let was = at.each i x here in
          let d = same (doing (suc i) rs) in
          let names = goes_still e note i x here (does (doing (suc i) rs) (stays e note) e) d in
          dite (ℕ_discrete (actor_of e) (suc i))
          (λ (h : actor_of e ≡ suc i). own_client o m.pool i x was.phase rs (stays e note) h was.stands (subst (λ (z : Doing). Matches x (view_at m.pool i) was.phase z) (sym d) was.matches) (names ∙ was.names)
          (subst (Remembers x.node.names x.node.caller.cursors) (sym (ends_none (suc i) e note)) was.cursors)
          (λ busy. goes_same o.setup.pool (standing o (suc i) rs) (standing_behind o (suc i) rs (stays e note)) x (call_at x (view_at m.pool i)) names d (ends_none (suc i) e note) (was.goes busy))
          was.lacks)
          (λ h. other_still e note i x here h)

  -- the seat of a client that there is
  pub seated : (i : ℕ) (x : ClientState) → nth m.clients i ≡ Some x → suc i ≤ o.setup.clients
  seated i x here = (at.each i x here).stands.seat

  absent : (i : ℕ) (x : ClientState) → nth m.clients i ≡ Some x → o.setup.clients < suc i → ⊥
  absent i x here above = let l = seated i x here in omega arith

  -- one client is another, and the record has no access and no entry
  pub changed : (i : ℕ) (x y : ClientState) (f : Phase) (e : Event) (note : Note) → nth m.clients i ≡ Some x → actor_of e ≡ suc i → AnswersNone note → Follows o rs (stays e note) → Stands o m.pool i y f → Matches y (view_at m.pool i) f (does (doing (suc i) rs) (stays e note) e)
      → names_of m.served (does (doing (suc i) rs) (stays e note) e) ≡ y.node.names → Remembers y.node.names y.node.caller.cursors (ended (suc i) rs) → (y.node.caller.under ≢ NoCall → GoesSoFar o.setup.pool (standing_behind o (suc i) rs (stays e note)) y (call_at y (view_at m.pool i))) → LacksNames y (view_at m.pool i)
      → AloneSoFar o m.pool.words (set m.clients i y) (rs ++ stays e note ∷ []) → IsAt o (with_client m i y) (rs ++ stays e note ∷ [])
  changed i x y f e note here actor none follows stands matches names cursors goes lacks alone = pushed o m (with_client m i y) rs (stays e note) at follows refl (still_pool e note) refl at.server (others_recycler e note (λ (h : actor_of e ≡ 0). omega (arith, h, actor))) (length-set m.clients i y)
      (each_set (λ (j : ℕ) (z : ClientState). IsClientAt o m.pool j z (rs ++ stays e note ∷ [])) m.clients i y
      (own_client o m.pool i y f rs (stays e note) actor stands matches names (subst (Remembers y.node.names y.node.caller.cursors) (sym (ends_none (suc i) e note)) cursors) goes lacks)
      (λ j z apart there. other_still e note j z there (λ (s : actor_of e ≡ suc j). apart (omega (arith, s, actor)))))
      (λ d above h. absurd (absent i x here (subst (λ (b : ℕ). o.setup.clients < b) actor above)))
      (still_legal e note) (still_found e note) (inr (refl, refl)) alone (still_told e note none)

  if_true : (b : Bool) (x y : Note) → b ≡ true → (if b then x else y) ≡ x
  if_true true x y e = refl
  if_true false x y e = absurd cc

  if_false : (b : Bool) (y z : Note) → b ≡ false → (if b then y else z) ≡ z
  if_false true y z e = absurd cc
  if_false false y z e = refl

  -- an actor that there is not
  begin_missing : (a : ℕ) (call : Call) (written : ℕ) → o.setup.clients < a → Missing a ≡ begin_note o.setup (served_after o.served rs) (doing a rs) a (ClientTask call written)
  begin_missing a call written above = sym (if_true _ _ _ (lt-ltb o.setup.clients a above))

  -- an actor whose task is not over
  busy_note : (i : ℕ) (x : ClientState) → nth m.clients i ≡ Some x → (d : Doing) (s : Task) (call : Call) (written : ℕ) → d.task ≡ Some s → begin_note o.setup (served_after o.served rs) d (suc i) (ClientTask call written) ≡ Busy (suc i)
  busy_note i x here d s call written e =
      ap (λ (z : Option Task). begin_note o.setup (served_after o.served rs) (record d { task = z }) (suc i) (ClientTask call written)) e
      ∙ if_false (ltb o.setup.clients (suc i)) (Missing (suc i)) (Busy (suc i)) (le-ltb o.setup.clients (suc i) (seated i x here))

  -- it starts no call
  pub silent : (e : Event) (note : Note) (clients : List ClientState) → ((c : ℕ) → Starts c e note → ⊥) → AloneSoFar o m.pool.words clients (rs ++ stays e note ∷ [])
  silent e note clients none = alone_aside o rs (stays e note) m.pool.words m.pool.words m.clients clients at.alone (λ c call written s t f. none c s) (no_step e note)

  pub begun_missing : (a : ℕ) (call : Call) (written : ℕ) → o.setup.clients < a → IsAt o m (rs ++ stays (Begin a (ClientTask call written)) (Missing a) ∷ [])
  begun_missing a call written above = stayed (Begin a (ClientTask call written)) (Missing a) tt (record { access = refl; entry = refl; note_is = begin_missing a call written above; served = at.served }) (λ d. refl) (silent (Begin a (ClientTask call written)) (Missing a) m.clients (λ c s. s))

  pub begun_busy : (i : ℕ) (x : ClientState) (call : Call) (written : ℕ) → nth m.clients i ≡ Some x → HasTask x → IsAt o m (rs ++ stays (Begin (suc i) (ClientTask call written)) (Busy (suc i)) ∷ [])
  begun_busy i x call written here busy = stayed (Begin (suc i) (ClientTask call written)) (Busy (suc i)) tt (record { access = refl; entry = refl; note_is = told; served = at.served }) (λ d. refl) (silent (Begin (suc i) (ClientTask call written)) (Busy (suc i)) m.clients (λ c s. s))
    where
      told : Busy (suc i) ≡ begin_note o.setup (served_after o.served rs) (doing (suc i) rs) (suc i) (ClientTask call written)
      told = let was = at.each i x here in let s = task_some o m.pool i x was.phase (view_at m.pool i) (doing (suc i) rs) busy was.stands was.matches in sym (busy_note i x here (doing (suc i) rs) s.0 call written s.1)

  -- an actor with no task steps
  pub idled : (a : ℕ) → (doing a rs).task ≡ None → IsAt o m (rs ++ stays (Step a) Quiet ∷ [])
  idled a none = stayed (Step a) Quiet tt (record {
    accesses = tt;
    is = subst (λ (t : Option Task). IsStepOf o.setup.pool (standing o a rs) t (stays (Step a) Quiet)) (sym none) (record { access = refl; entry = refl; note_is = refl; served = at.served });
  }) (λ d. refl) (silent (Step a) Quiet m.clients (λ c s. s))

  -- the next access of an actor is to be refused
  pub refused_far : (a : ℕ) → o.setup.clients < a → IsAt o m (rs ++ stays (Refuse a) Quiet ∷ [])
  refused_far a above = pushed o m m rs (stays (Refuse a) Quiet) at (record { access = refl; entry = refl; note_is = refl; served = at.served }) refl (still_pool (Refuse a) Quiet) refl at.server (others_recycler (Refuse a) Quiet (λ (h : a ≡ 0). omega (arith, h, above))) refl
      (λ i x here. other_still (Refuse a) Quiet i x here (λ (e : a ≡ suc i). absent i x here (subst (λ (b : ℕ). o.setup.clients < b) e above)))
      (λ d over h. h) (still_legal (Refuse a) Quiet) (still_found (Refuse a) Quiet) (inr (refl, refl)) (silent (Refuse a) Quiet m.clients (λ c s. s)) (still_told (Refuse a) Quiet tt)

  pub refused_client : (i : ℕ) (x : ClientState) → nth m.clients i ≡ Some x → IsAt o (with_client m i (refusing x)) (rs ++ stays (Refuse (suc i)) Quiet ∷ [])
  refused_client i x here =
      let was = at.each i x here in
      let d : Doing = doing (suc i) rs in
      let names : names_of m.served (record d { refusing = true }) ≡ (standing o (suc i) rs).names = (λ j. names_of (at.served j) d) in
      changed i x (refusing x) was.phase (Refuse (suc i)) Quiet here refl tt (record { access = refl; entry = refl; note_is = refl; served = at.served })
      (refusing_stands o m.pool i x was.phase was.stands) (refusing_matches x (view_at m.pool i) was.phase d was.matches) (names ∙ was.names) was.cursors
      (λ busy. let t : Standing = standing_behind o (suc i) rs (stays (Refuse (suc i)) Quiet) in refusing_goes o.setup.pool t x (view_at m.pool i)
      (goes_as o.setup.pool (standing o (suc i) rs) t x (call_at x (view_at m.pool i)) names refl refl refl (ends_none (suc i) (Refuse (suc i)) Quiet) (was.goes busy)))
      (refusing_lacks x true (view_at m.pool i) was.lacks)
      (silent (Refuse (suc i)) Quiet (set m.clients i (refusing x)) (λ c s. s))

-- What is left of a line behind its next event, and that steps of an actor that has no task or only waits change nothing.
use Prim.Native.Nat.{suc}
use Rattle.std.proofs.Common.{◌≡◌, ◌≢◌, ◌-◌, ◌<◌, ◌≤◌, inl, inr, ℕ, zero, List, [], ◌∷◌, ◌++◌, length, Option, Some, None, refl, ap, subst, sym, ◌∙◌, arith, append-nil, append_assoc}
use Rattle.std.proofs.lemmas.List.Elements.{All-nil, All-cons}
use Rattle.clover_script.specs.declared.line.Line.{Line}
use Rattle.clover_script.specs.declared.line.Line.TheVariants as line
use Rattle.clover_script.specs.declared.line.Task.{Task}
use Rattle.clover_event.specs.declared.event.Event.TheVariants.{Begin, Step}
use Rattle.clover_event.specs.declared.event.Event.{Event}
use Rattle.clover_run.specs.declared.event.Note.{Note}
use Rattle.clover_run.specs.declared.event.Note.TheVariants.{Quiet, Waits}
use Rattle.clover_run.specs.declared.runner.Advance.{Advance}
use Rattle.clover_run.specs.declared.runner.Work.{Work}
use Rattle.clover_run.specs.declared.runner.Work.TheVariants.{Steps, Finish}
use Rattle.clover_run.specs.Folds.{doing}
use Rattle.clover_run.specs.Lines.{Calls, IsTurnedAway, CoversLine, WaitsLast}
use Rattle.clover_run.specs.Machine.{Parts, Continues, IsAt, IsBusy, OnlyWaits, Happens}
use Rattle.clover_run.specs.Record.{Record}
use Rattle.clover_run.specs.Run.{Opening}
use Rattle.clover_run.specs.Running.{IsPartOf, IsPartOrAll, IsSilent, steps_line, Leaves, IsLeft, Comes, Advances}
use Rattle.clover_run.proofs.OnlyWaiting.{idle_happens, idle_none, waits_happens}
use Rattle.clover_run.proofs.Waiting.{last_follows, follows_waits, idle_silent, waits_silent}

none_long : (rs : List Record) → length rs ≤ 0 → rs ≡ []
none_long [] few = refl
none_long (r ∷ rs) few = absurd (omega arith)

-- nothing is left
pub leaves_nothing : (l : Line) (a : ℕ) (before more : List Record) → CoversLine l before more → Leaves l (Steps a 0) before more
leaves_nothing l a before more all = record {
  all = λ rs k. nothing rs (omega (arith, k.1));
  part = λ rs k. inr (nothing rs k.1);
}
  where
    nothing : (rs : List Record) → length rs ≤ 0 → CoversLine l before (more ++ rs)
    nothing rs few = subst (λ qs. CoversLine l before qs) (sym (ap (λ qs. more ++ qs) (none_long rs few) ∙ append-nil more)) all

module _ (a : ℕ) (before : List Record) (r : Record) where
  pub turned_away : (t : Task) → r.event ≡ Begin a t → IsTurnedAway r.note → Calls a t before (r ∷ [])
  turned_away t is away = record { first = r; more = []; all = refl; begins = is; away = λ _. refl; on = λ kept. absurd (kept away) }

  pub leaves_call : (t : Task) → r.event ≡ Begin a t → (IsTurnedAway r.note → ⊥) → Leaves (line.Call a t) (Finish a) before (r ∷ [])
  leaves_call t is kept = record {
    all = λ rs k. record { first = r; more = rs; all = refl; begins = is; away = λ away. absurd (kept away); on = λ _. k };
    part = λ rs k. inl (inr (r, rs, refl, is, k));
  }

  pub leaves_steps : (n : ℕ) → 0 < n → r.event ≡ Step a → Leaves (line.Step a n) (Steps a (n - 1)) before (r ∷ [])
  leaves_steps n some is = record {
    all = λ rs k. (All-cons (λ (x : Record). x.event ≡ Step a) r rs is k.0, omega (arith, k.1));
    part = λ rs k. inl (All-cons (λ (x : Record). x.event ≡ Step a) r rs is k.0, omega (arith, k.1));
  }

  -- the last of the steps behind one is the last of them with it
  still_last : (rs : List Record) → WaitsLast rs → WaitsLast (r ∷ rs)
  still_last rs x = (r ∷ x.0, x.1, ap (λ (qs : List Record). r ∷ qs) x.2, x.3)

  pub leaves_finish : r.event ≡ Step a → (doing a before).task ≢ None → (r.note ≡ Waits → ⊥) → Leaves (line.Finish a) (Finish a) before (r ∷ [])
  leaves_finish is some on = record {
    all = λ rs k. record {
      works = (is, some, λ w. absurd (on w), k.works);
      ends = elim k.ends [
        | inl none ↦ inl (subst (λ qs. (doing a qs).task ≡ None) (append_assoc before (r ∷ []) rs) none)
        | inr last ↦ inr (still_last rs last)
      ];
    };
    part = λ rs k. inl (is, some, λ w. absurd (on w), k);
  }

-- an event of the actor's steps that is silent leaves as many steps but one, each of them as silent
module _ (o : Opening) (m : Parts) (a : ℕ) (note : Note) (happens : Happens m m (Step a) note) (silent : (rs : List Record) (r : Record) → IsAt o m rs → IsAt o m (rs ++ r ∷ []) → r.event ≡ Step a → r.note ≡ note → IsSilent r) where
  silent_steps : (n : ℕ) (rs : List Record) → IsAt o m rs → (more : List Record) × IsAt o m (rs ++ more) × Comes (line.Step a n) None rs more
  silent_steps zero rs at = ([], subst (IsAt o m) (sym (append-nil rs)) at, ((All-nil (λ (r : Record). r.event ≡ Step a), refl), All-nil IsSilent))
  silent_steps (suc n) rs at =
      let h = happens o rs at in
      let r = h.0 in
      let rest = silent_steps n (rs ++ r ∷ []) h.3 in (
        r ∷ rest.0,
        subst (IsAt o m) (append_assoc rs (r ∷ []) rest.0) rest.1,
        ((All-cons (λ (x : Record). x.event ≡ Step a) r rest.0 h.1 rest.2.0.0, ap suc rest.2.0.1), All-cons IsSilent r rest.0 (silent rs r at h.3 h.1 h.2) rest.2.1),
      )

-- An actor without a task makes as many steps as it is asked for, and nothing changes.
pub idle_steps : (o : Opening) (m : Parts) (a : ℕ) → (IsBusy m a → ⊥) → (n : ℕ) (rs : List Record) → IsAt o m rs → (more : List Record) × IsAt o m (rs ++ more) × Comes (line.Step a n) None rs more
idle_steps o m a idle = silent_steps o m a Quiet (idle_happens m a idle) (λ rs r at next is note. idle_silent o a rs r (last_follows o [] rs r next.run) is (idle_none o m rs at a idle))

-- And so does one that only waits.
pub waiting_steps : (o : Opening) (m : Parts) (a : ℕ) → OnlyWaits m a → (n : ℕ) (rs : List Record) → IsAt o m rs → (more : List Record) × IsAt o m (rs ++ more) × Comes (line.Step a n) None rs more
waiting_steps o m a only = silent_steps o m a Waits (waits_happens m a only) (λ rs r at next is note. waits_silent _ _ r (follows_waits o a rs r (last_follows o [] rs r next.run) is note))

-- Where an actor has no task, nothing is left of a line that asks for its steps until then.
pub idle_finish : (o : Opening) (m : Parts) (a : ℕ) → (IsBusy m a → ⊥) → (rs : List Record) → IsAt o m rs → (more : List Record) × IsAt o m (rs ++ more) × Comes (line.Finish a) None rs more
idle_finish o m a idle rs at =
    let here : IsAt o m (rs ++ []) = subst (IsAt o m) (sym (append-nil rs)) at in
    ([], here, (record { works = tt; ends = inl (idle_none o m (rs ++ []) here a idle) }, All-nil IsSilent))

-- And where it only waits, one step that waits ends it.
pub waiting_finish : (o : Opening) (m : Parts) (a : ℕ) → OnlyWaits m a → (rs : List Record) → IsAt o m rs → (more : List Record) × IsAt o m (rs ++ more) × Comes (line.Finish a) None rs more
waiting_finish o m a only rs at =
    let h = waits_happens m a only o rs at in
    let r = h.0 in
    let x = follows_waits o a rs r (last_follows o [] rs r h.3.run) h.1 h.2 in (
      r ∷ [],
      h.3,
      (record { works = (h.1, x.some, (λ w. refl), tt); ends = inr ([], r, refl, h.2) }, All-cons IsSilent r [] (waits_silent _ _ r x) (All-nil IsSilent)),
    )

-- no step is left
no_steps : (o : Opening) (m : Parts) (a : ℕ) (rs : List Record) → IsAt o m rs → (more : List Record) × IsAt o m (rs ++ more) × Comes (line.Step a 0) None rs more
no_steps o m a rs at = ([], subst (IsAt o m) (sym (append-nil rs)) at, ((All-nil (λ (r : Record). r.event ≡ Step a), refl), All-nil IsSilent))

-- nothing that prints is left
pub advances_idle : (m : Parts) (l k : Line) → l ≡ k → ((o : Opening) (rs : List Record) → IsAt o m rs → (more : List Record) × IsAt o m (rs ++ more) × Comes k None rs more) → Advances m m l None
advances_idle m l k is ran = subst (λ (z : Line). Advances m m z None) (sym is) (record { ran = ran; goes_on = record { setup = refl; traced = refl } })

pub advances_nowhere : (m : Parts) (l : Line) (a n : ℕ) → l ≡ line.Step a n → n ≡ 0 → Advances m m l None
advances_nowhere m l a n is none = advances_idle m l (line.Step a 0) (is ∙ ap (line.Step a) none) (λ o rs at. no_steps o m a rs at)

-- an event happened, and this is left of the line behind it
module _ (m n : Parts) (l k : Line) (e : Event) (note : Note) (is : l ≡ k) (happens : Happens m n e note) (parts : Continues m n) where
  pub advances_on : (x : Advance) → x.note ≡ note → ((o : Opening) (rs : List Record) (r : Record) → IsAt o m rs → IsAt o n (rs ++ r ∷ []) → r.event ≡ e → r.note ≡ note → Leaves k x.left rs (r ∷ [])) → Advances m n l (Some x)
  advances_on x says leaves = subst (λ (z : Line). Advances m n z (Some x)) (sym is) (record {
    ran = λ o rs at. let h = happens o rs at in (h.0 ∷ [], h.3, (h.0, refl, h.2 ∙ sym says, leaves o rs h.0 at h.3 h.1 h.2));
    goes_on = parts;
  })

  -- and nothing is left of it
  pub advances_last : (x : Advance) (a : ℕ) → x.note ≡ note → x.left ≡ Steps a 0 → ((rs : List Record) (r : Record) → r.event ≡ e → r.note ≡ note → CoversLine k rs (r ∷ [])) → Advances m n l (Some x)
  advances_last x a says left stands = advances_on x says
      (λ o rs r at next is_event is_note. subst (λ (w : Work). Leaves k w rs (r ∷ [])) (sym left) (leaves_nothing k a rs (r ∷ []) (stands rs r is_event is_note)))

-- a part, or all, of what is left of a line ends a part, or all, of the line
pub part_then : (l : Line) (w : Work) (before more rs : List Record) → Leaves l w before more → IsPartOrAll (steps_line w) (before ++ more) rs → IsPartOrAll l before (more ++ rs)
part_then l w before more rs x (inl part) = x.part rs part
part_then l w before more rs x (inr all) = inr (x.all rs all)

-- no records begin any line
pub part_none : (l : Line) (before : List Record) → IsPartOf l before []
part_none (line.Begin a t) before = refl
part_none (line.Step a n) before = (All-nil (λ (r : Record). r.event ≡ Step a), omega arith)
part_none (line.Finish a) before = tt
part_none (line.Call a t) before = inl refl
part_none (line.Refuse a) before = refl
part_none (line.Cut choice more) before = refl
part_none (line.Image choice) before = refl

-- so far nothing of what is left was made
pub part_here : (l : Line) (w : Work) (before more : List Record) → Leaves l w before more → IsPartOrAll l before more
part_here l w before more x = subst (λ qs. IsPartOrAll l before qs) (append-nil more) (x.part [] (part_none (steps_line w) (before ++ more)))

-- some of what was left of a line was made, and this is left of that
pub left_then : (l : Line) (w : Work) (left : Option Work) (before more next : List Record) → Leaves l w before more → IsLeft (steps_line w) left (before ++ more) next → IsLeft l left before (more ++ next)
left_then l w None before more next x all = x.all next all
left_then l w (Some v) before more next x y = record {
  all = λ rs k. subst (λ qs. CoversLine l before qs) (sym (append_assoc more next rs)) (x.all (next ++ rs) (y.all rs (subst (λ qs. CoversLine (steps_line v) qs rs) (sym (append_assoc before more next)) k)));
  part = λ rs k. subst (λ qs. IsPartOrAll l before qs) (sym (append_assoc more next rs)) (part_then l w before more (next ++ rs) x (y.part rs (subst (λ qs. IsPartOf (steps_line v) qs rs) (sym (append_assoc before more next)) k)));
}

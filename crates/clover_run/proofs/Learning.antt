-- What a client knows of the bindings in a run: never more than the server has.
use Rattle.std.proofs.Common.{◌≡◌, ℕ, ◌+◌, ◌-◌, ◌≤◌, List, [], ◌∷◌, ◌++◌, length, length-append, Bool, true, false, refl, sym, ap, ◌∙◌, subst, arith, append_assoc, append-nil}
use Rattle.std.specs.Prelude.{Option, Some, None}
use native.Mathlib.Decide.{ℕ_discrete}
use mathlib.Core.Logic.{dite}
use Rattle.clover_words.specs.declared.pool.Pool.{Pool}
use Rattle.clover_map.specs.declared.call.Call.{Call}
use Rattle.clover_map.specs.declared.call.Entry.{Entry}
use Rattle.clover_script.specs.declared.line.Task.{Task}
use Rattle.clover_script.specs.declared.line.Task.TheVariants.{Client as ClientTask, Recycle, Sweep}
use Rattle.clover_rule.specs.declared.access.Access.{Access}
use Rattle.clover_rule.specs.declared.access.Actor.{Actor}
use Rattle.clover_rule.specs.declared.access.Actor.TheVariants.{Client}
use Rattle.clover_server.specs.Server.{ServerState}
use Rattle.clover_server.specs.declared.turn.ServerTurn.{ServerTurn}
use Rattle.clover_server.specs.declared.turn.ServerTurn.TheVariants.{More, Ready, Unlinked as TurnUnlinked, Recycled as TurnRecycled, Full as TurnFull, NoSlot as TurnNoSlot, Unreached as TurnUnreached}
use Rattle.clover_server.specs.declared.work.Unfinished.{Unfinished}
use Rattle.clover_event.specs.Folds.{actor_of}
use Rattle.clover_event.specs.declared.event.Event.{Event}
use Rattle.clover_event.specs.declared.event.Event.TheVariants.{Begin, Step, Refuse}
use Rattle.clover_run.specs.Cleaning.{CleansOrEnds, IsCleaned, clean_note, cleaned, slot_due, swept_note}
use Rattle.clover_run.specs.Folds.{Doing, accessed, acted, begun, doing, does, ended_if, ends, entered, granted, served_after, stepped}
use Rattle.clover_run.specs.Record.{Record}
use Rattle.clover_run.specs.Run.{Opening, Standing, Follows, Fits, GoesOn, IsCause, IsOwn, IsRun, IsStepFor, IsStepOf, standing, want_in}
use Rattle.clover_run.specs.Served.{is_elsewhere}
use Rattle.clover_run.specs.Serving.{IsServed, Leaves}
use Rattle.clover_run.specs.declared.event.Note.{Note}
use Rattle.clover_run.specs.declared.event.Note.TheVariants.{Quiet, Waits, Answered, Refused, Full, NoSlot, Granted, Recycled, Unlinked, Unbound, Swept, Unreached, Busy, Missing}
use Rattle.clover_run.specs.declared.recycler.Chore.{Chore}
use Rattle.clover_run.specs.declared.recycler.Chore.TheVariants.{OfSlot, OfAll}
use Rattle.clover_run.specs.declared.served.Served.{Served}
use Rattle.clover_run.specs.declared.want.Want.{Want}
use Rattle.clover_run.specs.declared.want.Want.TheVariants.{Nothing, Stock, Names}
use Rattle.clover_run.proofs.Pasts.{doing_other, doing_own, served_more}
use Rattle.clover_run.proofs.Paying.{TaskGoes, follows_pays}

-- how many bindings an actor knows behind a note
abbrev pub known_by : Note → ℕ → ℕ
known_by (Granted b names) n = n + names
known_by note n = n

ended_known : (b : Bool) (d : Doing) → (ended_if b d).known ≡ d.known
ended_known true d = refl
ended_known false d = refl

granted_known : (d : Doing) (w : Served) (note : Note) → (granted d w note).known ≡ known_by note d.known
granted_known d w (Granted b names) = refl
granted_known d w note = refl

entered_known : (d : Doing) (e : Option Entry) → (entered d e).known ≡ d.known
entered_known d None = refl
entered_known d (Some e) = refl

acted_known : (d : Doing) (a : Actor) (x : Access) → (acted d a x).known ≡ d.known
acted_known d (Client n) x = refl
acted_known d actor x = refl

accessed_known : (d : Doing) (x : Option Access) → (accessed d x).known ≡ d.known
accessed_known d None = refl
accessed_known d (Some x) = acted_known d x.actor x

pub stepped_known : (d : Doing) (r : Record) → (stepped d r).known ≡ known_by r.note d.known
stepped_known d r =
    ended_known (ends r.note) (granted (entered (accessed d r.access) r.entry) r.served r.note)
    ∙ granted_known (entered (accessed d r.access) r.entry) r.served r.note
    ∙ ap (known_by r.note) (entered_known (accessed d r.access) r.entry ∙ accessed_known d r.access)

begun_known : (d : Doing) (t : Task) (note : Note) → (begun d t note).known ≡ d.known
begun_known d t Quiet = refl
begun_known d t note = refl

-- only a grant adds to it, and brings all that the client did not know
abbrev Brings : (known : ℕ) → Record → Note → Type 0
Brings known r (Granted b names) = names ≡ length r.served.server.directory.list - known
Brings known r note = Unit {0}

module _ (p : Pool) (st : Standing) (r : Record) where
  abbrev Brings_here : Note → Type 0
  Brings_here = Brings st.does.known r

  own_brings : (call : Call) → IsOwn p st call r → Brings_here r.note
  own_brings call h = by h.access.refused refl
    where
      by_cause : (note : Note) → IsCause p st r.entry h.access.act note → Brings_here note
      by_cause (Granted b names) k = absurd k
      by_cause note k = tt

      by : (b : Bool) → h.access.refused ≡ b → Brings_here r.note
      by true e = subst Brings_here (sym (h.own.unreached e).0) tt
      by false e = by_cause r.note (h.own.cause e)

  leaves_brings : (a : ℕ) (want : Want) (v : Served) (n : ServerState) (turn : ServerTurn) → Leaves a st.does want v n turn r → Brings_here r.note
  leaves_brings a want v n More h = subst Brings_here (sym h.0) tt
  leaves_brings a want v n Ready h = subst Brings_here (sym h.note) (ap (λ (w : Served). length w.server.directory.list - st.does.known) (sym h.served))
  leaves_brings a want v n (TurnFull bound worn out) h = subst Brings_here (sym h.0) tt
  leaves_brings a want v n TurnNoSlot h = subst Brings_here (sym h.0) tt
  leaves_brings a want v n TurnUnreached h = subst Brings_here (sym h.0) tt
  leaves_brings a want v n TurnUnlinked h = absurd h
  leaves_brings a want v n (TurnRecycled old) h = absurd h

  served_brings : (want : Want) (call : Call) → IsServed st.actor st.does want call st.served r → Brings_here r.note
  served_brings want call h = by (is_elsewhere st.served.holder st.actor) refl
    where
      by : (b : Bool) → is_elsewhere st.served.holder st.actor ≡ b → Brings_here r.note
      by true e = subst Brings_here (sym (h.waits e).note) tt
      by false e = let k = h.serves e in leaves_brings st.actor want st.served k.server k.turn k.leaves

  for_brings : (call : Call) (want : Want) → IsStepFor p st call want r → Brings_here r.note
  for_brings call Nothing h = own_brings call h
  for_brings call Stock h = served_brings Stock call h
  for_brings call Names h = served_brings Names call h

  swept_brings : (w : Served) (slot : Option ℕ) → Brings_here (swept_note w slot)
  swept_brings w None = tt
  swept_brings w (Some slot) = tt

  clean_brings : (chore : Chore) (w : Served) (turn : ServerTurn) → Brings_here (clean_note chore w turn)
  clean_brings (OfSlot slot) w TurnUnreached = tt
  clean_brings (OfSlot slot) w TurnUnlinked = tt
  clean_brings (OfSlot slot) w (TurnRecycled old) = tt
  clean_brings (OfSlot slot) w More = tt
  clean_brings (OfSlot slot) w Ready = tt
  clean_brings (OfSlot slot) w (TurnFull bound worn out) = tt
  clean_brings (OfSlot slot) w TurnNoSlot = tt
  clean_brings OfAll w TurnUnreached = tt
  clean_brings OfAll w TurnUnlinked = swept_brings w (slot_due OfAll w)
  clean_brings OfAll w (TurnRecycled old) = tt
  clean_brings OfAll w More = tt
  clean_brings OfAll w Ready = tt
  clean_brings OfAll w (TurnFull bound worn out) = tt
  clean_brings OfAll w TurnNoSlot = tt

  ends_brings : (chore : Chore) (slot : Option ℕ) (t : Option Unfinished) → CleansOrEnds chore slot t st.served r → Brings_here r.note
  ends_brings chore None None h = subst Brings_here (sym h.note) tt
  ends_brings chore None (Some u) h = subst Brings_here (sym h.note) (clean_brings chore (cleaned chore st.served h.server h.turn) h.turn)
  ends_brings chore (Some slot) t h = subst Brings_here (sym h.note) (clean_brings chore (cleaned chore st.served h.server h.turn) h.turn)

  cleaned_brings : (chore : Chore) → IsCleaned chore st.served r → Brings_here r.note
  cleaned_brings chore h = by (is_elsewhere st.served.holder 0) refl
    where
      by : (b : Bool) → is_elsewhere st.served.holder 0 ≡ b → Brings_here r.note
      by true e = subst Brings_here (sym (h.waits e).note) tt
      by false e = ends_brings chore (slot_due chore st.served) st.served.server.task (h.cleans e)

  step_brings : (task : Option Task) → IsStepOf p st task r → Brings_here r.note
  step_brings None h = subst Brings_here (sym h.note_is) tt
  step_brings (Some (ClientTask call written)) h = for_brings call (want_in st call) h
  step_brings (Some (Recycle slot)) h = cleaned_brings (OfSlot slot) h
  step_brings (Some Sweep) h = cleaned_brings OfAll h

-- how many bindings the server has behind some records
abbrev pub bound_behind : Opening → List Record → ℕ
bound_behind o rs = length (served_after o.served rs).server.directory.list

-- behind one record more
module _ (o : Opening) (c : ℕ) (before : List Record) (r : Record) (goes : TaskGoes (served_after o.served before).server.task) (few : (doing c before).known ≤ bound_behind o before) (h : Follows o before r) where
  abbrev now : ℕ
  now = length r.served.server.directory.list

  more : bound_behind o before ≤ now
  more = let g = (follows_pays o before r goes h).grows in let l = ap length g.1 in let k = length-append (served_after o.served before).server.directory.list g.0 in omega arith

  by_note : (note : Note) → Brings (doing c before).known r note → known_by note (doing c before).known ≤ now
  by_note (Granted b names) k = omega (arith, few, more, k)
  by_note Quiet k = omega (arith, few, more)
  by_note Waits k = omega (arith, few, more)
  by_note (Answered b reply) k = omega (arith, few, more)
  by_note (Refused b why) k = omega (arith, few, more)
  by_note (Full b bound worn out) k = omega (arith, few, more)
  by_note (NoSlot b) k = omega (arith, few, more)
  by_note (Recycled old) k = omega (arith, few, more)
  by_note Unlinked k = omega (arith, few, more)
  by_note Unbound k = omega (arith, few, more)
  by_note (Swept count) k = omega (arith, few, more)
  by_note Unreached k = omega (arith, few, more)
  by_note (Busy b) k = omega (arith, few, more)
  by_note (Missing b) k = omega (arith, few, more)

  of_event : (e : Event) → actor_of e ≡ c → Fits o before r e → (does (doing c before) r e).known ≤ now
  of_event (Begin a t) same k = subst (λ (n : ℕ). n ≤ now) (sym (begun_known (doing c before) t r.note)) (omega (arith, few, more))
  of_event (Step a) same k = subst (λ (n : ℕ). n ≤ now) (sym (stepped_known (doing c before) r))
      (by_note r.note (subst (λ (b : ℕ). Brings (doing b before).known r r.note) same (step_brings o.setup.pool (standing o a before) r (standing o a before).does.task k.is)))
  of_event (Refuse a) same k = omega (arith, few, more)

  known_more : (doing c (before ++ r ∷ [])).known ≤ bound_behind o (before ++ r ∷ [])
  known_more = subst (λ (w : Served). (doing c (before ++ r ∷ [])).known ≤ length w.server.directory.list) (sym (served_more o.served before r))
      (dite (ℕ_discrete (actor_of r.event) c)
      (λ e. subst (λ (d : Doing). d.known ≤ now) (sym (doing_own c before r e)) (of_event r.event e h))
      (λ e. subst (λ (d : Doing). d.known ≤ now) (sym (doing_other c before r e)) (omega (arith, few, more))))

-- an actor never knows more bindings than the server has
known_on : (o : Opening) (c : ℕ) (before steps : List Record) → TaskGoes (served_after o.served before).server.task → (doing c before).known ≤ bound_behind o before → GoesOn o before steps → (doing c (before ++ steps)).known ≤ bound_behind o (before ++ steps)
known_on o c before [] goes few run = subst (λ (l : List Record). (doing c l).known ≤ bound_behind o l) (sym (append-nil before)) few
known_on o c before (r ∷ rs) goes few run =
    subst (λ (l : List Record). (doing c l).known ≤ bound_behind o l) (append_assoc before (r ∷ []) rs)
    (known_on o c (before ++ r ∷ []) rs (subst (λ (w : Served). TaskGoes w.server.task) (sym (served_more o.served before r)) (follows_pays o before r goes run.0).goes) (known_more o c before r goes few run.0) run.1)

pub known_few : (o : Opening) (rs : List Record) → o.served.server.task ≡ None → IsRun o rs → (c : ℕ) → (doing c rs).known ≤ bound_behind o rs
known_few o rs none run c = known_on o c [] rs (subst TaskGoes (sym none) tt) (omega arith) run

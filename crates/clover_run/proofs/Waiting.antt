-- A step that came to waiting only waited: its actor wants something of the server, or is the recycler with a task, and another one holds the server.
use Prim.Native.Nat.{zero, suc}
use Rattle.std.proofs.Common.{◌≡◌, ◌≢◌, ℕ, ◌-◌, ◌<◌, Bool, true, false, List, [], ◌∷◌, ◌++◌, length, refl, sym, ap, ◌∙◌, subst, arith, append_assoc, append-nil}
use Rattle.std.specs.Prelude.{Option, Some, None}
use Rattle.clover_words.specs.declared.pool.Pool.{Pool}
use Rattle.clover_map.specs.History.{key_of}
use Rattle.clover_map.specs.declared.call.Call.{Call}
use Rattle.clover_script.specs.declared.line.Task.{Task}
use Rattle.clover_script.specs.declared.line.Task.TheVariants.{Client as ClientTask, Recycle, Sweep}
use Rattle.clover_rule.specs.Lists.{nth}
use Rattle.clover_plain.specs.Plain.{view_at}
use Rattle.clover_server.specs.Server.{ServerState}
use Rattle.clover_server.specs.declared.turn.ServerTurn.{ServerTurn}
use Rattle.clover_server.specs.declared.turn.ServerTurn.TheVariants.{More, Ready, Unlinked, Recycled, Full as TurnFull, NoSlot as TurnNoSlot, Unreached as TurnUnreached}
use Rattle.clover_server.specs.declared.work.Unfinished.{Unfinished}
use Rattle.clover_event.specs.Run.{lost}
use Rattle.clover_event.specs.declared.event.Event.{Event}
use Rattle.clover_event.specs.declared.event.Event.TheVariants.{Step}
use Rattle.clover_event.specs.declared.event.CallRefusal.TheVariants.{Unreached}
use Rattle.clover_rule.specs.declared.view.View.{View}
use Rattle.clover_rule.proofs.Tools.{nth_past}
use Rattle.clover_run.specs.Cleaning.{CleansOrEnds, IsCleaned, IsCleaning, cleaned, clean_note, slot_due, swept_note}
use Rattle.clover_run.specs.Client.{Phase, Rests, Wants as WantsSome, Calls, Ends, IsIn, IsDoing, IsTaskOf, call_at, want_of}
use Rattle.clover_run.specs.Folds.{Doing}
use Rattle.clover_run.specs.Machine.{Parts, IsAt, OnlyWaits, WaitsFor}
use Rattle.clover_run.specs.Recycling.{chore_task}
use Rattle.clover_run.specs.Wanting.{slot_for, wants}
use Rattle.clover_run.specs.declared.client.ClientState.{ClientState}
use Rattle.clover_run.specs.Record.{Record}
use Rattle.clover_run.specs.Run.{Opening, Standing, Still, Fits, Follows, GoesOn, IsCause, IsOwn, IsStepFor, IsStepOf, standing, want_in}
use Rattle.clover_run.specs.Running.{IsSilent, IsUnsaid}
use Rattle.clover_run.specs.Served.{is_elsewhere}
use Rattle.clover_run.specs.Serving.{IsServed, Leaves, Waiting}
use Rattle.clover_run.specs.declared.event.Note.TheVariants.{Quiet, Waits, Refused, Full, NoSlot, Granted, Swept, Recycled as NoteRecycled, Unlinked as NoteUnlinked, Unreached as NoteUnreached}
use Rattle.clover_run.specs.declared.recycler.Chore.{Chore}
use Rattle.clover_run.specs.declared.recycler.Chore.TheVariants.{OfSlot, OfAll}
use Rattle.clover_run.specs.declared.served.Served.{Served}
use Rattle.clover_run.specs.declared.want.Want.{Want}
use Rattle.clover_run.specs.declared.want.Want.TheVariants.{Nothing, Stock, Names}

-- the last record of a run follows those before it
pub last_follows : (o : Opening) (front before : List Record) (r : Record) → GoesOn o front (before ++ r ∷ []) → Follows o (front ++ before) r
last_follows o front [] r run = subst (λ (qs : List Record). Follows o qs r) (sym (append-nil front)) run.0
last_follows o front (q ∷ before) r run = subst (λ (qs : List Record). Follows o qs r) (append_assoc front (q ∷ []) before) (last_follows o (front ++ q ∷ []) before r run.1)

-- what makes a step of a task wait: the call wants something of the server, which another actor holds; the recycler's task wants it in each step
abbrev pub MustWait : Standing → Option Task → Type 0
MustWait st None = ⊥
MustWait st (Some (ClientTask call written)) = (want_in st call ≢ Nothing) × (is_elsewhere st.served.holder st.actor ≡ true)
MustWait st (Some task) = is_elsewhere st.served.holder 0 ≡ true

-- what a step that waits says of its actor
pub record StepWaits (st : Standing) (task : Option Task) (r : Record) : Type 0 where
  pub some : task ≢ None
  pub must : MustWait st task
  pub waiting : Waiting st.served r
  pub entry : r.entry ≡ None

-- an access of its own is no waiting
own_acts : (p : Pool) (st : Standing) (call : Call) (r : Record) → IsOwn p st call r → r.note ≡ Waits → ⊥
own_acts p st call r s w = by s.access.refused refl
  where
    by : (b : Bool) → s.access.refused ≡ b → ⊥
    by false made = subst (IsCause p st r.entry s.access.act) w (s.own.cause made)
    by true failed = let e : Refused st.actor (lost st.does.decided) ≡ Waits = sym (s.own.unreached failed).0 ∙ w in cc

-- and neither is a step of the server
serving_acts : (a : ℕ) (d : Doing) (want : Want) (v : Served) (n : ServerState) (turn : ServerTurn) (r : Record) → Leaves a d want v n turn r → r.note ≡ Waits → ⊥
serving_acts a d want v n More r l w = let e : Quiet ≡ Waits = sym l.0 ∙ w in cc
serving_acts a d want v n Ready r l w = let e : Granted a (length n.directory.list - d.known) ≡ Waits = sym l.note ∙ w in cc
serving_acts a d want v n (TurnFull bound worn out) r l w = let e : Full a bound worn out ≡ Waits = sym l.0 ∙ w in cc
serving_acts a d want v n TurnNoSlot r l w = let e : NoSlot a ≡ Waits = sym l.0 ∙ w in cc
serving_acts a d want v n TurnUnreached r l w = let e : Refused a Unreached ≡ Waits = sym l.0 ∙ w in cc
serving_acts a d want v n Unlinked r l w = l
serving_acts a d want v n (Recycled old) r l w = l

served_waits : (a : ℕ) (d : Doing) (want : Want) (call : Call) (v : Served) (r : Record) → IsServed a d want call v r → r.note ≡ Waits → (is_elsewhere v.holder a ≡ true) × Waiting v r
served_waits a d want call v r s w = by (is_elsewhere v.holder a) refl
  where
    by : (b : Bool) → is_elsewhere v.holder a ≡ b → (is_elsewhere v.holder a ≡ true) × Waiting v r
    by true e = (e, s.waits e)
    by false e = let x = s.serves e in absurd (serving_acts a d want v x.server x.turn r x.leaves w)

-- nor an access of the recycler, or the end of its sweep
swept_acts : (w : Served) (slot : Option ℕ) → swept_note w slot ≡ Waits → ⊥
swept_acts w None e = let z : Swept w.done ≡ Waits = e in cc
swept_acts w (Some slot) e = let z : Quiet ≡ Waits = e in cc

clean_acts : (chore : Chore) (w : Served) (turn : ServerTurn) → clean_note chore w turn ≡ Waits → ⊥
clean_acts (OfSlot slot) w More e = let z : Quiet ≡ Waits = e in cc
clean_acts (OfSlot slot) w Ready e = let z : Quiet ≡ Waits = e in cc
clean_acts (OfSlot slot) w (TurnFull bound worn out) e = let z : Quiet ≡ Waits = e in cc
clean_acts (OfSlot slot) w TurnNoSlot e = let z : Quiet ≡ Waits = e in cc
clean_acts (OfSlot slot) w TurnUnreached e = let z : NoteUnreached ≡ Waits = e in cc
clean_acts (OfSlot slot) w Unlinked e = let z : NoteUnlinked ≡ Waits = e in cc
clean_acts (OfSlot slot) w (Recycled old) e = let z : NoteRecycled old ≡ Waits = e in cc
clean_acts OfAll w More e = let z : Quiet ≡ Waits = e in cc
clean_acts OfAll w Ready e = let z : Quiet ≡ Waits = e in cc
clean_acts OfAll w (TurnFull bound worn out) e = let z : Quiet ≡ Waits = e in cc
clean_acts OfAll w TurnNoSlot e = let z : Quiet ≡ Waits = e in cc
clean_acts OfAll w TurnUnreached e = let z : NoteUnreached ≡ Waits = e in cc
clean_acts OfAll w Unlinked e = swept_acts w (slot_due OfAll w) e
clean_acts OfAll w (Recycled old) e = let z : Quiet ≡ Waits = e in cc

cleaning_acts : (chore : Chore) (v : Served) (r : Record) → IsCleaning chore v r → r.note ≡ Waits → ⊥
cleaning_acts chore v r x w = clean_acts chore (cleaned chore v x.server x.turn) x.turn (sym x.note ∙ w)

cleans_acts : (chore : Chore) (slot : Option ℕ) (task : Option Unfinished) (v : Served) (r : Record) → CleansOrEnds chore slot task v r → r.note ≡ Waits → ⊥
cleans_acts chore None None v r x w = let z : Swept v.done ≡ Waits = sym x.note ∙ w in cc
cleans_acts chore None (Some u) v r x w = cleaning_acts chore v r x w
cleans_acts chore (Some slot) task v r x w = cleaning_acts chore v r x w

cleaned_waits : (chore : Chore) (v : Served) (r : Record) → IsCleaned chore v r → r.note ≡ Waits → (is_elsewhere v.holder 0 ≡ true) × Waiting v r
cleaned_waits chore v r s w = by (is_elsewhere v.holder 0) refl
  where
    by : (b : Bool) → is_elsewhere v.holder 0 ≡ b → (is_elsewhere v.holder 0 ≡ true) × Waiting v r
    by true e = (e, s.waits e)
    by false e = absurd (cleans_acts chore (slot_due chore v) v.server.task v r (s.cleans e) w)

module _ (p : Pool) (st : Standing) (call : Call) (r : Record) (w : r.note ≡ Waits) where
  -- a call that wants this
  waits_by : (written : ℕ) (want : Want) → want_in st call ≡ want → IsStepFor p st call want r → StepWaits st (Some (ClientTask call written)) r
  waits_by written Nothing e s = absurd (own_acts p st call r s w)
  waits_by written Stock e s =
      let x = served_waits st.actor st.does Stock call st.served r s w in
      record { some = λ none. cc; must = (λ q. (let z : Stock ≡ Nothing = sym e ∙ q in cc), x.0); waiting = x.1; entry = s.entry }
  waits_by written Names e s =
      let x = served_waits st.actor st.does Names call st.served r s w in
      record { some = λ none. cc; must = (λ q. (let z : Names ≡ Nothing = sym e ∙ q in cc), x.0); waiting = x.1; entry = s.entry }

pub step_waits : (p : Pool) (st : Standing) (task : Option Task) (r : Record) → IsStepOf p st task r → r.note ≡ Waits → StepWaits st task r
step_waits p st None r s w = absurd (let e : Quiet ≡ Waits = sym s.note_is ∙ w in cc)
step_waits p st (Some (ClientTask call written)) r s w = waits_by p st call r w written (want_in st call) refl s
step_waits p st (Some (Recycle slot)) r s w = let x = cleaned_waits (OfSlot slot) st.served r s w in record { some = λ none. cc; must = x.0; waiting = x.1; entry = s.entry }
step_waits p st (Some Sweep) r s w = let x = cleaned_waits OfAll st.served r s w in record { some = λ none. cc; must = x.0; waiting = x.1; entry = s.entry }

-- a step of an actor without a task does nothing
pub step_idles : (p : Pool) (st : Standing) (task : Option Task) (r : Record) → IsStepOf p st task r → task ≡ None → Still st.served r Quiet
step_idles p st None r s e = s
step_idles p st (Some t) r s e = absurd cc

pub still_silent : (v : Served) (r : Record) → Still v r Quiet → IsSilent r
still_silent v r s = record { access = s.access; entry = s.entry; unsaid = subst IsUnsaid (sym s.note_is) tt }

pub waits_silent : (st : Standing) (task : Option Task) (r : Record) → StepWaits st task r → IsSilent r
waits_silent st task r x = record { access = x.waiting.access; entry = x.entry; unsaid = subst IsUnsaid (sym x.waiting.note) tt }

-- the same of a record that follows those before it
pub follows_waits : (o : Opening) (a : ℕ) (rs : List Record) (r : Record) → Follows o rs r → r.event ≡ Step a → r.note ≡ Waits → StepWaits (standing o a rs) (standing o a rs).does.task r
follows_waits o a rs r f is w =
    let fits : Fits o rs r (Step a) = subst (λ (e : Event). Fits o rs r e) is f in
    step_waits o.setup.pool (standing o a rs) (standing o a rs).does.task r fits.is w

pub idle_silent : (o : Opening) (a : ℕ) (rs : List Record) (r : Record) → Follows o rs r → r.event ≡ Step a → (standing o a rs).does.task ≡ None → IsSilent r
idle_silent o a rs r f is none =
    let fits : Fits o rs r (Step a) = subst (λ (e : Event). Fits o rs r e) is f in
    still_silent (standing o a rs).served r (step_idles o.setup.pool (standing o a rs) (standing o a rs).does.task r fits.is none)

-- the call under way wants something, and another actor holds the server
call_must : (st : Standing) (call : Call) → IsTaskOf call st.does → MustWait st st.does.task → (want_in st call ≢ Nothing) × (is_elsewhere st.served.holder st.actor ≡ true)
call_must st call task must = subst (MustWait st) task.1 must

-- a call that wants nothing, as its client has it, has no step that waits
no_want : (st : Standing) (y : ClientState) (call : Call) → IsTaskOf call st.does → st.names ≡ y.node.names → MustWait st st.does.task → want_of y call st.does ≡ Nothing → ⊥
no_want st y call task names must none = (call_must st call task must).0 (ap (λ (ns : List (ℕ × List ℕ)). wants call (slot_for (key_of call) ns) st.does.stock st.does.since) names ∙ none)

-- where a client with a task has a step that waits, it wants something, of a server that another one holds
client_wants : (st : Standing) (y : ClientState) (v : View) (f : Phase) → IsIn f y → IsDoing f y v st.does → st.names ≡ y.node.names → MustWait st st.does.task → (y.want ≢ Nothing) × (is_elsewhere st.served.holder st.actor ≡ true)
client_wants st y v Rests is does names must = absurd (subst (MustWait st) does must)
client_wants st y v WantsSome is does names must = (is.1, (call_must st (call_at y v) does.0 must).1)
client_wants st y v Calls is does names must = absurd (no_want st y (call_at y v) does.0 names must does.3)
client_wants st y v Ends is does names must = absurd (no_want st y (call_at y v) does.0 names must does.3)

-- the recycler has a task, and another one holds the server
recycler_wants : (st : Standing) (chore : Option Chore) → MustWait st (chore_task chore) → (chore ≢ None) × (is_elsewhere st.served.holder 0 ≡ true)
recycler_wants st None must = absurd must
recycler_wants st (Some (OfSlot slot)) must = (λ none. cc, must)
recycler_wants st (Some OfAll) must = (λ none. cc, must)

-- a step that waits is one of an actor that only waits
pub only_waits : (o : Opening) (m : Parts) (rs : List Record) (r : Record) (a : ℕ) → IsAt o m rs → StepWaits (standing o a rs) (standing o a rs).does.task r → OnlyWaits m a
only_waits o m rs r zero at x =
    let w = recycler_wants (standing o 0 rs) m.recycler.chore (subst (MustWait (standing o 0 rs)) at.recycler.task x.must) in
    (w.0, ap (λ (v : Served). is_elsewhere v.holder 0) at.served ∙ w.1)
only_waits o m rs r (suc i) at x = by (nth m.clients i) refl
  where
    by : (z : Option ClientState) → nth m.clients i ≡ z → WaitsFor m.served (suc i) z
    by None past =
        let far : o.setup.clients < suc i = (let l = nth_past m.clients i past in let c = at.clients in omega arith) in
        absurd (x.some (at.far (suc i) far))
    by (Some y) there =
        let c = at.each i y there in
        let w = client_wants (standing o (suc i) rs) y (view_at m.pool i) c.phase c.stands.phase c.matches.doing c.names x.must in
        (w.0, ap (λ (v : Served). is_elsewhere v.holder (suc i)) at.served ∙ w.1)

-- a step of an actor that does not only wait is no waiting
pub acts_so : (o : Opening) (m : Parts) (rs : List Record) (r : Record) (a : ℕ) → (OnlyWaits m a → ⊥) → IsAt o m rs → Follows o rs r → r.event ≡ Step a → r.note ≡ Waits → ⊥
acts_so o m rs r a acts at f is w = acts (only_waits o m rs r a at (follows_waits o a rs r f is w))

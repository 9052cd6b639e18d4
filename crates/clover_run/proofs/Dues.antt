-- A step of a client's own is its own in the run, an access that was made is the one that is due there, and the call stands behind it where it has led.
use Rattle.std.proofs.Common.{◌≡◌, ◌≢◌, ℕ, List, [], ◌∷◌, ◌++◌, Bool, true, false, inl, inr, refl, sym, ap, ◌∙◌, subst}
use Rattle.std.specs.Prelude.{Option, Some, None, ◌⊎◌}
use Rattle.std.proofs.lemmas.Option.{same_Some}
use Rattle.clover_map.specs.History.{key_of}
use Rattle.clover_map.specs.declared.call.Call.{Call}
use Rattle.clover_script.specs.declared.line.Task.{Task}
use Rattle.clover_script.specs.declared.line.Task.TheVariants.{Client as ClientTask}
use Rattle.clover_rule.specs.declared.access.Act.{Act}
use Rattle.clover_rule.specs.declared.access.Actor.{Actor}
use Rattle.clover_rule.specs.declared.view.View.{View}
use Rattle.clover_plain.specs.Plain.{Plain, view_at}
use Rattle.clover_call.specs.Caller.{HasCommitted}
use Rattle.clover_call.specs.declared.under.Underway.{Underway}
use Rattle.clover_call.specs.declared.under.Underway.TheVariants.{Nothing as NoCall, Get as GetUnder, Write as WriteUnder}
use Rattle.clover_node.specs.Node.{NodeState, IsAsked, IsIdle}
use Rattle.clover_node.specs.declared.counting.Counting.{Counting}
use Rattle.clover_node.specs.declared.counting.Counting.TheVariants.{No, Names as CountsNames, Absence}
use Rattle.clover_run.specs.Client.{Phase, Rests, Wants, Calls, Ends, Stands, IsIn, IsOwnPhase, IsDoing, Matches, IsOf, GoesSoFar, Went, call_at, since_of, step_record}
use Rattle.clover_run.specs.Folds.{Doing, acted, entered, ends, ended_if, granted, accessed, stepped}
use Rattle.clover_run.specs.Record.{Record}
use Rattle.clover_run.specs.Run.{Opening, Standing, IsDueOn, IsOwn, IsCause, known_slot, want_in, own_tag}
use Rattle.clover_run.specs.Wanting.{slot_for, wants}
use Rattle.clover_run.specs.declared.client.ClientState.{ClientState}
use Rattle.clover_run.specs.declared.event.Note.{Note}
use Rattle.clover_run.specs.declared.event.Note.TheVariants.{Quiet}
use Rattle.clover_run.specs.declared.want.Want.TheVariants.{Nothing, Names}
use Rattle.clover_run.proofs.Names.{new_slot}
use Rattle.clover_run.proofs.Goes.{due_on, goes_on}
use Rattle.clover_run.proofs.Committing.{only_quiet, commits_of, undecided, own_entered, entered_since, entered_task}

-- whether a call is under way on a slot
pub is_called : (u : Underway) → (u ≡ NoCall) ⊎ (u ≢ NoCall)
is_called NoCall = inl refl
is_called (GetUnder g) = inr (λ e. cc)
is_called (WriteUnder c) = inr (λ e. cc)

committed_busy : (u : Underway) → HasCommitted u → u ≢ NoCall
committed_busy NoCall h = absurd h
committed_busy (GetUnder g) h = absurd h
committed_busy (WriteUnder c) h = λ e. cc

-- a client whose steps are its own has a call under way
pub own_busy : (f : Phase) (x : ClientState) → IsOwnPhase f → IsIn f x → IsIdle x.node → ⊥
own_busy Rests x own h idle = own
own_busy Wants x own h idle = own
own_busy Calls x own h idle = h.0 idle
own_busy Ends x own h idle = committed_busy x.node.caller.under h.0 idle.calls

-- what the records say of it: its acts, and that it wants nothing
pub own_since : (f : Phase) (x : ClientState) (v : View) (d : Doing) → IsOwnPhase f → IsDoing f x v d → d.since ≡ since_of x.node v
own_since Rests x v d own h = absurd own
own_since Wants x v d own h = absurd own
own_since Calls x v d own h = h.2
own_since Ends x v d own h = h.2

own_want : (f : Phase) (x : ClientState) (v : View) (d : Doing) → IsOwnPhase f → IsDoing f x v d → wants (call_at x v) (slot_for (key_of (call_at x v)) x.node.names) d.stock d.since ≡ Nothing
own_want Rests x v d own h = absurd own
own_want Wants x v d own h = absurd own
own_want Calls x v d own h = h.3
own_want Ends x v d own h = h.3

pub own_task : (f : Phase) (x : ClientState) (v : View) (d : Doing) → IsOwnPhase f → IsDoing f x v d → (written : ℕ) × (d.task ≡ Some (ClientTask (call_at x v) written))
own_task Rests x v d own h = absurd own
own_task Wants x v d own h = absurd own
own_task Calls x v d own h = h.0
own_task Ends x v d own h = h.0

-- a client with a call on a slot is in such a phase
called_own : (f : Phase) (x : ClientState) → x.node.caller.under ≢ NoCall → IsIn f x → IsOwnPhase f
called_own Rests x called h = absurd (called h.0.calls)
called_own Wants x called h = absurd (called h.0.calls)
called_own Calls x called h = tt
called_own Ends x called h = tt

-- the same task has the same call
one_call : (t u : Option Task) (a b : Call) (m n : ℕ) → u ≡ t → t ≡ Some (ClientTask a m) → u ≡ Some (ClientTask b n) → b ≡ a
one_call t u a b m n same first second = let task : ClientTask b n ≡ ClientTask a m = same_Some (ClientTask b n) (ClientTask a m) (sym second ∙ same ∙ first) in cc

-- a call on no slot that has made an access wants names
wants_names : (call : Call) (stock : List ℕ) (acts : List Act) (act : Act) → wants call None stock (acts ++ act ∷ []) ≡ Names
wants_names call stock [] act = refl
wants_names call stock (a ∷ acts) act = refl

-- a busy client with no call on a slot loads the count: its call's key has no slot
pub counting_new : (n : NodeState) (call : Call) (v : View) → (IsIdle n → ⊥) → n.caller.under ≡ NoCall → IsAsked n.counting n v call → slot_for (key_of call) n.names ≡ None
counting_new n call v busy none h = go n.counting refl h
  where
    go : (c : Counting) → n.counting ≡ c → IsAsked c n v call → slot_for (key_of call) n.names ≡ None
    go No e h = absurd (busy (record { counts = e; calls = none }))
    go CountsNames e h = new_slot (key_of call) n.names h.unnamed
    go Absence e h = new_slot (key_of call) n.names h.unnamed

module _ (o : Opening) (i : ℕ) (f : Phase) (x y : ClientState) (p q : Plain) (note : Note) (w : Went o i f x y p q note) (s : Stands o p i x f) (own : IsOwnPhase f) (st : Standing) (of : IsOf i x p st) (m : Matches x (view_at p i) f st.does) (goes : x.node.caller.under ≢ NoCall → GoesSoFar o.setup.pool st x (call_at x (view_at p i))) where
  abbrev v : View
  v = view_at p i

  abbrev call : Call
  call = call_at x v

  busy : IsIdle x.node → ⊥
  busy = own_busy f x own s.phase

  -- the access that was made is the one that is due
  pub went_due : w.access.refused ≡ false → IsDueOn o.setup.pool st (known_slot st call) call w.access.act note
  went_due made = go (is_called x.node.caller.under)
    where
      go : (x.node.caller.under ≡ NoCall) ⊎ (x.node.caller.under ≢ NoCall) → IsDueOn o.setup.pool st (known_slot st call) call w.access.act note
      go (inl none) =
          let unknown : known_slot st call ≡ None = ap (slot_for (key_of call)) of.names ∙ counting_new x.node call v busy none s.holds.asked in
          subst (λ (k : Option ℕ). IsDueOn o.setup.pool st k call w.access.act note) (sym unknown) (w.counts none made st of m)
      go (inr called) = due_on o.setup.pool st v x call call called s.pool s.holds (goes called) y w.access.act note (own_since f x v st.does own m.doing) (w.calls called made)

  abbrev r : Record
  r = step_record st (Some w.access) w.entry note st.served

  -- so the step is its own
  pub went_own : IsOwn o.setup.pool st call r
  went_own = record { access = w.access; own = (w.follows st of m).0; due = went_due }

  pub went_free : want_in st call ≡ Nothing
  went_free = ap (λ (l : List (ℕ × List ℕ)). wants call (slot_for (key_of call) l) st.does.stock st.does.since) of.names ∙ own_want f x v st.does own m.doing

  -- behind an access with which its task goes on
  module _ (goes_on_note : ends note ≡ false) where
    not_refused : w.access.refused ≡ false
    not_refused = go w.access.refused refl
      where
        go : (b : Bool) → w.access.refused ≡ b → w.access.refused ≡ false
        go false e = e
        go true e = let ended : ends note ≡ true = ap ends ((w.follows st of m).0.unreached e).0 in absurd cc

    cause : IsCause o.setup.pool st w.entry w.access.act note
    cause = (w.follows st of m).0.cause not_refused

    quiet : note ≡ Quiet
    quiet = only_quiet o.setup.pool st w.entry w.access.act note goes_on_note cause

    stepped_is : stepped st.does r ≡ entered (record st.does { since = st.does.since ++ w.access.act ∷ []; refusing = false }) w.entry
    stepped_is =
        ap (λ (n : Note). stepped st.does (step_record st (Some w.access) w.entry n st.served)) quiet
        ∙ ap (λ (a : Actor). entered (acted st.does a w.access) w.entry) (w.follows st of m).0.actor

    -- the call goes on as it has led, in a standing that is as this record leaves it
    module _ (st1 : Standing) (does : st1.does ≡ stepped st.does r) (names : st1.names ≡ st.names) (ended : st1.ended ≡ st.ended) (called : y.node.caller.under ≢ NoCall) where
      is : st1.does ≡ entered (record st.does { since = st.does.since ++ w.access.act ∷ []; refusing = false }) w.entry
      is = does ∙ stepped_is

      own_kept : own_tag st1 ≡ own_tag st
      own_kept = own_entered st st1 w.access.act w.entry is (commits_of o.setup.pool st w.entry w.access.act note quiet cause) (w.follows st of m).0.takes (undecided o.setup.pool st r w.entry (w.follows st of m).0.entry)

      since_more : st1.does.since ≡ st.does.since ++ w.access.act ∷ []
      since_more = ap (λ (d : Doing). d.since) is ∙ entered_since (record st.does { since = st.does.since ++ w.access.act ∷ []; refusing = false }) w.entry

      task_same : st1.does.task ≡ st.does.task
      task_same = ap (λ (d : Doing). d.task) is ∙ entered_task (record st.does { since = st.does.since ++ w.access.act ∷ []; refusing = false }) w.entry

      -- it is the same call, and as the records say
      own1 : IsOwnPhase w.after
      own1 = called_own w.after y called w.stands.phase

      matches : Matches y (view_at q i) w.after st1.does
      matches = subst (Matches y (view_at q i) w.after) (sym does) (w.follows st of m).1

      same_call : call_at y (view_at q i) ≡ call
      same_call =
          let before = own_task f x v st.does own m.doing in
          let after = own_task w.after y (view_at q i) st1.does own1 matches.doing in
          one_call st.does.task st1.does.task call (call_at y (view_at q i)) before.0 after.0 task_same before.1 after.1

      -- it was on a slot: behind the load of the count it would want names
      was_called : x.node.caller.under ≢ NoCall
      was_called none =
          let unknown : slot_for (key_of call) y.node.names ≡ None = ap (slot_for (key_of call)) w.names ∙ counting_new x.node call v busy none s.holds.asked in
          let free = subst (λ (c : Call). wants c (slot_for (key_of c) y.node.names) st1.does.stock st1.does.since ≡ Nothing) same_call (own_want w.after y (view_at q i) st1.does own1 matches.doing) in
          let names : wants call (slot_for (key_of call) y.node.names) st1.does.stock st1.does.since ≡ Names = (λ j. wants call (unknown j) st1.does.stock (since_more j)) ∙ wants_names call st1.does.stock st.does.since w.access.act in
          let both : Nothing ≡ Names = sym free ∙ names in
          absurd cc

      pub goes_so : GoesSoFar o.setup.pool st1 y (call_at y (view_at q i))
      goes_so = subst (GoesSoFar o.setup.pool st1 y) (sym same_call)
          (goes_on o.setup.pool st v x call call was_called s.pool s.holds (goes was_called) y w.access.act note (own_since f x v st.does own m.doing) (w.calls was_called not_refused) st1 names ended own_kept since_more)

  -- where the task ends with the note, nothing is under way on a slot
  over : (st1 : Standing) → ends note ≡ true → st1.does ≡ stepped st.does r → y.node.caller.under ≢ NoCall → ⊥
  over st1 ended does called =
      let none : (stepped st.does r).task ≡ None = ap (λ (b : Bool). (ended_if b (granted (entered (accessed st.does r.access) r.entry) r.served note)).task) ended in
      let task = own_task w.after y (view_at q i) (stepped st.does r) (called_own w.after y called w.stands.phase) (w.follows st of m).1.doing in
      let both : None ≡ Some (ClientTask (call_at y (view_at q i)) task.0) = sym none ∙ task.1 in
      absurd cc

  -- behind the access a call on a slot stands where it has led
  pub went_goes : (st1 : Standing) → st1.does ≡ stepped st.does r → st1.names ≡ st.names → (ends note ≡ false → st1.ended ≡ st.ended) → y.node.caller.under ≢ NoCall → GoesSoFar o.setup.pool st1 y (call_at y (view_at q i))
  went_goes st1 does names ended called = go (ends note) refl
    where
      go : (b : Bool) → ends note ≡ b → GoesSoFar o.setup.pool st1 y (call_at y (view_at q i))
      go true e = absurd (over st1 e does called)
      go false e = goes_so e st1 does names (ended e) called

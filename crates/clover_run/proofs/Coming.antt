-- From what the access of a client's node told, by what the run makes of its turn: the value that was found, what may be entered, and that the client went on.
use Prim.Native.Nat.{suc}
use Rattle.std.proofs.Common.{◌≡◌, ◌≢◌, ℕ, ◌-◌, ◌^◌, ◌<◌, [], ◌∷◌, ◌++◌, true, refl, sym, ap, ◌∙◌, inl, inr, subst}
use Rattle.std.specs.Prelude.{◌⊎◌, Option, Some, None}
use Rattle.std.proofs.lemmas.Option.{same_Some}
use Rattle.clover_words.specs.declared.bytes.ValueBuf.{ValueBuf}
use Rattle.clover_map.specs.declared.bytes.Value.{Value}
use Rattle.clover_map.specs.declared.call.Call.{Call}
use Rattle.clover_map.specs.declared.call.Call.TheVariants.{Get as GetOf, Put as PutOf, Delete as DeleteOf, Swap as SwapOf}
use Rattle.clover_map.specs.declared.call.Reply.{Reply}
use Rattle.clover_map.specs.declared.call.Reply.TheVariants.{Found as FoundReply}
use Rattle.clover_rule.specs.Steps.{reply_of}
use Rattle.clover_plain.specs.Plain.{Plain, history, view_at, KeptButEntries}
use Rattle.clover_get.specs.Getting.{Stage, Seeking, AtMeta, AtValue, AtFound, AtDead, AtBad, Over, FillsFrom, value_in}
use Rattle.clover_call.specs.Going.{GoesOn}
use Rattle.clover_call.specs.Caller.{HasCommitted, copied_flags, flags_at, is_first, next_step, new_tag}
use Rattle.clover_call.specs.Turning.{reply_in}
use Rattle.clover_call.specs.declared.answer.Answer.{Answer}
use Rattle.clover_call.specs.declared.answer.Answer.TheVariants.{Stored, Found, Absent, Deleted, Differs}
use Rattle.clover_call.specs.declared.answer.CallerTurn.{CallerTurn}
use Rattle.clover_call.specs.declared.under.Underway.{Underway}
use Rattle.clover_call.specs.declared.under.Underway.TheVariants.{Nothing, Get, Write}
use Rattle.clover_node.specs.Going.{IsOpen}
use Rattle.clover_node.specs.Node.{NodeState, count_of, IsAsked}
use Rattle.clover_node.specs.declared.answer.NodeTurn.{NodeTurn}
use Rattle.clover_node.specs.declared.answer.NodeTurn.TheVariants.{More, Decided, Done, Refused as RefusedTurn}
use Rattle.clover_node.specs.declared.counting.Counting.{Counting}
use Rattle.clover_node.specs.declared.counting.Counting.TheVariants.{No, Names as CountsNames, Absence}
use Rattle.clover_event.specs.Stepping.{next_entry}
use Rattle.clover_run.specs.Client.{Phase, Rests, Wants, Calls, Ends, IsOwnPhase, Stands, call_at, call_or}
use Rattle.clover_run.specs.Run.{Opening}
use Rattle.clover_run.specs.Stepping.{Accesses, Enters, IsFound, IsValue}
use Rattle.clover_run.specs.declared.client.ClientState.{ClientState}
use Rattle.clover_run.proofs.Accessing.{open_apart}
use Rattle.clover_run.proofs.CountLoads.{OnCount, absent_counts, on_count}
use Rattle.clover_run.proofs.Deciding.{commit_adds, end_adds}
use Rattle.clover_run.proofs.Entering.{enters}
use Rattle.clover_run.proofs.OnSlots.{OnSlot, called_by, on_slot, slot_says, slots_only}
use Rattle.clover_run.proofs.Unknown.{missed_adds}

-- no commit finds a value
no_find : (t n : ℕ) (x : Value) (call : Call) → FoundReply n x ≡ reply_of t call → ⊥
no_find t n x (GetOf key) e = cc
no_find t n x (PutOf key y) e = cc
no_find t n x (DeleteOf key) e = cc
no_find t n x (SwapOf key s y) e = cc

-- the last load for a value leaves the room
found_fills : (s : Stage) (f k : ℕ) (room room1 : ValueBuf) → flags_at s ≡ Some f → FillsFrom s k room room1 → room1 ≡ room
found_fills Seeking f k room room1 e h = absurd cc
found_fills (AtMeta t) f k room room1 e h = absurd cc
found_fills (AtValue t g j) f k room room1 e h = absurd cc
found_fills (AtFound t g) f k room room1 e h = h
found_fills (AtDead t) f k room room1 e h = absurd cc
found_fills (AtBad t) f k room room1 e h = absurd cc
found_fills Over f k room room1 e h = absurd cc

room_kept : (x y : Underway) (r : CallerTurn) (f k : ℕ) (room room1 : ValueBuf) → copied_flags x ≡ Some f → GoesOn x room k r y room1 → room1 ≡ room
room_kept Nothing y r f k room room1 e go = absurd go
room_kept (Get g) y r f k room room1 e go = found_fills g.stage f k room room1 e go.2
room_kept (Write c) y r f k room room1 e go = go.1

-- whether the count is loaded
pub is_counting : (c : Counting) → (c ≡ No) ⊎ (c ≢ No)
is_counting No = inl refl
is_counting CountsNames = inr (λ e. cc)
is_counting Absence = inr (λ e. cc)

module _ (i : ℕ) (x y : ClientState) (p q : Plain) (value : Option Value) (found : IsFound x value) where
  -- a found value was read by a call on a slot
  found_so : (a : Answer) (f : ℕ) → Accesses i x y p q (Done a) → x.node.counting ≡ No → (OnSlot i x y p q (Done a) → copied_flags x.node.caller.under ≡ Some f) → value ≡ Some (value_in f y.room)
  found_so a f t none flags =
      let s : OnSlot i x y p q (Done a) = on_slot i x y p q (Done a) none (ap (λ (n : NodeState). n.counting) t.went.kept) t.made in
      found f (flags s) ∙ ap (λ (b : ValueBuf). Some (value_in f b)) (sym (room_kept x.node.caller.under y.node.caller.under (called_by (Done a)) f s.n x.room y.room (flags s) s.go))

  -- the value that was found is the one that was taken before
  pub value_so : (r : NodeTurn) → Accesses i x y p q r → IsValue r value y.room
  value_so More a = tt
  value_so (Decided (Stored t)) a = tt
  value_so (Decided (Found t f)) a = absurd (no_find _ _ _ _ a.went.turns.3)
  value_so (Decided Absent) a = tt
  value_so (Decided (Deleted t)) a = tt
  value_so (Decided (Differs t)) a = tt
  value_so (Done (Stored t)) a = tt
  value_so (Done (Found t f)) a =
      let none : x.node.counting ≡ No = slots_only x.node.counting x.node (view_at p i) x.room _ a.made.0 (Done (Found t f)) y.node (view_at q i) y.room a.made.2 (λ c. c) in
      found_so (Found t f) f a none (λ s. (slot_says i x y p q (Done (Found t f)) none a.went.says).done.1.flags)
  value_so (Done Absent) a = tt
  value_so (Done (Deleted t)) a = tt
  value_so (Done (Differs t)) a = tt
  value_so (RefusedTurn z) a = tt

-- a call that has committed nothing is one whose accesses are its own, and so is one that has, behind its entry
module _ (o : Opening) (i : ℕ) (x : ClientState) (p : Plain) (P : Phase → Type 0) where
  pub on_calls : (f : Phase) → IsOwnPhase f → Stands o p i x f → IsOpen x.node.caller.under → (Stands o p i x Calls → P Calls) → P f
  on_calls Rests own st way k = absurd own
  on_calls Wants own st way k = absurd own
  on_calls Calls own st way k = k st
  on_calls Ends own st way k = absurd (open_apart x.node.caller.under way st.phase.0)

  pub on_ends : (f : Phase) → IsOwnPhase f → Stands o p i x f → HasCommitted x.node.caller.under → (Stands o p i x Ends → P Ends) → P f
  on_ends Rests own st behind k = absurd own
  on_ends Wants own st behind k = absurd own
  on_ends Calls own st behind k = absurd (open_apart x.node.caller.under st.phase.1 behind)
  on_ends Ends own st behind k = k st

module _ (x y : ClientState) (k : ℕ) (p q : Plain) (few : p.made < 2 ^ 64 - 1) (o : Opening) (i : ℕ) (seat : suc i ≡ k) where
  abbrev call : Call
  call = call_at x (view_at p i)

  -- what its client keeps until it is entered
  pub kept_so : {r : NodeTurn} → Accesses i x y p q r → Stands o p i x Calls → y.call ≡ Some call
  kept_so a st = ap (λ (z : ClientState). z.call) a.rest ∙ st.phase.3.1 ∙ sym (ap (λ (c : Option Call). Some (call_or c x (view_at p i))) st.phase.3.1)

  -- the access decided the call: this may be entered
  may_enter : {r : NodeTurn} → Accesses i x y p q r → Stands o p i x Calls → (reply : Reply) → history q ≡ q.entries ++ next_entry (suc i) x.number call reply ∷ [] → (c : Call) → y.call ≡ Some c → history q ≡ q.entries ++ next_entry k y.number c reply ∷ []
  may_enter a st reply h c asked =
      let same : call ≡ c = same_Some call c (sym (kept_so a st) ∙ asked) in
      h ∙ (λ j. q.entries ++ next_entry (seat j) (ap (λ (z : ClientState). z.number) (sym a.rest) j) (same j) reply ∷ [])

  -- and was
  pub entered_so : {r : NodeTurn} → Accesses i x y p q r → (c : Call) → (z : ClientState) (t : Plain) (reply : Reply) → y.call ≡ Some c → Enters y.call y k reply z q t
      → (z ≡ record y { call = None; number = suc y.number }) × (t.entries ≡ q.entries ++ next_entry (suc i) x.number c reply ∷ []) × KeptButEntries q t
  entered_so a c z t reply kept enter =
      let e = subst (λ (m : Option Call). Enters m y k reply z q t) kept enter in
      (e.0, e.1 ∙ (λ j. q.entries ++ next_entry (sym seat j) (ap (λ (s : ClientState). s.number) a.rest j) c reply ∷ []), e.2)

  -- a call whose key its client does not know was answered by the count
  pub absent_so : (a : Answer) (f : Accesses i x y p q (Done a)) (st : Stands o p i x Calls) → x.node.counting ≢ No → a ≡ Absent
  absent_so a f st some = let s : OnCount i x y p q x.node.counting (Done a) = on_count i x y p q (Done a) x.node.counting some st.holds.asked f.made in (absent_counts x.node.counting call a _ s.n s.asks.counts s.turn).0

  -- one that has committed is on a slot
  pub slot_behind : {r : NodeTurn} → (a : Accesses i x y p q r) (st : Stands o p i x Ends) → x.node.counting ≡ No
  slot_behind a st = by x.node.counting st.holds.asked
    where
      by : (c : Counting) → IsAsked c x.node (view_at p i) call → c ≡ No
      by No asked = refl
      by CountsNames asked = absurd (subst HasCommitted asked.idle st.phase.0)
      by Absence asked = absurd (subst HasCommitted asked.idle st.phase.0)

  module _ (f : Phase) (own : IsOwnPhase f) (st : Stands o p i x f) where
    pub commit_none : (a : Answer) → Accesses i x y p q (Decided a) → x.node.counting ≡ No
    commit_none a t = slots_only x.node.counting x.node (view_at p i) x.room _ t.made.0 (Decided a) y.node (view_at q i) y.room t.made.2 (λ c. c)

    pub enters_commit : (a : Answer) (reply : Reply) → Accesses i x y p q (Decided a) → reply ≡ reply_in a y.room → (c : Call) → y.call ≡ Some c → history q ≡ q.entries ++ next_entry k y.number c reply ∷ []
    enters_commit a reply t is c asked = on_calls o i x p (λ g. history q ≡ q.entries ++ next_entry k y.number c reply ∷ []) f own st t.went.turns.0 (λ s.
        let none = commit_none a t in
        let at = on_slot i x y p q (Decided a) none (ap (λ (n : NodeState). n.counting) t.went.kept) t.made in
        may_enter t s (reply_in a y.room) (enters o i x p q s few (next_step x.node.caller.under (view_at p i) x.room) (is_first x.node.caller.under) at.n at.stepped at.made (reply_in a y.room) (commit_adds o i x p q s few y a t none)) c asked
        ∙ ap (λ (m : Reply). q.entries ++ next_entry k y.number c m ∷ []) (sym is))

    -- at an answer only what was not entered at a commit
    enters_answered : (a : Answer) (t : Accesses i x y p q (Done a)) (s : Stands o p i x Calls) → history q ≡ q.entries ++ next_entry (suc i) x.number call (reply_in a y.room) ∷ []
    enters_answered a t s = by (is_counting x.node.counting)
      where
        by : (x.node.counting ≡ No) ⊎ (x.node.counting ≢ No) → history q ≡ q.entries ++ next_entry (suc i) x.number call (reply_in a y.room) ∷ []
        by (inl none) =
            let at = on_slot i x y p q (Done a) none (ap (λ (n : NodeState). n.counting) t.went.kept) t.made in
            enters o i x p q s few (next_step x.node.caller.under (view_at p i) x.room) (is_first x.node.caller.under) at.n at.stepped at.made (reply_in a y.room) (end_adds o i x p q s few y a t none)
        by (inr some) =
            let is = absent_so a t s some in
            let t1 : Accesses i x y p q (Done Absent) = subst (λ (b : Answer). Accesses i x y p q (Done b)) is t in
            let at : OnCount i x y p q x.node.counting (Done Absent) = on_count i x y p q (Done Absent) x.node.counting some s.holds.asked t1.made in
            enters o i x p q s few (count_of x.node.counting call) true at.n at.stepped at.made (reply_in Absent y.room) (missed_adds o i x p q s few y some t1)
            ∙ ap (λ (b : Answer). q.entries ++ next_entry (suc i) x.number call (reply_in b y.room) ∷ []) (sym is)

    pub enters_answer : (a : Answer) (reply : Reply) → Accesses i x y p q (Done a) → reply ≡ reply_in a y.room → (c : Call) → y.call ≡ Some c → history q ≡ q.entries ++ next_entry k y.number c reply ∷ []
    enters_answer a reply t is c asked = by t.went.turns
      where
        by : IsOpen x.node.caller.under ⊎ (HasCommitted x.node.caller.under × (reply_in a y.room ≡ reply_of (new_tag x.node.caller.under) call)) → history q ≡ q.entries ++ next_entry k y.number c reply ∷ []
        by (inl way) = on_calls o i x p (λ g. history q ≡ q.entries ++ next_entry k y.number c reply ∷ []) f own st way (λ s. may_enter t s (reply_in a y.room) (enters_answered a t s) c asked ∙ ap (λ (m : Reply). q.entries ++ next_entry k y.number c m ∷ []) (sym is))
        by (inr behind) = on_ends o i x p (λ g. history q ≡ q.entries ++ next_entry k y.number c reply ∷ []) f own st behind.0 (λ s. absurd (let none : Some c ≡ None = sym asked ∙ ap (λ (z : ClientState). z.call) t.rest ∙ s.phase.2 in cc))

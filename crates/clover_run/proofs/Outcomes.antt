-- What each outcome of an access comes to: the client went on, was answered, wants names, or is refused.
use Prim.Native.Nat.{suc}
use Rattle.std.proofs.Common.{◌≡◌, ◌≢◌, ℕ, ◌-◌, ◌^◌, ◌<◌, refl, sym, ap, ◌∙◌, inl, inr, subst}
use Rattle.std.specs.Prelude.{◌⊎◌, Option, None}
use Rattle.clover_map.specs.declared.call.Call.{Call}
use Rattle.clover_map.specs.declared.call.Reply.{Reply}
use Rattle.clover_rule.specs.Steps.{reply_of}
use Rattle.clover_plain.specs.Plain.{Plain, view_at}
use Rattle.clover_call.specs.Caller.{HasCommitted, new_tag}
use Rattle.clover_call.specs.Turning.{reply_in}
use Rattle.clover_call.specs.declared.answer.Answer.{Answer}
use Rattle.clover_call.specs.declared.answer.Answer.TheVariants.{Absent}
use Rattle.clover_node.specs.Going.{IsOpen}
use Rattle.clover_node.specs.declared.answer.NodeRefusal.{NodeRefusal}
use Rattle.clover_node.specs.declared.answer.NodeRefusal.TheVariants.{Unreached, Behind, Linked, TooLong, NeedsStock, NeedsNames}
use Rattle.clover_node.specs.declared.answer.NodeTurn.TheVariants.{More, Decided, Done, Refused as RefusedTurn}
use Rattle.clover_node.specs.declared.counting.Counting.TheVariants.{No}
use Rattle.clover_event.specs.declared.event.CallRefusal.{CallRefusal}
use Rattle.clover_run.specs.Client.{Phase, Calls, Ends, IsOwnPhase, Stands, Went, call_at}
use Rattle.clover_run.specs.Run.{Opening}
use Rattle.clover_run.specs.Stepping.{Accesses, Enters, refused_as}
use Rattle.clover_run.specs.declared.client.ClientState.{ClientState}
use Rattle.clover_run.specs.declared.client.came.Came.TheVariants as came
use Rattle.clover_run.specs.declared.event.Note.TheVariants.{Quiet, Answered, Refused}
use Rattle.clover_run.specs.declared.want.Want.{Want}
use Rattle.clover_run.specs.declared.want.Want.TheVariants.{Names}
use Rattle.clover_run.proofs.Closing.{went_closed}
use Rattle.clover_run.proofs.Coming.{absent_so, commit_none, entered_so, is_counting, kept_so, on_calls, on_ends, slot_behind}
use Rattle.clover_run.proofs.Deciding.{went_answered, went_decided}
use Rattle.clover_run.proofs.Ongoing.{went_behind, went_linked, went_more, went_unreached}
use Rattle.clover_run.proofs.OnSlots.{names_counted, slot_says, slots_only, stock_never}
use Rattle.clover_run.proofs.Unknown.{went_missed, went_wants}

-- the phase is that of the accesses before an entry, or behind it
phase_calls : (f : Phase) (o : Opening) (i : ℕ) (x : ClientState) (p : Plain) → IsOwnPhase f → Stands o p i x f → IsOpen x.node.caller.under → f ≡ Calls
phase_calls f o i x p own st way = on_calls o i x p (λ g. g ≡ Calls) f own st way (λ s. refl)

phase_ends : (f : Phase) (o : Opening) (i : ℕ) (x : ClientState) (p : Plain) → IsOwnPhase f → Stands o p i x f → HasCommitted x.node.caller.under → f ≡ Ends
phase_ends f o i x p own st behind = on_ends o i x p (λ g. g ≡ Ends) f own st behind (λ s. refl)

module _ (x y : ClientState) (k : ℕ) (p q : Plain) (few : p.made < 2 ^ 64 - 1) (o : Opening) (i : ℕ) (seat : suc i ≡ k) (f : Phase) (own : IsOwnPhase f) (st : Stands o p i x f) where
  abbrev call : Call
  call = call_at x (view_at p i)

  pub came_more : Accesses i x y p q More → Went o i f x y p q Quiet
  came_more a = went_more o i f own x p q st few y a

  -- a call wants names where its key is not known, and never stock behind its start
  pub came_wants : (z : NodeRefusal) (want : Want) → refused_as z ≡ came.Wants want → Accesses i x y p q (RefusedTurn z) → Went o i f x (record y { want = want }) p q Quiet
  came_wants Unreached want e a = absurd cc
  came_wants (Behind turns) want e a = absurd cc
  came_wants (Linked t) want e a = absurd cc
  came_wants (TooLong length room) want e a = absurd cc
  came_wants NeedsStock want e a = absurd (stock_never x.node.counting x.node (view_at p i) x.room _ a.made.0 y.node (view_at q i) y.room a.made.2)
  came_wants (NeedsNames known bound) want e a =
      let is : Names ≡ want = cc in
      let some : x.node.counting ≢ No = names_counted x.node.counting x.node (view_at p i) x.room _ a.made.0 known bound y.node (view_at q i) y.room a.made.2 in
      subst (λ (w : Want). Went o i f x (record y { want = w }) p q Quiet) is
      (on_calls o i x p (λ g. Went o i g x (record y { want = Names }) p q Quiet) f own st a.went.turns (λ s. went_wants o i x p q s few y some known bound a))

  -- why a call has no answer
  refused_by : (z : NodeRefusal) (fault : CallRefusal) → refused_as z ≡ came.Refused fault → Accesses i x y p q (RefusedTurn z) → Went o i f x (record y { call = None }) p q (Refused (suc i) fault)
  refused_by Unreached fault e a =
      let is : _ ≡ fault = cc in
      subst (λ (w : CallRefusal). Went o i f x (record y { call = None }) p q (Refused (suc i) w)) is (went_unreached o i f own x p q st few y a (phase_calls f o i x p own st a.went.turns))
  refused_by (Behind turns) fault e a =
      let is : _ ≡ fault = cc in
      subst (λ (w : CallRefusal). Went o i f x (record y { call = None }) p q (Refused (suc i) w)) is (went_behind o i f own x p q st few y turns a (phase_calls f o i x p own st a.went.turns))
  refused_by (Linked t) fault e a =
      let is : _ ≡ fault = cc in
      subst (λ (w : CallRefusal). Went o i f x (record y { call = None }) p q (Refused (suc i) w)) is (went_linked o i f own x p q st few y t a (phase_ends f o i x p own st a.went.turns.0))
  refused_by (TooLong length room) fault e a =
      let none : x.node.counting ≡ No = slots_only x.node.counting x.node (view_at p i) x.room _ a.made.0 (RefusedTurn (TooLong length room)) y.node (view_at q i) y.room a.made.2 (λ c. c) in
      absurd (slot_says i x y p q (RefusedTurn (TooLong length room)) none a.went.says).turns
  refused_by NeedsStock fault e a = absurd cc
  refused_by (NeedsNames known bound) fault e a = absurd cc

  pub came_refused : (z : NodeRefusal) (fault : CallRefusal) → refused_as z ≡ came.Refused fault → Accesses i x y p q (RefusedTurn z) → Went o i f x (record y { call = None }) p q (Refused k fault)
  came_refused z fault e a = subst (λ (n : ℕ). Went o i f x (record y { call = None }) p q (Refused n fault)) seat (refused_by z fault e a)

  -- what is said where the call was entered, or had been
  module _ (a : Answer) (reply : Reply) (is : reply ≡ reply_in a y.room) (z : ClientState) (t : Plain) (enter : Enters y.call y k reply z q t) where
    enter_so : Enters y.call y k (reply_in a y.room) z q t
    enter_so = subst (λ (r : Reply). Enters y.call y k r z q t) is enter

    pub came_decided : Accesses i x y p q (Decided a) → Went o i f x z p t Quiet
    came_decided b = on_calls o i x p (λ g. Went o i g x z p t Quiet) f own st b.went.turns.0 (λ s.
        let e = entered_so x y k p q few o i seat b call z t (reply_in a y.room) (kept_so x y k p q few o i seat b s) enter_so in
        subst (λ (m : ClientState). Went o i Calls x m p t Quiet) (sym e.0) (went_decided o i x p q s few y a b (commit_none x y k p q few o i seat f own st a b) t e.1 e.2))

    answered_calls : Accesses i x y p q (Done a) → Stands o p i x Calls → Went o i Calls x z p t (Answered (suc i) (reply_in a y.room))
    answered_calls b s = by (is_counting x.node.counting)
      where
        by : (x.node.counting ≡ No) ⊎ (x.node.counting ≢ No) → Went o i Calls x z p t (Answered (suc i) (reply_in a y.room))
        by (inl none) =
            let e = entered_so x y k p q few o i seat b call z t (reply_in a y.room) (kept_so x y k p q few o i seat b s) enter_so in
            subst (λ (m : ClientState). Went o i Calls x m p t (Answered (suc i) (reply_in a y.room))) (sym e.0) (went_answered o i x p q s few y a b none t e.1 e.2)
        by (inr some) =
            let same = absent_so x y k p q few o i seat a b s some in
            let e = entered_so x y k p q few o i seat b call z t (reply_in Absent y.room) (kept_so x y k p q few o i seat b s) (subst (λ (c : Answer). Enters y.call y k (reply_in c y.room) z q t) same enter_so) in
            subst (λ (m : ClientState). Went o i Calls x m p t (Answered (suc i) (reply_in a y.room))) (sym e.0)
            (subst (λ (c : Answer). Went o i Calls x (record y { call = None; number = suc y.number }) p t (Answered (suc i) (reply_in c y.room))) (sym same)
            (went_missed o i x p q s few y some (subst (λ (c : Answer). Accesses i x y p q (Done c)) same b) t e.1 e.2))

    answered_ends : Accesses i x y p q (Done a) → Stands o p i x Ends → Went o i Ends x z p t (Answered (suc i) (reply_in a y.room))
    answered_ends b s =
        let none : y.call ≡ None = ap (λ (c : ClientState). c.call) b.rest ∙ s.phase.2 in
        let e = subst (λ (c : Option Call). Enters c y k (reply_in a y.room) z q t) none enter_so in
        subst (λ (m : ClientState). Went o i Ends x m p t (Answered (suc i) (reply_in a y.room))) (sym e.0)
        (subst (λ (m : Plain). Went o i Ends x (record y { call = None }) p m (Answered (suc i) (reply_in a y.room))) (sym e.1)
        (went_closed o i x p q s few y a b (slot_behind x y k p q few o i seat b s)))

    pub came_done : Accesses i x y p q (Done a) → (noted : Reply) → noted ≡ reply_in a y.room → Went o i f x z p t (Answered k noted)
    came_done b noted also = subst (λ (n : ℕ). Went o i f x z p t (Answered n noted)) seat (subst (λ (r : Reply). Went o i f x z p t (Answered (suc i) r)) (sym also) (by b.went.turns))
      where
        by : IsOpen x.node.caller.under ⊎ (HasCommitted x.node.caller.under × (reply_in a y.room ≡ reply_of (new_tag x.node.caller.under) call)) → Went o i f x z p t (Answered (suc i) (reply_in a y.room))
        by (inl way) = on_calls o i x p (λ g. Went o i g x z p t (Answered (suc i) (reply_in a y.room))) f own st way (answered_calls b)
        by (inr behind) = on_ends o i x p (λ g. Went o i g x z p t (Answered (suc i) (reply_in a y.room))) f own st behind.0 (answered_ends b)

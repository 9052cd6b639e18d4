-- What a client remembers behind an access of its own: an answer sets the cursor of its call's slot, if it ended at a tag, and nothing else sets one.
use Prim.Native.Nat.{suc}
use Rattle.std.proofs.Common.{◌≡◌, ◌≢◌, ℕ, ◌==◌, List, [], ◌∷◌, Bool, true, false, inl, inr, refl, sym, ap, ◌∙◌, subst, eq-eqb}
use Rattle.std.specs.Prelude.{Option, Some, ◌⊎◌, if◌then◌else◌}
use Rattle.clover_words.specs.Tag.{tag_number}
use Rattle.clover_words.specs.declared.bytes.ValueBuf.{ValueBuf}
use Rattle.clover_words.specs.declared.pool.Pool.{Pool}
use Rattle.clover_map.specs.History.{key_of}
use Rattle.clover_map.specs.declared.call.Call.{Call}
use Rattle.clover_map.specs.declared.call.Call.TheVariants.{Get as GetOf, Put as PutOf, Delete as DeleteOf, Swap as SwapOf}
use Rattle.clover_map.specs.declared.call.Reply.{Reply}
use Rattle.clover_map.specs.declared.call.Reply.TheVariants.{Absent}
use Rattle.clover_script.specs.declared.line.Task.{Task}
use Rattle.clover_script.specs.declared.line.Task.TheVariants.{Client as ClientTask}
use Rattle.clover_rule.specs.Lists.{Within}
use Rattle.clover_rule.specs.Names.{KeysOnce}
use Rattle.clover_rule.specs.declared.access.Access.{Access}
use Rattle.clover_rule.specs.declared.access.Act.{Act}
use Rattle.clover_rule.specs.declared.view.View.{View}
use Rattle.clover_plain.specs.Plain.{Plain, view_at}
use Rattle.clover_cache.specs.Node.{Known}
use Rattle.clover_walk.specs.Walking.{key_at}
use Rattle.clover_call.specs.Caller.{CallHolds, slot_of}
use Rattle.clover_call.specs.declared.under.Underway.{Underway}
use Rattle.clover_call.specs.declared.under.Underway.TheVariants.{Nothing as NoCall, Get as GetUnder, Write as WriteUnder}
use Rattle.clover_node.specs.Node.{NodeState, IsAsked, IsUnder}
use Rattle.clover_node.specs.declared.counting.Counting.{Counting}
use Rattle.clover_event.proofs.Bound.{AreBindings}
use Rattle.clover_event.proofs.Remembering.{key_of_call}
use Rattle.clover_run.specs.Client.{Phase, Stands, IsOwnPhase, Matches, IsOf, IsKeptOrSet, SetsCursor, Remembers, Went, call_at}
use Rattle.clover_run.specs.Ends.{end_tags, ended_by, with_end}
use Rattle.clover_run.specs.Run.{Opening, Standing, IsCause, IsCounting, counted}
use Rattle.clover_run.specs.declared.client.ClientState.{ClientState}
use Rattle.clover_run.specs.declared.event.Note.{Note}
use Rattle.clover_run.specs.declared.event.Note.TheVariants.{Quiet, Waits, Answered, Refused, Full, NoSlot, Granted, Recycled, Unlinked, Unbound, Swept, Unreached, Busy, Missing}
use Rattle.clover_run.proofs.Dues.{is_called, own_task}
use Rattle.clover_run.proofs.Goes.{counts_none}
use Rattle.clover_run.proofs.Names.{are_bindings}
use Rattle.clover_run.proofs.Remembering.{remembers_set}

-- the slot is bound to the call's key
abbrev IsOn : List (ℕ × List ℕ) → ℕ → Call → Type 0
IsOn names s call = (key_at names s ≡ key_of call) × Within (s, key_at names s) names

-- what is under way on a slot is a call on the slot's key
under_on : (p : Pool) (n : NodeState) (v : View) (call : Call) (room : ValueBuf) → n.caller.under ≢ NoCall → CallHolds p n.caller.under v room → IsUnder n.caller.under v call → v.pass.names ≡ n.names → IsOn n.names (slot_of n.caller.under) call
under_on p n v call room called knows is same = subst (λ (l : List (ℕ × List ℕ)). IsOn l (slot_of n.caller.under) call) same (go n.caller.under called knows is)
  where
    go : (u : Underway) → u ≢ NoCall → CallHolds p u v room → IsUnder u v call → IsOn v.pass.names (slot_of u) call
    go NoCall called knows is = absurd (called refl)
    go (GetUnder g) called knows is = (ap key_of is, knows.1.walk.named)
    go (WriteUnder c) called knows is = (sym (key_of_call c.job (key_at v.pass.names c.walk.slot) c.value) ∙ ap key_of is, knows.1.walk.named)

-- who is answered by the note is this client
abbrev pub AnswersOnly : ℕ → Note → Type 0
AnswersOnly a note = (b : ℕ) (reply : Reply) → note ≡ Answered b reply → b ≡ a

-- and it ends at a tag only where the slot is bound to the call's key
abbrev pub EndsOn : Act → Note → Type 0 → Type 0
EndsOn act note P = (b : ℕ) (reply : Reply) → note ≡ Answered b reply → end_tags reply act ≢ [] → P

module _ (names : List (ℕ × List ℕ)) (are : AreBindings names) (c s : ℕ) (call : Call) (written : ℕ) (x : Access) (k n : Known) (h : List (List ℕ × ℕ)) (r : Remembers names k h) where
  stays : n ≡ k → Remembers names n h
  stays e = subst (λ (y : Known). Remembers names y h) (sym e) r

  ends_at : (ts : List ℕ) → IsKeptOrSet ts s k n → (ts ≢ [] → IsOn names s call) → Remembers names n (with_end (key_of call) ts h)
  ends_at [] e on = stays e
  ends_at (t ∷ ts) (tag, same, set) on =
      let o = on (λ e. cc) in
      let pair : (key_at names s, tag_number tag) ∷ h ≡ (key_of call, t) ∷ h = (λ i. (o.0 i, sym same i) ∷ h) in
      subst (Remembers names n) pair (remembers_set names are s tag k n h o.1 set r)

  -- a client that made an access of its call
  pub remembers_step : (note : Note) → AnswersOnly c note → EndsOn x.act note (IsOn names s call) → SetsCursor s x.act note k n → Remembers names n (ended_by c (Some (ClientTask call written)) note (Some x) h)
  remembers_step Quiet only on sets = stays sets
  remembers_step Waits only on sets = stays sets
  remembers_step (Answered b reply) only on sets = subst (λ (z : Bool). Remembers names n (if z then with_end (key_of call) (end_tags reply x.act) h else h)) (sym (eq-eqb b c (only b reply refl))) (ends_at (end_tags reply x.act) sets (on b reply refl))
  remembers_step (Refused b why) only on sets = stays sets
  remembers_step (Full b bound worn out) only on sets = stays sets
  remembers_step (NoSlot b) only on sets = stays sets
  remembers_step (Granted b added) only on sets = stays sets
  remembers_step (Recycled t) only on sets = stays sets
  remembers_step Unlinked only on sets = stays sets
  remembers_step Unbound only on sets = stays sets
  remembers_step (Swept count) only on sets = stays sets
  remembers_step Unreached only on sets = stays sets
  remembers_step (Busy b) only on sets = stays sets
  remembers_step (Missing b) only on sets = stays sets

-- an answer by the count ends at no tag
count_ends : (st : Standing) (call : Call) (act : Act) (b : ℕ) (reply : Reply) → IsCounting st call act (Answered b reply) → end_tags reply act ≡ []
count_ends st call act b reply (count, load, is) = by_call call is
  where
    absent : reply ≡ Absent → end_tags reply act ≡ []
    absent e = (λ i. end_tags (e i) (load i))

    by_test : (z : Bool) → Answered b reply ≡ (if z then Answered st.actor Absent else Quiet) → reply ≡ Absent
    by_test true e = cc
    by_test false e = absurd cc

    by_call : (w : Call) → Answered b reply ≡ counted w st.actor st.does.known count → end_tags reply act ≡ []
    by_call (GetOf key) e = absent (by_test (st.does.known == count) e)
    by_call (PutOf key value) e = absurd cc
    by_call (DeleteOf key) e = absent (by_test (st.does.known == count) e)
    by_call (SwapOf key expected value) e = absent (by_test (st.does.known == count) e)

module _ (o : Opening) (i : ℕ) (f : Phase) (x y : ClientState) (p q : Plain) (note : Note) (w : Went o i f x y p q note) (s : Stands o p i x f) (own : IsOwnPhase f) (st : Standing) (of : IsOf i x p st) (m : Matches x (view_at p i) f st.does) where
  abbrev v : View
  v = view_at p i

  abbrev call : Call
  call = call_at x v

  -- a note that answers is of an access that was made
  answer_made : (b : ℕ) (reply : Reply) → note ≡ Answered b reply → w.access.refused ≡ false
  answer_made b reply e = go w.access.refused refl
    where
      go : (z : Bool) → w.access.refused ≡ z → w.access.refused ≡ false
      go false is = is
      go true is = let both = sym e ∙ ((w.follows st of m).0.unreached is).0 in absurd cc

  answers : AnswersOnly (suc i) note
  answers b reply e = (subst (IsCause o.setup.pool st w.entry w.access.act) e ((w.follows st of m).0.cause (answer_made b reply e))).0 ∙ of.actor

  ends_on : EndsOn w.access.act note (IsOn x.node.names (slot_of x.node.caller.under) call)
  ends_on b reply e some = go (is_called x.node.caller.under)
    where
      go : (x.node.caller.under ≡ NoCall) ⊎ (x.node.caller.under ≢ NoCall) → IsOn x.node.names (slot_of x.node.caller.under) call
      go (inl none) = absurd (some (count_ends st call w.access.act b reply (subst (IsCounting st call w.access.act) e (w.counts none (answer_made b reply e) st of m))))
      go (inr called) = under_on x.node.caller.pool x.node v call x.room called s.holds.caller.call (subst (λ (c : Counting). IsAsked c x.node v call) (counts_none x.node call v called s.holds.asked) s.holds.asked) s.holds.names

  -- the client remembers what the records tell of its answers
  pub went_remembers : KeysOnce x.node.names → Remembers x.node.names x.node.caller.cursors st.ended → Remembers y.node.names y.node.caller.cursors (ended_by (suc i) st.does.task note (Some w.access) st.ended)
  went_remembers keys r =
      let task = own_task f x v st.does own m.doing in
      let behind = remembers_step x.node.names (are_bindings x.node.names s.holds.once keys) (suc i) (slot_of x.node.caller.under) call task.0 w.access x.node.caller.cursors y.node.caller.cursors st.ended r note answers ends_on w.cursor in
      subst (λ (l : List (ℕ × List ℕ)). Remembers l y.node.caller.cursors (ended_by (suc i) st.does.task note (Some w.access) st.ended)) (sym w.names)
      (subst (λ (t : Option Task). Remembers x.node.names y.node.caller.cursors (ended_by (suc i) t note (Some w.access) st.ended)) (sym task.1) behind)

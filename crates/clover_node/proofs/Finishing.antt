-- A call that is made at once: what holds of it behind each step, that its steps end, and what it came to.
use Prim.Native.Nat.{suc}
use Rattle.std.proofs.Common.{◌≡◌, ℕ, ◌+◌, ◌-◌, ◌≤◌, ◌<◌, mul-le-mul_right, List, [], ◌∷◌, ◌++◌, length, ◌⊎◌, inl, inr, Bool, true, false, cond, refl, sym, ap, ◌∙◌, subst, arith}
use Rattle.std.specs.Prelude.{Option}
use Rattle.clover_words.specs.declared.bytes.ValueBuf.{ValueBuf}
use Rattle.clover_words.specs.declared.pool.Pool.{Pool}
use Rattle.clover_words.specs.Tag.{TagParts}
use Rattle.clover_map.specs.declared.call.Call.{Call}
use Rattle.clover_map.specs.declared.call.Reply.{Reply}
use Rattle.clover_rule.specs.Steps.{Step, act_of, number_of, reply_of}
use Rattle.clover_rule.specs.declared.access.Act.{Act}
use Rattle.clover_rule.specs.declared.view.Role.TheVariants.{Client}
use Rattle.clover_rule.specs.declared.view.View.{View}
use Rattle.clover_rule.proofs.Tools.{length_snoc}
use Rattle.clover_port.specs.Told.{Open, Made}
use Rattle.clover_walk.specs.Walking.{budget, most_accesses}
use Rattle.clover_walk.proofs.Endings.{stepped}
use Rattle.clover_put.specs.Answering.{IsBefore}
use Rattle.clover_put.specs.Holding.{Fills}
use Rattle.clover_put.specs.Putting.{Putting, Stage, Storing, Flushing, Seeking, AtMeta, AtLink, Deciding, AtBad, AtRaise, AtShort, Over}
use Rattle.clover_call.specs.Caller.{CallHolds, HasCommitted, is_first, new_tag}
use Rattle.clover_call.specs.Turning.{reply_in}
use Rattle.clover_call.specs.declared.answer.Answer.{Answer}
use Rattle.clover_call.specs.declared.under.Underway.{Underway}
use Rattle.clover_call.specs.declared.under.Underway.TheVariants.{Nothing, Get, Write}
use Rattle.clover_node.specs.Going.{GoesFar, IsOpen, NodeWent, with_entry}
use Rattle.clover_node.specs.Node.{NodeState, NodeHolds, IsAsked, IsIdle, first_of, node_first}
use Rattle.clover_node.proofs.OnSlot.{open_apart}
use Rattle.clover_node.specs.Trying.{Adds, Finished, most_of, spent}
use Rattle.clover_node.specs.Turning.{OnGoing, OnMade}
use Rattle.clover_node.specs.declared.answer.NodeRefusal.{NodeRefusal}
use Rattle.clover_node.specs.declared.answer.NodeRefusal.TheVariants.{Unreached, Behind, Linked, TooLong, NeedsStock, NeedsNames}
use Rattle.clover_node.specs.declared.answer.NodeTurn.{NodeTurn}
use Rattle.clover_node.specs.declared.answer.NodeTurn.TheVariants.{More, Decided, Done, Refused}
use Rattle.clover_node.specs.declared.counting.Counting.{Counting}
use Rattle.clover_node.specs.declared.counting.Counting.TheVariants.{No, Names, Absence}

-- what the steps so far have added: nothing, or the call with the reply of its commit
abbrev pub Since : Underway → Call → View → View → Type 0
Since x call v0 v = (IsOpen x × (v.pass.calls ≡ v0.pass.calls)) ⊎ (HasCommitted x × (v.pass.calls ≡ with_entry v0 call (reply_of (new_tag x) call)))

-- what holds between two steps of a call that began where its client's view was v0
pub record IsUnderway (call : Call) (v0 : View) (n : NodeState) (v : View) (room : ValueBuf) : Type 0 where
  pub busy : IsIdle n → ⊥
  pub holds : NodeHolds n call v room
  pub role : v.pass.role ≡ v0.pass.role
  pub since : Since n.caller.under call v0 v
  pub few : spent n v ≤ most_of n.caller.pool

fresh_stage : (s : Stage) (c : Putting) (v : View) → Fills s c v → c.walk.first ≡ true → IsBefore s
fresh_stage (Storing j) c v f e = tt
fresh_stage (Flushing j) c v f e = tt
fresh_stage Seeking c v f e = tt
fresh_stage (AtMeta u) c v f e = tt
fresh_stage (AtLink u) c v f e = tt
fresh_stage (Deciding u r) c v f e = tt
fresh_stage (AtBad u) c v f e = tt
fresh_stage (AtRaise u) c v f e = let z = sym e ∙ f in absurd cc
fresh_stage AtShort c v f e = let z = sym e ∙ f in absurd cc
fresh_stage Over c v f e = absurd f

-- a call that has made no access has committed nothing
fresh_open : (p : Pool) (u : Underway) (v : View) (room : ValueBuf) → CallHolds p u v room → is_first u ≡ true → IsOpen u
fresh_open p Nothing v room h e = tt
fresh_open p (Get g) v room h e = tt
fresh_open p (Write c) v room h e = fresh_stage c.stage c v h.1.fills e

fresh_at : (c : Counting) (n : NodeState) (v : View) (call : Call) (room : ValueBuf) → CallHolds n.caller.pool n.caller.under v room → IsAsked c n v call → first_of c n ≡ true → IsOpen n.caller.under
fresh_at No n v call room h asked e = fresh_open n.caller.pool n.caller.under v room h e
fresh_at Names n v call room h asked e = subst IsOpen (sym asked.idle) tt
fresh_at Absence n v call room h asked e = subst IsOpen (sym asked.idle) tt

none_spent : (b : Bool) (m k : ℕ) → b ≡ true → cond b 0 m ≤ k
none_spent true m k e = omega arith
none_spent false m k e = absurd cc

-- it holds as the call begins
pub begins : (n : NodeState) (call : Call) (v : View) (room : ValueBuf) → (IsIdle n → ⊥) → node_first n ≡ true → NodeHolds n call v room → IsUnderway call v n v room
begins n call v room busy first holds = record {
  busy = busy;
  holds = holds;
  role = refl;
  since = inl (fresh_at n.counting n v call room holds.caller.call holds.asked first, refl);
  few = none_spent (node_first n) (length v.pass.since) (most_of n.caller.pool) first;
}

-- the same entry of the same own calls
same_entry : (v v0 : View) (call : Call) (r : Reply) → v.pass.role ≡ v0.pass.role → v.pass.calls ≡ v0.pass.calls → with_entry v call r ≡ with_entry v0 call r
same_entry v v0 call r role calls = λ i. calls i ++ record { client = number_of (role i); number = suc (length (calls i)); call = call; reply = r } ∷ []

later_spent : (b : Bool) (m : ℕ) → b ≡ false → cond b 0 m ≡ m
later_spent true m e = absurd cc
later_spent false m e = refl

-- more turns allow more accesses
most_rises : (p : Pool) (m turns : ℕ) → m ≤ most_accesses p turns → turns < budget p → m ≤ most_of p
most_rises p m turns few ahead = let more = mul-le-mul_right {m = turns + 1} {n = budget p + 1} (p.words + 5) (omega arith) in omega arith

long_since : (b : Bool) (xs : List Act) → length (cond b [] xs) ≡ cond b 0 (length xs)
long_since true xs = refl
long_since false xs = refl

module _ (call : Call) (v0 : View) (n : NodeState) (v : View) (room : ValueBuf) (under : IsUnderway call v0 n v room) (o : Option Open) (n1 : NodeState) (w : View) (o1 : Option Open) (room1 : ValueBuf) where
  abbrev x : Underway
  x = n.caller.under

  role_on : (t : NodeTurn) → NodeWent n call room1 v o n1 w o1 t → NodeHolds n1 call w room1 → w.pass.role ≡ v0.pass.role
  role_on t went holds = holds.role ∙ ap (λ (m : NodeState). Client m.client) went.kept ∙ sym under.holds.role ∙ under.role

  more_since : NodeWent n call room1 v o n1 w o1 More → Since n1.caller.under call v0 w
  more_since went = by went.turns.0 under.since
    where
      by : (IsOpen x × IsOpen n1.caller.under) ⊎ (HasCommitted x × HasCommitted n1.caller.under) → Since x call v0 v → Since n1.caller.under call v0 w
      by (inl b) (inl s) = inl (b.1, went.enters ∙ s.1)
      by (inl b) (inr s) = absurd (open_apart x b.0 s.0)
      by (inr b) (inl s) = absurd (open_apart x s.0 b.0)
      by (inr b) (inr s) = inr (b.1, went.enters ∙ s.1 ∙ ap (λ (t : ℕ). with_entry v0 call (reply_of t call)) (sym went.turns.1))

  -- behind a commit the own calls have the call
  decided_since : (a : Answer) → NodeWent n call room1 v o n1 w o1 (Decided a) → Since n1.caller.under call v0 w
  decided_since a went = by under.since
    where
      by : Since x call v0 v → Since n1.caller.under call v0 w
      by (inl s) = inr (went.turns.1, went.enters ∙ same_entry v v0 call (reply_in a room1) under.role s.1 ∙ ap (λ (r : Reply). with_entry v0 call r) (went.turns.3 ∙ ap (λ (t : ℕ). reply_of t call) (sym went.turns.2)))
      by (inr s) = absurd (open_apart x went.turns.0 s.0)

  on_by : (t : NodeTurn) → NodeWent n call room1 v o n1 w o1 t → NodeHolds n1 call w room1 → GoesFar n1 w → Since n1.caller.under call v0 w → IsUnderway call v0 n1 w room1
  on_by t went holds far since = record {
    busy = far.busy;
    holds = holds;
    role = role_on t went holds;
    since = since;
    few = subst (λ (m : ℕ). m ≤ most_of n1.caller.pool) (sym (later_spent (node_first n1) (length w.pass.since) far.later)) (most_rises n1.caller.pool (length w.pass.since) w.pass.turns far.bound far.ahead);
  }

  -- it holds behind a step that goes on
  goes_more : NodeWent n call room1 v o n1 w o1 More → NodeHolds n1 call w room1 → IsUnderway call v0 n1 w room1
  goes_more went holds = on_by More went holds went.going (more_since went)

  goes_decided : (a : Answer) → NodeWent n call room1 v o n1 w o1 (Decided a) → NodeHolds n1 call w room1 → IsUnderway call v0 n1 w room1
  goes_decided a went holds = on_by (Decided a) went holds went.going (decided_since a went)

  -- and the accesses that are left are fewer
  fewer : (p : Pool) (step : Step) (k : ℕ) (t : NodeTurn) → Made p step (node_first n) v o k w o1 → NodeWent n call room1 v o n1 w o1 t → GoesFar n1 w → suc (most_of n1.caller.pool) - spent n1 w < suc (most_of n.caller.pool) - spent n v
  fewer p step k t made went far =
      let since = (stepped p step (node_first n) v o k w o1 made).since in
      let long = ap length since ∙ length_snoc (act_of step k) (cond (node_first n) [] v.pass.since) ∙ ap suc (long_since (node_first n) v.pass.since) in
      let now = later_spent (node_first n1) (length w.pass.since) far.later in
      let pools = ap most_of went.pool in
      let few = under.few in
      omega arith

  -- what it came to
  adds_done : (a : Answer) → NodeWent n call room1 v o n1 w o1 (Done a) → Adds (Done a) call room1 v0 w
  adds_done a went = by went.turns under.since
    where
      by : IsOpen x ⊎ (HasCommitted x × (reply_in a room1 ≡ reply_of (new_tag x) call)) → Since x call v0 v → Adds (Done a) call room1 v0 w
      by (inl b) (inl s) = went.enters.1 b ∙ same_entry v v0 call (reply_in a room1) under.role s.1
      by (inl b) (inr s) = absurd (open_apart x b s.0)
      by (inr b) (inl s) = absurd (open_apart x s.0 b.0)
      by (inr b) (inr s) = went.enters.0 b.0 ∙ s.1 ∙ ap (λ (r : Reply). with_entry v0 call r) (sym b.1)

  adds_none : IsOpen x → w.pass.calls ≡ v.pass.calls → w.pass.calls ≡ v0.pass.calls
  adds_none b e = by under.since
    where
      by : Since x call v0 v → w.pass.calls ≡ v0.pass.calls
      by (inl s) = e ∙ s.1
      by (inr s) = absurd (open_apart x b s.0)

  adds_linked : (t : TagParts) → NodeWent n call room1 v o n1 w o1 (Refused (Linked t)) → Adds (Refused (Linked t)) call room1 v0 w
  adds_linked t went = by under.since
    where
      by : Since x call v0 v → Adds (Refused (Linked t)) call room1 v0 w
      by (inl s) = absurd (open_apart x s.0 went.turns.0)
      by (inr s) = went.enters ∙ s.1 ∙ ap (λ (y : ℕ). with_entry v0 call (reply_of y call)) (sym went.turns.1)

  pub finished_done : (a : Answer) → NodeWent n call room1 v o n1 w o1 (Done a) → Finished call v0 room1 n1 w o1 (Done a)
  finished_done a went = record { last = record { node = n; view = v; told = o; went = went }; adds = adds_done a went }

  pub finished_refused : (y : NodeRefusal) → NodeWent n call room1 v o n1 w o1 (Refused y) → Finished call v0 room1 n1 w o1 (Refused y)
  finished_refused Unreached went = record { last = record { node = n; view = v; told = o; went = went }; adds = adds_none went.turns went.enters }
  finished_refused (Behind turns) went = record { last = record { node = n; view = v; told = o; went = went }; adds = adds_none went.turns went.enters }
  finished_refused (Linked t) went = record { last = record { node = n; view = v; told = o; went = went }; adds = adds_linked t went }
  finished_refused (TooLong length room) went = record { last = record { node = n; view = v; told = o; went = went }; adds = adds_none went.turns went.enters }
  finished_refused NeedsStock went = record { last = record { node = n; view = v; told = o; went = went }; adds = adds_none went.turns went.enters }
  finished_refused (NeedsNames known bound) went = record { last = record { node = n; view = v; told = o; went = went }; adds = adds_none went.turns went.enters }

  -- a call that goes on
  goes_far : (t : NodeTurn) → OnGoing t (GoesFar n1 w) → (t ≡ More) ⊎ ((a : Answer) × (t ≡ Decided a)) → GoesFar n1 w
  goes_far t far (inl e) = subst (λ (u : NodeTurn). OnGoing u (GoesFar n1 w)) e far
  goes_far t far (inr (a, e)) = subst (λ (u : NodeTurn). OnGoing u (GoesFar n1 w)) e far

  pub goes_on : (t : NodeTurn) → (t ≡ More) ⊎ ((a : Answer) × (t ≡ Decided a)) → NodeWent n call room1 v o n1 w o1 t → NodeHolds n1 call w room1 → IsUnderway call v0 n1 w room1
  goes_on t (inl e) went holds = goes_more (subst (λ (u : NodeTurn). NodeWent n call room1 v o n1 w o1 u) e went) holds
  goes_on t (inr (a, e)) went holds = goes_decided a (subst (λ (u : NodeTurn). NodeWent n call room1 v o n1 w o1 u) e went) holds

  pub goes_fewer : (p : Pool) (step : Step) (k : ℕ) (t : NodeTurn) → (t ≡ More) ⊎ ((a : Answer) × (t ≡ Decided a)) → Made p step (node_first n) v o k w o1 → NodeWent n call room1 v o n1 w o1 t → suc (most_of n1.caller.pool) - spent n1 w < suc (most_of n.caller.pool) - spent n v
  goes_fewer p step k t is made went = fewer p step k t made went (goes_far t went.going is)

-- where a call goes on its access was made
pub made_on : {A : Type 0} (t : NodeTurn) → (t ≡ More) ⊎ ((a : Answer) × (t ≡ Decided a)) → OnMade t A → A
made_on {A} t (inl e) h = subst (λ (u : NodeTurn). OnMade u A) e h
made_on {A} t (inr (a, e)) h = subst (λ (u : NodeTurn). OnMade u A) e h

-- where no call is under way nothing is said of a room
pub any_room : (n : NodeState) (call : Call) (v : View) (room other : ValueBuf) → IsIdle n → NodeHolds n call v room → NodeHolds n call v other
any_room n call v room other idle h = record {
  role = h.role;
  stock = h.stock;
  names = h.names;
  tags = h.tags;
  slots = h.slots;
  once = h.once;
  caller = record { pool = h.caller.pool; client = h.caller.client; cursors = h.caller.cursors; call = subst (λ (u : Underway). CallHolds n.caller.pool u v other) (sym idle.calls) tt };
  asked = h.asked;
}

-- What an access of a node's call over a small pool leaves of the pool, the client and the call.
use Rattle.std.proofs.Common.{◌≡◌, ℕ, ◌≤◌, ◌==◌, List, [], ◌∷◌, ◌++◌, append-nil, length, get_or, Bool, true, false, cond, refl, sym, ap, ◌∙◌, subst, ◌⊎◌, inl, inr}
use Rattle.std.specs.Prelude.{Option, Some, None}
use Prim.Native.Nat.{suc}
use Rattle.std.proofs.lemmas.List.{get_or-set_other, length-set}
use Rattle.std.proofs.lemmas.Option.{same_Some}
use Rattle.clover_words.specs.declared.bytes.ValueBuf.{ValueBuf}
use Rattle.clover_words.specs.declared.setup.Setup.{Setup}
use Rattle.clover_words.specs.Version.{unlinked}
use Rattle.clover_map.specs.declared.call.Call.{Call}
use Rattle.clover_map.specs.declared.call.Entry.{Entry}
use Rattle.clover_map.specs.declared.call.Reply.{Reply}
use Rattle.clover_map.specs.declared.call.Reply.TheVariants.{Absent}
use Rattle.clover_port.specs.Told.{Open, Made, opened}
use Rattle.clover_rule.specs.Knowing.{link_entry, link_view}
use Rattle.clover_rule.specs.Learned.{next_view, next_history, learned, looked, seen, started, decided, missed, counts, rest_of}
use Rattle.clover_rule.specs.Memory.{Next, word}
use Rattle.clover_rule.specs.Moves.{nobody}
use Rattle.clover_rule.specs.Rule.{longest}
use Rattle.clover_rule.specs.Steps.{Step, LoadNext, DecideNext, LinkNext, ReadRoot, ReadShort, AbsentCount, ReadVersion, client, number_of, reply_of}
use Rattle.clover_rule.specs.Words.{next_of, root_of}
use Rattle.clover_rule.specs.declared.view.Role.TheVariants.{Client}
use Rattle.clover_rule.specs.declared.view.View.{View}
use Rattle.clover_plain.specs.Plain.{Plain, HasRoom, Kept, Stepped, history, open_of, view_at}
use Rattle.clover_call.specs.Caller.{HasCommitted}
use Rattle.clover_call.specs.Turning.{reply_in}
use Rattle.clover_node.specs.Going.{IsOpen, NodeWent, stock_behind, with_entry}
use Rattle.clover_node.specs.Node.{NodeState, NodeHolds, node_first, node_step}
use Rattle.clover_node.specs.declared.answer.NodeTurn.{NodeTurn}
use Rattle.clover_node.specs.declared.answer.NodeTurn.TheVariants.{More, Decided, Done, Refused}
use Rattle.clover_node.specs.declared.counting.Counting.TheVariants.{No}
use Rattle.clover_node.proofs.OnSlot.{open_apart}
use Rattle.clover_pools.specs.Calls.{Acted, Adds, Leaves, LeavesServer, Serves, next_entry}
use Rattle.clover_pools.specs.Small.{HasSmallNumbers}

abbrev calls : View → List Entry
calls v = v.pass.calls

-- what a step adds to the history h and to the calls of its client
abbrev Grows : List Entry → View → List Entry → View → Type 0
Grows h v h1 w = (es : List Entry) × (h1 ≡ h ++ es) × (calls w ≡ calls v ++ es)

grows_none : (h : List Entry) (v w : View) → calls w ≡ calls v → Grows h v h w
grows_none h v w e = ([], sym (append-nil h), e ∙ sym (append-nil (calls v)))

grows_choice : (b : Bool) (h : List Entry) (e : Entry) (v w u : View) → calls w ≡ calls v ++ e ∷ [] → calls u ≡ calls v → Grows h v (cond b (h ++ e ∷ []) h) (cond b w u)
grows_choice true h e v w u one none = (e ∷ [], refl, one)
grows_choice false h e v w u one none = grows_none h v u none

calls_seen : (s t : ℕ) (v : View) (n : Next) → calls (seen s t v n) ≡ calls v
calls_seen s t v (word a None) = refl
calls_seen s t v (word a (Some u)) = refl

calls_started : (s : ℕ) (v : View) (o : Option ℕ) → calls (started s v o) ≡ calls v
calls_started s v None = refl
calls_started s v (Some t) = refl

calls_looked : (s r : ℕ) (v : View) (n : Next) → calls (looked s r v n) ≡ calls v
calls_looked s r v (word a None) = refl
calls_looked s r v (word a (Some t)) = refl

-- a client enters in its own calls what its step adds to the history
grows : (a : Step) (h : List Entry) (v : View) (x : ℕ) → Grows h v (next_history a h v x) (learned a h v x)
grows (LoadNext s t) h v x = grows_none h v (seen s t v (next_of x)) (calls_seen s t v (next_of x))
grows (DecideNext s t c r) h v x = grows_choice (x == unlinked t) h (link_entry v (client v) c r) v (decided v h t c r) (seen s t v (next_of x)) refl (calls_seen s t v (next_of x))
grows (LinkNext s u t c) h v x = grows_choice (x == unlinked u) h (link_entry v (client v) c (reply_of t c)) v (link_view v h (client v) s u t c (reply_of t c) (rest_of v.pass.stock)) (seen s u v (next_of x)) refl (calls_seen s u v (next_of x))
grows (ReadRoot s) h v x = grows_none h v (started s v (root_of x)) (calls_started s v (root_of x))
grows (ReadShort s) h v x = grows_none h v (started s v (root_of x)) (calls_started s v (root_of x))
grows (AbsentCount c) h v x = grows_choice (x == length v.pass.names) h (link_entry v (client v) c Absent) v (missed v h c x) (counts v x) refl refl
grows (ReadVersion s r) h v x = grows_none h v (looked s r v (next_of x)) (calls_looked s r v (next_of x))
grows a h v x = grows_none h v (learned a h v x) refl

-- so that a client whose calls are the history stays the only one
only_grows : (a : Step) (b : Bool) (h : List Entry) (v : View) (x : ℕ) → calls v ≡ h → calls (next_view b a h v x) ≡ next_history a h v x
only_grows a b h v x e = let g = grows a h v x in g.2 ∙ ap (λ (l : List Entry). l ++ g.0) e ∙ sym g.1

-- the entry of the only client's call is the next one
entry_is : (v : View) (h : List Entry) (call : Call) (r : Reply) → v.pass.role ≡ Client 1 → calls v ≡ h → with_entry v call r ≡ h ++ next_entry h call r ∷ []
entry_is v h call r role own = λ i. own i ++ record { client = number_of (role i); number = suc (length (own i)); call = call; reply = r } ∷ []

-- an access through a client's port, as the pool and the node tell it
pub record Told (n n1 : NodeState) (call : Call) (room room1 : ValueBuf) (t : NodeTurn) (l : Bool) (x : ℕ) (p : Plain) (s : ℕ) (q : Plain) (s1 : ℕ) : Type 0 where
  pub stepped : Stepped (node_step n call (view_at p s) room) (node_first n) l s x p q
  pub made : Made p.setup.pool (node_step n call (view_at p s) room) (node_first n) (view_at p s) (Some (open_of p)) x (view_at q s1) (Some (open_of q))
  pub went : NodeWent n call room1 (view_at p s) (Some (open_of p)) n1 (view_at q s1) (Some (open_of q)) t
  pub holds : NodeHolds n1 call (view_at q s1) room1

module _ (n n1 : NodeState) (call : Call) (room room1 : ValueBuf) (t : NodeTurn) (l : Bool) (x : ℕ) (p p0 q : Plain) (serves : Serves p n call room) (kept : Kept p p0) (free : HasRoom p0) (told : Told n n1 call room room1 t l x p0 0 q 0) where
  abbrev step : Step
  step = node_step n call (view_at p0 0) room

  same_view : view_at p0 0 ≡ view_at p 0
  same_view = ap (λ (vs : List View). get_or vs 0 nobody) kept.views

  same_history : history p0 ≡ history p
  same_history = λ i. longest (kept.views i ++ kept.absent i)

  own0 : calls (view_at p0 0) ≡ history p0
  own0 = ap calls same_view ∙ serves.only.own ∙ sym same_history

  same_server : LeavesServer p q
  same_server = record {
    setup = told.stepped.same.setup ∙ kept.setup;
    seats = ap length told.stepped.views ∙ length-set p0.views 0 (next_view (node_first n) step (history p0) (view_at p0 0) x) ∙ ap length kept.views;
    server = ap (λ (vs : List View). get_or vs 1 nobody) told.stepped.views ∙ get_or-set_other p0.views 0 1 (next_view (node_first n) step (history p0) (view_at p0 0) x) nobody (λ e. cc) ∙ ap (λ (vs : List View). get_or vs 1 nobody) kept.views;
  }

  next : history q ≡ next_history step (history p0) (view_at p0 0) x
  next = ap (λ (o : Open). o.history) (same_Some (open_of q) (opened p0.setup.pool step (view_at p0 0) x told.made.now) told.made.tells.1) ∙ ap (λ (o : Open). next_history step o.history (view_at p0 0) x) (sym told.made.tells.0)

  own : calls (view_at q 0) ≡ history q
  own =
      ap calls told.made.told.next
      ∙ ap (λ (o : Open). calls (next_view (node_first n) step o.history (view_at p0 0) x)) (sym told.made.tells.0)
      ∙ only_grows step (node_first n) (history p0) (view_at p0 0) x own0
      ∙ sym next

  quiet : calls (view_at q 0) ≡ calls (view_at p0 0) → history q ≡ history p
  quiet e = sym own ∙ e ∙ own0 ∙ same_history

  role : (view_at p0 0).pass.role ≡ Client 1
  role = ap (λ (v : View). v.pass.role) same_view ∙ serves.holds.role ∙ ap Client serves.only.client

  enters : (r : Reply) → calls (view_at q 0) ≡ with_entry (view_at p0 0) call r → history q ≡ history p ++ next_entry (history p) call r ∷ []
  enters r e = sym own ∙ e ∙ entry_is (view_at p0 0) (history p0) call r role own0 ∙ ap (λ (h : List Entry). h ++ next_entry h call r ∷ []) same_history

  abbrev Went : NodeTurn → Type 0
  Went u = NodeWent n call room1 (view_at p0 0) (Some (open_of p0)) n1 (view_at q 0) (Some (open_of q)) u

  adds : (u : NodeTurn) → Went u → Adds u n.caller.under call room1 (history p) (history q)
  adds More went = quiet went.enters
  adds (Decided a) went = enters (reply_in a room1) went.enters
  adds (Done a) went = (λ behind. quiet (went.enters.0 behind), λ before. enters (reply_in a room1) (went.enters.1 before))
  adds (Refused z) went = quiet went.enters

  leaves : (u : NodeTurn) → Went u → Leaves u n.caller.under n1
  leaves More went = (went.going.busy, commits went.turns.0, opens went.turns.0)
    where
      Both : Type 0
      Both = (IsOpen n.caller.under × IsOpen n1.caller.under) ⊎ (HasCommitted n.caller.under × HasCommitted n1.caller.under)

      commits : Both → HasCommitted n.caller.under → HasCommitted n1.caller.under
      commits (inl b) h = absurd (open_apart n.caller.under b.0 h)
      commits (inr b) h = b.1

      opens : Both → IsOpen n.caller.under → IsOpen n1.caller.under
      opens (inl b) h = b.1
      opens (inr b) h = absurd (open_apart n.caller.under h b.0)
  leaves (Decided a) went = (went.going.busy, went.turns.1)
  leaves (Done a) went = went.over
  leaves (Refused z) went = went.over

  pub acted : Acted t call n n1 p q room1
  acted = record {
    opened = told.stepped.same.opened ∙ kept.opened ∙ serves.only.ready.opened;
    free = subst (λ (k : ℕ). 1 ≤ k) (sym told.stepped.same.entry_room) free.entry;
    entries = told.stepped.same.entries ∙ kept.entries;
    same = same_server;
    kept = told.went.kept;
    pool = ap (λ (s : Setup). s.pool) same_server.setup ∙ serves.only.pool ∙ sym told.went.pool;
    holds = told.holds;
    own = own;
    adds = adds t told.went;
    leaves = leaves t told.went;
  }

-- the same as a step of the node through a port tells it
pub acted_so : (n n1 : NodeState) (call : Call) (room room1 : ValueBuf) (t : NodeTurn) (l : Bool) (x : ℕ) (p p0 p1 p2 q : Plain) (s s1 : ℕ) → Serves p n call room → Kept p p0 → HasRoom p0 → p1 ≡ p0 → s ≡ 0 → s1 ≡ s → p2 ≡ q → Told n n1 call room room1 t l x p1 s p2 s1 → Acted t call n n1 p q room1
acted_so n n1 call room room1 t l x p p0 p1 p2 q s s1 serves kept free of at same back told =
    acted n n1 call room room1 t l x p p0 q serves kept free
    (subst (λ (z : Plain). Told n n1 call room room1 t l x p0 0 z 0) back
    (subst (λ (z : Plain). Told n n1 call room room1 t l x z 0 p2 0) of
    (subst (λ (k : ℕ). Told n n1 call room room1 t l x p1 0 p2 k) (same ∙ at)
    (subst (λ (k : ℕ). Told n n1 call room room1 t l x p1 k p2 s1) at told))))

-- accesses of a call that decided nothing lead from the node n0 and the pool p0 to n and p
pub record Since (n0 : NodeState) (p0 : Plain) (n : NodeState) (p : Plain) : Type 0 where
  pub kept : n ≡ record n0 { caller = n.caller; counting = n.counting }
  pub same : LeavesServer p0 p
  pub entries : p.entries ≡ p0.entries
  pub history : history p ≡ history p0
  pub committed : HasCommitted n0.caller.under → HasCommitted n.caller.under
  pub uncommitted : IsOpen n0.caller.under → IsOpen n.caller.under

-- none did
pub since_none : (n : NodeState) (p : Plain) → Since n p n p
since_none n p = record { kept = refl; same = record { setup = refl; seats = refl; server = refl }; entries = refl; history = refl; committed = λ h. h; uncommitted = λ h. h }

module _ (n0 n n1 : NodeState) (p0 p q : Plain) (call : Call) (room1 : ValueBuf) (since : Since n0 p0 n p) where
  adds_since : (t : NodeTurn) → Adds t n.caller.under call room1 (history p) (history q) → Adds t n0.caller.under call room1 (history p) (history q)
  adds_since More a = a
  adds_since (Decided r) a = a
  adds_since (Done r) a = (λ h. a.0 (since.committed h), λ h. a.1 (since.uncommitted h))
  adds_since (Refused y) a = a

  leaves_since : (t : NodeTurn) → Leaves t n.caller.under n1 → Leaves t n0.caller.under n1
  leaves_since More l = (l.0, λ h. l.1 (since.committed h), λ h. l.2 (since.uncommitted h))
  leaves_since (Decided r) l = l
  leaves_since (Done r) l = l
  leaves_since (Refused y) l = l

  -- one more access, said of all of them
  pub acted_since : (t : NodeTurn) → Acted t call n n1 p q room1 → Acted t call n0 n1 p0 q room1
  acted_since t a = record {
    opened = a.opened;
    free = a.free;
    entries = a.entries ∙ since.entries;
    same = record { setup = a.same.setup ∙ since.same.setup; seats = a.same.seats ∙ since.same.seats; server = a.same.server ∙ since.same.server };
    kept = a.kept ∙ ap (λ (m : NodeState). record m { caller = n1.caller; counting = No; stock = stock_behind t m.stock }) since.kept;
    pool = a.pool;
    holds = a.holds;
    own = a.own;
    adds = subst (λ (h : List Entry). Adds t n0.caller.under call room1 h (history q)) since.history (adds_since t a.adds);
    leaves = leaves_since t a.leaves;
  }

-- behind an access that did not end the call it goes on
pub goes_on : (n0 n n1 : NodeState) (p0 p q : Plain) (call : Call) (room room1 : ValueBuf) → Serves p n call room → Since n0 p0 n p → Acted More call n n1 p q room1 → Serves q n1 call room1 × Since n0 p0 n1 q
goes_on n0 n n1 p0 p q call room room1 s since a =
    let b = acted_since n0 n n1 p0 p q call room1 since More a in
    let counts : n1.counting ≡ No = ap (λ (m : NodeState). m.counting) a.kept in (
      record {
        only = record {
          ready = record { opened = a.opened; entered = a.entries ∙ s.only.ready.entered ∙ sym a.adds };
          small = record { numbers = subst HasSmallNumbers (sym a.same.setup) s.only.small.numbers; seats = a.same.seats ∙ s.only.small.seats };
          client = ap (λ (m : NodeState). m.client) a.kept ∙ s.only.client;
          pool = a.pool;
          own = a.own;
        };
        busy = a.leaves.0;
        holds = a.holds;
      },
      record { kept = b.kept ∙ (λ i. record n0 { caller = n1.caller; counting = sym counts i }); same = b.same; entries = b.entries; history = b.adds; committed = b.leaves.1; uncommitted = b.leaves.2 },
    )

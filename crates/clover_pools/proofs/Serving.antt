-- How the client of a small pool starts its calls, and what is due and stands once they are decided.
use Rattle.std.proofs.Common.{◌≡◌, ℕ, List, [], ◌∷◌, ◌++◌, length, get_or, refl, sym, ap, ◌∙◌, subst}
use Rattle.clover_words.specs.declared.bytes.ValueBuf.{ValueBuf}
use Rattle.clover_words.specs.declared.setup.Setup.{Setup}
use Rattle.clover_words.specs.Tag.{TagParts, tag_number}
use Rattle.clover_map.specs.declared.bytes.Value.{Value}
use Rattle.clover_map.specs.declared.call.Call.{Call}
use Rattle.clover_map.specs.declared.call.Reply.{Reply}
use Rattle.clover_map.specs.declared.call.Reply.TheVariants.{Stored as StoredAs, Found as FoundAs, Absent as AbsentAs}
use Rattle.clover_rule.specs.Moves.{nobody}
use Rattle.clover_rule.specs.Rule.{longest}
use Rattle.clover_rule.specs.declared.view.View.{View}
use Rattle.clover_get.specs.Getting.{value_in}
use Rattle.clover_plain.specs.Plain.{Plain, KeptButEntries, history, view_at}
use Rattle.clover_call.specs.Caller.{CallHolds}
use Rattle.clover_call.specs.declared.answer.Answer.TheVariants.{Stored, Found, Absent}
use Rattle.clover_call.specs.declared.under.Underway.{Underway}
use Rattle.clover_node.specs.Beginning.{NodeStarts}
use Rattle.clover_node.specs.Node.{NodeState, NodeHolds, IsAsked, IsIdle, IsUnder}
use Rattle.clover_node.specs.Turning.{OnMade}
use Rattle.clover_node.specs.declared.answer.NodeRefusal.TheVariants.{NeedsNames as LacksNames}
use Rattle.clover_node.specs.declared.answer.NodeTurn.{NodeTurn}
use Rattle.clover_node.specs.declared.answer.NodeTurn.TheVariants.{Decided, Done, Refused}
use Rattle.clover_node.specs.declared.counting.Counting.{Counting}
use Rattle.clover_pools.specs.Calls.{Acted, Came, HasBegun, IsCommitted, IsOnly, LeavesServer, Serves, Stands, next_entry}
use Rattle.clover_pools.specs.Small.{HasSmallNumbers}
use Rattle.clover_pools.specs.Turns.{IsOutcome}
use Rattle.clover_pools.specs.declared.turns.Outcome.{Outcome}
use Rattle.clover_pools.specs.declared.turns.Outcome.TheVariants.{Committed, Stored as StoredOut, Found as FoundOut, Absent as AbsentOut, NeedsNames}

-- a node with no call under way knows what it does of any call
pub holds_any : (n : NodeState) (call other : Call) (v : View) (room room1 : ValueBuf) → IsIdle n → NodeHolds n call v room → NodeHolds n other v room1
holds_any n call other v room room1 idle h = record {
  role = h.role;
  stock = h.stock;
  names = h.names;
  tags = h.tags;
  slots = h.slots;
  once = h.once;
  caller = record { pool = h.caller.pool; client = h.caller.client; cursors = h.caller.cursors; call = subst (λ (u : Underway). CallHolds n.caller.pool u v room1) (sym idle.calls) tt };
  asked = subst (λ (c : Counting). IsAsked c n v other) (sym idle.counts) (subst (λ (u : Underway). IsUnder u v other) (sym idle.calls) tt);
}

-- what a start makes of the node
pub has_begun : (n n1 : NodeState) (call : Call) → NodeStarts n call n1 → HasBegun n n1
has_begun n n1 call s = record { kept = s.kept; uncommitted = s.uncommitted }

-- and that the call may go on
pub started : (p : Plain) (n n1 : NodeState) (room : ValueBuf) (call : Call) → NodeStarts n call n1 → Stands p n → Serves p n1 call room
started p n n1 room call s stands =
    let o = stands.only in
    let holds : NodeHolds n1 call (view_at p 0) room = s.holds call (view_at p 0) room (stands.holds call room) in
    record {
      only = record {
        ready = o.ready;
        small = o.small;
        client = ap (λ (m : NodeState). m.client) s.kept ∙ o.client;
        pool = o.pool ∙ sym (stands.holds call room).caller.pool ∙ holds.caller.pool;
        own = o.own;
      };
      busy = s.busy;
      holds = holds;
    }

-- behind accesses, and once an entry was entered
module _ (t : NodeTurn) (call : Call) (n m n1 : NodeState) (p q : Plain) (room1 : ValueBuf) (only : IsOnly p n) (client : m.client ≡ n.client) (a : Acted t call m n1 p q room1) where
  -- the entry that is due
  pub due : (r r1 : Reply) → r ≡ r1 → history q ≡ history p ++ next_entry (history p) call r ∷ [] → history q ≡ q.entries ++ next_entry q.entries call r1 ∷ []
  due r r1 e adds = let here : history p ≡ q.entries = sym (a.entries ∙ only.ready.entered) in adds ∙ (λ i. here i ++ next_entry (here i) call (e i) ∷ [])

  module _ (q1 : Plain) (same : KeptButEntries q q1) (entered : q1.entries ≡ history q1) where
    same_view : view_at q1 0 ≡ view_at q 0
    same_view = ap (λ (vs : List View). get_or vs 0 nobody) same.views

    pub server_left : LeavesServer p q1
    server_left = record {
      setup = same.setup ∙ a.same.setup;
      seats = ap length same.views ∙ a.same.seats;
      server = ap (λ (vs : List View). get_or vs 1 nobody) same.views ∙ a.same.server;
    }

    only_behind : IsOnly q1 n1
    only_behind = record {
      ready = record { opened = same.opened ∙ a.opened; entered = entered };
      small = record { numbers = subst HasSmallNumbers (sym server_left.setup) only.small.numbers; seats = server_left.seats ∙ only.small.seats };
      client = ap (λ (k : NodeState). k.client) a.kept ∙ client ∙ only.client;
      pool = ap (λ (s : Setup). s.pool) same.setup ∙ a.pool;
      own = ap (λ (v : View). v.pass.calls) same_view ∙ a.own ∙ sym (λ i. longest (same.views i ++ same.absent i));
    }

    holds_behind : NodeHolds n1 call (view_at q1 0) room1
    holds_behind = subst (λ (v : View). NodeHolds n1 call v room1) (sym same_view) a.holds

    pub stands_behind : IsIdle n1 → Stands q1 n1
    stands_behind idle = record { only = only_behind; idle = idle; holds = λ other room. holds_any n1 call other (view_at q1 0) room1 room idle holds_behind }

    pub serves_behind : (IsIdle n1 → ⊥) → Serves q1 n1 call room1
    serves_behind busy = record { only = only_behind; busy = busy; holds = holds_behind }

-- nothing was entered
pub same_entries : (q : Plain) → KeptButEntries q q
same_entries q = record { words = refl; views = refl; accesses = refl; made = refl; whole = refl; setup = refl; first = refl; used = refl; start = refl; absent = refl; traced = refl; opened = refl; access_room = refl }

module _ (call : Call) (n n1 : NodeState) (p q : Plain) (room1 : ValueBuf) (stands : Stands p n) where
  begun_client : (m : NodeState) → HasBegun n m → m.client ≡ n.client
  begun_client m b = ap (λ (k : NodeState). k.client) b.kept

  -- a put has committed
  module _ (u : TagParts) (k : ℕ) (is : k ≡ tag_number u) (came : Came (Decided (Stored u)) call n n1 p q room1) where
    pub put_due : history q ≡ q.entries ++ next_entry q.entries call (StoredAs k) ∷ []
    put_due = due (Decided (Stored u)) call n came.node n1 p q room1 stands.only (begun_client came.node came.begun) came.acted (StoredAs (tag_number u)) (StoredAs k) (ap StoredAs (sym is)) came.acted.adds

    pub put_committed : (q1 : Plain) → KeptButEntries q q1 → q1.entries ≡ history q1 → IsCommitted q1 n1 call room1 × LeavesServer p q1
    put_committed q1 same entered = (
      record { serves = serves_behind (Decided (Stored u)) call n came.node n1 p q room1 stands.only (begun_client came.node came.begun) came.acted q1 same entered came.acted.leaves.0; committed = came.acted.leaves.1 },
      server_left (Decided (Stored u)) call n came.node n1 p q room1 stands.only (begun_client came.node came.begun) came.acted q1 same entered,
    )

  -- a get has found a value
  module _ (u : TagParts) (k f : ℕ) (x : Value) (is : k ≡ tag_number u) (value : x ≡ value_in f room1) (came : Came (Done (Found u f)) call n n1 p q room1) where
    pub get_due : history q ≡ q.entries ++ next_entry q.entries call (FoundAs k x) ∷ []
    get_due = due (Done (Found u f)) call n came.node n1 p q room1 stands.only (begun_client came.node came.begun) came.acted (FoundAs (tag_number u) (value_in f room1)) (FoundAs k x) (λ i. FoundAs (sym is i) (sym value i)) (came.acted.adds.1 came.begun.uncommitted)

    pub get_stands : (q1 : Plain) → KeptButEntries q q1 → q1.entries ≡ history q1 → Stands q1 n1
    get_stands q1 same entered = stands_behind (Done (Found u f)) call n came.node n1 p q room1 stands.only (begun_client came.node came.begun) came.acted q1 same entered came.acted.leaves

  -- the key has nothing
  module _ (came : Came (Done Absent) call n n1 p q room1) where
    pub miss_due : history q ≡ q.entries ++ next_entry q.entries call AbsentAs ∷ []
    miss_due = due (Done Absent) call n came.node n1 p q room1 stands.only (begun_client came.node came.begun) came.acted AbsentAs AbsentAs refl (came.acted.adds.1 came.begun.uncommitted)

    pub miss_stands : (q1 : Plain) → KeptButEntries q q1 → q1.entries ≡ history q1 → Stands q1 n1
    miss_stands q1 same entered = stands_behind (Done Absent) call n came.node n1 p q room1 stands.only (begun_client came.node came.begun) came.acted q1 same entered came.acted.leaves

  -- the node needs names
  module _ (known bound : ℕ) (came : Came (Refused (LacksNames known bound)) call n n1 p q room1) where
    pub names_stand : Stands q n1
    names_stand = stands_behind (Refused (LacksNames known bound)) call n came.node n1 p q room1 stands.only (begun_client came.node came.begun) came.acted q (same_entries q) (came.acted.entries ∙ stands.only.ready.entered ∙ sym came.acted.adds) came.acted.leaves

    pub names_same : LeavesServer p q × (q.entries ≡ p.entries)
    names_same = (came.acted.same, came.acted.entries)

    pub names_kept : (n1.names ≡ n.names) × (n1.stock ≡ n.stock)
    names_kept = (
      ap (λ (m : NodeState). m.names) came.acted.kept ∙ ap (λ (m : NodeState). m.names) came.begun.kept,
      ap (λ (m : NodeState). m.stock) came.acted.kept ∙ ap (λ (m : NodeState). m.stock) came.begun.kept,
    )

-- behind its last access a put is over
pub put_over : (call : Call) (n n1 : NodeState) (p q : Plain) (room room1 : ValueBuf) (u : TagParts) → IsCommitted p n call room → Acted (Done (Stored u)) call n n1 p q room1 → Stands q n1
put_over call n n1 p q room room1 u c a =
    stands_behind (Done (Stored u)) call n n n1 p q room1 c.serves.only refl a q (same_entries q) (a.entries ∙ c.serves.only.ready.entered ∙ sym (a.adds.0 c.committed)) a.leaves

-- what is known by the outcome of accesses of which A holds
module _ (A : NodeTurn → Type 0) (t : NodeTurn) (m : OnMade t (A t)) (o : Outcome) (told : IsOutcome t o) where
  made_at : (t1 : NodeTurn) → t ≡ t1 → OnMade t1 (A t1)
  made_at t1 e = subst (λ (z : NodeTurn). OnMade z (A z)) e m

  told_at : (o1 : Outcome) → o ≡ o1 → IsOutcome t o1
  told_at o1 e = subst (IsOutcome t) e told

  pub by_committed : (k : ℕ) → o ≡ Committed k → (u : TagParts) × (k ≡ tag_number u) × A (Decided (Stored u))
  by_committed k e = let h = told_at (Committed k) e in (h.0, h.1, made_at (Decided (Stored h.0)) h.2)

  pub by_stored : (k : ℕ) → o ≡ StoredOut k → (u : TagParts) × (k ≡ tag_number u) × A (Done (Stored u))
  by_stored k e = let h = told_at (StoredOut k) e in (h.0, h.1, made_at (Done (Stored h.0)) h.2)

  pub by_found : (k f : ℕ) → o ≡ FoundOut k f → (u : TagParts) × (k ≡ tag_number u) × A (Done (Found u f))
  by_found k f e = let h = told_at (FoundOut k f) e in (h.0, h.1, made_at (Done (Found h.0 f)) h.2)

  pub by_absent : o ≡ AbsentOut → A (Done Absent)
  by_absent e = made_at (Done Absent) (told_at AbsentOut e)

  pub by_names : (known bound : ℕ) → o ≡ NeedsNames known bound → A (Refused (LacksNames known bound))
  by_names known bound e = made_at (Refused (LacksNames known bound)) (told_at (NeedsNames known bound) e)

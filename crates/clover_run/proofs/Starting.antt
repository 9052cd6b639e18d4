-- A client that starts its call: the phase behind the start, that the client stands so, and that it is as the records say.
use Prim.Native.Nat.{suc}
use Rattle.std.proofs.Common.{◌≡◌, ◌≢◌, ℕ, ◌+◌, ◌≤◌, List, [], ◌∷◌, length, map, Bool, cond, inl, inr, refl, sym, ap, ◌∙◌, subst}
use Rattle.std.specs.Prelude.{Option, Some, None, ◌⊎◌, true}
use Rattle.std.proofs.lemmas.Option.{same_Some}
use Rattle.clover_words.specs.declared.bytes.ValueBuf.{ValueBuf}
use Rattle.clover_words.specs.Tag.{TagParts, tag_number}
use Rattle.clover_map.specs.History.{own, key_of}
use Rattle.clover_map.specs.declared.call.Call.{Call}
use Rattle.clover_map.specs.declared.call.Call.TheVariants.{Get, Put, Delete, Swap}
use Rattle.clover_script.specs.declared.line.Task.TheVariants.{Client as ClientTask}
use Rattle.clover_rule.specs.declared.access.Act.{Act}
use Rattle.clover_rule.specs.declared.view.View.{View}
use Rattle.clover_plain.specs.Plain.{Plain, view_at, history}
use Rattle.clover_walk.specs.Walking.{Walking}
use Rattle.clover_call.specs.Beginning.{IsBegun}
use Rattle.clover_call.specs.Caller.{CallHolds}
use Rattle.clover_call.specs.declared.under.Underway.{Underway}
use Rattle.clover_node.specs.Beginning.{NodeStarts, NeedsBuffer, Refuses}
use Rattle.clover_node.specs.Node.{NodeState, NodeHolds, IsAsked, IsIdle, IsUnder}
use Rattle.clover_node.specs.declared.answer.NodeRefusal.TheVariants.{NeedsStock}
use Rattle.clover_node.specs.declared.counting.Counting.{Counting}
use Rattle.clover_event.specs.Client.{HasLinked}
use Rattle.clover_run.specs.Client.{Phase, Rests, Wants, Calls, Ends, Stands, IsCall, Started, Matches, call_at, call_or}
use Rattle.clover_run.specs.Folds.{Doing}
use Rattle.clover_run.specs.Run.{Opening}
use Rattle.clover_run.specs.Wanting.{slot_for, wants, wants_first}
use Rattle.clover_run.specs.declared.client.ClientState.{ClientState}
use Rattle.clover_run.specs.declared.want.Want.{Want}
use Rattle.clover_run.specs.declared.want.Want.TheVariants.{Nothing, Stock}
use Rattle.clover_run.proofs.Names.{slot_within, slot_new, slot_some}

-- a node with no call under way knows what it does of any call
pub holds_any : (n : NodeState) (call other : Call) (v : View) (room room1 : ValueBuf) → IsIdle n → NodeHolds n call v room → NodeHolds n other v room1
holds_any n call other v room room1 idle h = record {
  role = h.role;
  stock = h.stock;
  names = h.names;
  tags = h.tags;
  slots = h.slots;
  once = h.once;
  caller = record { pool = h.caller.pool; client = h.caller.client; cursors = h.caller.cursors; call = subst (λ (u : Underway). CallHolds n.caller.pool u v room1) (sym idle.calls) tt };
  asked = subst (λ (c : Counting). IsAsked c n v other) (sym idle.counts) (subst (λ (u : Underway). IsUnder u v other) (sym idle.calls) tt);
}

-- The client of seat i may start this call in this pool: what it stands on but its phase, and the call is one that the run begins.
pub record IsReady (o : Opening) (p : Plain) (i : ℕ) (x : ClientState) (call : Call) : Type 0 where
  pub setup : p.setup ≡ o.setup
  pub opened : p.opened ≡ true
  pub entered : p.entries ≡ history p
  pub seat : suc i ≤ o.setup.clients
  pub seats : length p.views ≡ o.setup.clients + 1
  pub client : x.node.client ≡ suc i
  pub number : x.number ≡ length (own p.entries (suc i))
  pub pool : x.node.caller.pool ≡ o.setup.pool
  pub idle : IsIdle x.node
  pub call_is : x.call ≡ Some call
  pub is : IsCall o call
  pub holds : NodeHolds x.node call (view_at p i) x.room

-- a client that wants something is ready for its call
pub ready_wants : (o : Opening) (p : Plain) (i : ℕ) (x : ClientState) (call : Call) → Stands o p i x Wants → x.call ≡ Some call → IsReady o p i x call
ready_wants o p i x call s is = record {
  setup = s.setup;
  opened = s.opened;
  entered = s.entered;
  seat = s.seat;
  seats = s.seats;
  client = s.client;
  number = s.number;
  pool = s.pool;
  idle = s.phase.0;
  call_is = is;
  is = s.call call is;
  holds = holds_any x.node (call_at x (view_at p i)) call (view_at p i) x.room x.room s.phase.0 s.holds;
}

-- and one that rests for any call that the run begins
pub ready_rests : (o : Opening) (p : Plain) (i : ℕ) (x : ClientState) (call : Call) → Stands o p i x Rests → IsCall o call → IsReady o p i (record x { call = Some call }) call
ready_rests o p i x call s is = record {
  setup = s.setup;
  opened = s.opened;
  entered = s.entered;
  seat = s.seat;
  seats = s.seats;
  client = s.client;
  number = s.number;
  pool = s.pool;
  idle = s.phase.0;
  call_is = refl;
  is = is;
  holds = holds_any x.node (call_at x (view_at p i)) call (view_at p i) x.room x.room s.phase.0 s.holds;
}

-- how the client started in this phase: its node started the call, or has no buffer for it
abbrev pub StartsIn : Phase → ClientState → ClientState → Call → Type 0
StartsIn Rests x y call = ⊥
StartsIn Wants x y call = (y.node ≡ x.node) × (y.want ≡ Stock) × Refuses x.node call NeedsStock
StartsIn Calls x y call = NodeStarts x.node call y.node × (y.want ≡ Nothing)
StartsIn Ends x y call = ⊥

-- what the records say of a call that starts, with this client's names and stock
pub record SaysStart (x : ClientState) (call : Call) (d : Doing) : Type 0 where
  pub written : ℕ
  pub task : d.task ≡ Some (ClientTask call written)
  pub decided : d.decided ≡ None
  pub since : d.since ≡ []
  pub refusing : x.refusing ≡ d.refusing
  pub known : d.known ≡ length x.node.names
  pub stock : d.stock ≡ map tag_number x.node.stock

-- The client has started its call, and stands in this phase: it is as the records say that tell of the start.
pub record HasStarted (o : Opening) (p : Plain) (i : ℕ) (x y : ClientState) (call : Call) (f : Phase) : Type 0 where
  pub how : StartsIn f x y call
  pub stands : Stands o p i y f
  pub matches : (d : Doing) → SaysStart x call d → Matches y (view_at p i) f d

-- a call that has just begun has linked nothing
begun_linked : (w : Walking) (own : ℕ) (call : Call) (u : Underway) (acts : List Act) → IsBegun w own call u → HasLinked u acts
begun_linked w own (Get key) u acts is = subst (λ (z : Underway). HasLinked z acts) (sym is) tt
begun_linked w own (Put key value) u acts is = subst (λ (z : Underway). HasLinked z acts) (sym is) tt
begun_linked w own (Delete key) u acts is = subst (λ (z : Underway). HasLinked z acts) (sym is) tt
begun_linked w own (Swap key expected value) u acts (t, same, is) = subst (λ (z : Underway). HasLinked z acts) (sym is) tt

starts_linked : (n n1 : NodeState) (call : Call) (acts : List Act) → IsIdle n → NodeStarts n call n1 → HasLinked n1.caller.under acts
starts_linked n n1 call acts idle s = go (slot_for (key_of call) n.names) refl
  where
    go : (o : Option ℕ) → slot_for (key_of call) n.names ≡ o → HasLinked n1.caller.under acts
    go None e =
        let same = ap (λ (m : NodeState). m.caller.under) (s.unnamed (slot_new (key_of call) n.names e)) ∙ idle.calls in
        subst (λ (u : Underway). HasLinked u acts) (sym same) tt
    go (Some slot) e = begun_linked _ _ call n1.caller.under acts (s.named slot (slot_within (key_of call) n.names slot e)).1.begun

-- what a call wants first, where its node started it and where it had no buffer
numbers : (ts : List TagParts) → ts ≢ [] → (t : ℕ) × (rest : List ℕ) × (map tag_number ts ≡ t ∷ rest)
numbers [] some = absurd (some refl)
numbers (t ∷ ts) some = (tag_number t, map tag_number ts, refl)

stocked_first : (n : NodeState) (call : Call) → (NeedsBuffer n call → n.stock ≢ []) → wants_first call (slot_for (key_of call) n.names) (map tag_number n.stock) ≡ Nothing
stocked_first n (Get key) some = refl
stocked_first n (Put key value) some = let k = numbers n.stock (some tt) in ap (wants_first (Put key value) (slot_for key n.names)) k.2
stocked_first n (Delete key) some = go (slot_for key n.names) refl
  where
    go : (o : Option ℕ) → slot_for key n.names ≡ o → wants_first (Delete key) o (map tag_number n.stock) ≡ Nothing
    go None e = refl
    go (Some s) e = let k = numbers n.stock (some (s, slot_within key n.names s e)) in ap (wants_first (Delete key) (Some s)) k.2
stocked_first n (Swap key expected value) some = go (slot_for key n.names) refl
  where
    go : (o : Option ℕ) → slot_for key n.names ≡ o → wants_first (Swap key expected value) o (map tag_number n.stock) ≡ Nothing
    go None e = refl
    go (Some s) e = let k = numbers n.stock (some (s, slot_within key n.names s e)) in ap (wants_first (Swap key expected value) (Some s)) k.2

empty_first : (n : NodeState) (call : Call) → n.stock ≡ [] → NeedsBuffer n call → wants_first call (slot_for (key_of call) n.names) (map tag_number n.stock) ≡ Stock
empty_first n (Get key) none needs = absurd needs
empty_first n (Put key value) none needs = ap (λ (ts : List TagParts). wants_first (Put key value) (slot_for key n.names) (map tag_number ts)) none
empty_first n (Delete key) none needs = let s = slot_some key n.names needs.0 needs.1 in ap (λ (o : Option ℕ). wants_first (Delete key) o (map tag_number n.stock)) s.1 ∙ ap (λ (ts : List TagParts). wants_first (Delete key) (Some s.0) (map tag_number ts)) none
empty_first n (Swap key expected value) none needs = let s = slot_some key n.names needs.0 needs.1 in ap (λ (o : Option ℕ). wants_first (Swap key expected value) o (map tag_number n.stock)) s.1 ∙ ap (λ (ts : List TagParts). wants_first (Swap key expected value) (Some s.0) (map tag_number ts)) none

-- what a call wants before its first access, by the records
wants_so : (call : Call) (names names1 : List (ℕ × List ℕ)) (stock stock1 : List ℕ) (since : List Act) (w : Want) → names1 ≡ names → stock1 ≡ stock → since ≡ [] → wants_first call (slot_for (key_of call) names) stock ≡ w → wants call (slot_for (key_of call) names1) stock1 since ≡ w
wants_so call names names1 stock stock1 since w a b none e = (λ i. wants call (slot_for (key_of call) (a i)) (b i) (none i)) ∙ e

module _ (o : Opening) (p : Plain) (i : ℕ) (x y : ClientState) (call : Call) (r : IsReady o p i x call) (kept : y ≡ record x { node = y.node; want = y.want }) where
  abbrev v : View
  v = view_at p i

  call_is : y.call ≡ Some call
  call_is = ap (λ (z : ClientState). z.call) kept ∙ r.call_is

  call_here : call_at y v ≡ call
  call_here = ap (λ (c : Option Call). call_or c y v) call_is

  -- its node started the call
  module _ (s : NodeStarts x.node call y.node) (want : y.want ≡ Nothing) where
    holds : NodeHolds y.node call v x.room
    holds = s.holds call v x.room r.holds

    starts_in : HasStarted o p i x y call Calls
    starts_in = record {
      how = (s, want);
      stands = record {
        setup = r.setup;
        opened = r.opened;
        entered = r.entered;
        seat = r.seat;
        seats = r.seats;
        client = ap (λ (n : NodeState). n.client) s.kept ∙ r.client;
        number = ap (λ (z : ClientState). z.number) kept ∙ r.number;
        pool = sym holds.caller.pool ∙ r.holds.caller.pool ∙ r.pool;
        holds = subst (λ (c : Call). NodeHolds y.node c v y.room) (sym call_here) (subst (NodeHolds y.node call v) (sym (ap (λ (z : ClientState). z.room) kept)) holds);
        phase = (s.busy, s.uncommitted, want, (call, call_is));
        call = λ c e. subst (IsCall o) (same_Some call c (sym call_is ∙ e)) r.is;
        linked = starts_linked x.node y.node call v.pass.since r.idle s;
      };
      matches = λ d says. record {
        refusing = ap (λ (z : ClientState). z.refusing) kept ∙ says.refusing;
        known = says.known ∙ sym (ap (λ (n : NodeState). length n.names) s.kept);
        stock = says.stock ∙ sym (ap (λ (n : NodeState). map tag_number n.stock) s.kept);
        doing = (
          (says.written, says.task ∙ ap (λ (c : Call). Some (ClientTask c says.written)) (sym call_here)),
          says.decided,
          says.since ∙ sym (ap (λ (b : Bool). cond b [] v.pass.since) s.first),
          subst (λ (c : Call). wants c (slot_for (key_of c) y.node.names) d.stock d.since ≡ Nothing) (sym call_here)
              (wants_so call x.node.names y.node.names (map tag_number x.node.stock) d.stock d.since Nothing (ap (λ (n : NodeState). n.names) s.kept) says.stock says.since (stocked_first x.node call s.stocked)),
        );
      };
    }

  -- its node has no buffer for it
  module _ (same : y.node ≡ x.node) (want : y.want ≡ Stock) (refuses : Refuses x.node call NeedsStock) where
    wants_in : HasStarted o p i x y call Wants
    wants_in = record {
      how = (same, want, refuses);
      stands = record {
        setup = r.setup;
        opened = r.opened;
        entered = r.entered;
        seat = r.seat;
        seats = r.seats;
        client = ap (λ (n : NodeState). n.client) same ∙ r.client;
        number = ap (λ (z : ClientState). z.number) kept ∙ r.number;
        pool = ap (λ (n : NodeState). n.caller.pool) same ∙ r.pool;
        holds = subst (λ (c : Call). NodeHolds y.node c v y.room) (sym call_here) (subst (λ (n : NodeState). NodeHolds n call v y.room) (sym same) (subst (NodeHolds x.node call v) (sym (ap (λ (z : ClientState). z.room) kept)) r.holds));
        phase = (subst IsIdle (sym same) r.idle, (λ none. let q : Stock ≡ Nothing = sym want ∙ none in cc), (call, call_is), (λ stock. ap (λ (n : NodeState). n.stock) same ∙ refuses.1));
        call = λ c e. subst (IsCall o) (same_Some call c (sym call_is ∙ e)) r.is;
        linked = subst (λ (u : Underway). HasLinked u v.pass.since) (sym (ap (λ (n : NodeState). n.caller.under) same ∙ r.idle.calls)) tt;
      };
      matches = λ d says. record {
        refusing = ap (λ (z : ClientState). z.refusing) kept ∙ says.refusing;
        known = says.known ∙ sym (ap (λ (n : NodeState). length n.names) same);
        stock = says.stock ∙ sym (ap (λ (n : NodeState). map tag_number n.stock) same);
        doing = (
          (says.written, says.task ∙ ap (λ (c : Call). Some (ClientTask c says.written)) (sym call_here)),
          says.decided,
          subst (λ (c : Call). wants c (slot_for (key_of c) y.node.names) d.stock d.since ≡ y.want) (sym call_here)
              (wants_so call x.node.names y.node.names (map tag_number x.node.stock) d.stock d.since y.want (ap (λ (n : NodeState). n.names) same) says.stock says.since (empty_first x.node call refuses.1 refuses.2 ∙ sym want)),
        );
      };
    }

-- a client that starts a call has a phase, and stands so
pub started_client : (o : Opening) (p : Plain) (i : ℕ) (x y : ClientState) (call : Call) → IsReady o p i x call → Started x y call → (f : Phase) × HasStarted o p i x y call f
started_client o p i x y call r s = go s.how
  where
    go : (NodeStarts x.node call y.node × (y.want ≡ Nothing)) ⊎ ((y.node ≡ x.node) × (y.want ≡ Stock) × Refuses x.node call NeedsStock) → (f : Phase) × HasStarted o p i x y call f
    go (inl (starts, want)) = (Calls, starts_in o p i x y call r s.kept starts want)
    go (inr (same, want, refuses)) = (Wants, wants_in o p i x y call r s.kept same want refuses)

-- Where a client stands that wanted something of the server, once a step of the server has changed the pool and the client.
use Prim.Native.Nat.{suc}
use Rattle.std.proofs.Common.{◌≡◌, ℕ, ◌⊎◌, inl, inr, List, [], ◌++◌, length, Bool, true, false, if◌then◌else◌, append-nil, refl, sym, ap, ◌∙◌, subst}
use Rattle.std.specs.Prelude.{Option, Some, None}
use Rattle.std.proofs.lemmas.Option.{same_Some}
use Rattle.clover_words.specs.declared.bytes.ValueBuf.{ValueBuf}
use Rattle.clover_map.specs.History.{own}
use Rattle.clover_map.specs.declared.call.Call.{Call}
use Rattle.clover_map.specs.declared.call.Entry.{Entry}
use Rattle.clover_rule.specs.declared.access.Access.{Access}
use Rattle.clover_rule.specs.declared.access.Act.{Act}
use Rattle.clover_rule.specs.declared.view.View.{View}
use Rattle.clover_plain.specs.Handing.{Handed}
use Rattle.clover_plain.specs.Plain.{Plain, history, view_at}
use Rattle.clover_call.specs.Caller.{CallHolds, CallerState}
use Rattle.clover_call.specs.declared.under.Underway.{Underway}
use Rattle.clover_call.specs.declared.under.Underway.TheVariants.{Nothing as NoCall, Get as GetUnder, Write}
use Rattle.clover_put.specs.Answering.{IsBefore}
use Rattle.clover_put.specs.Putting.{Stage, Storing, Flushing, Seeking, AtMeta, AtLink, Deciding, AtBad, AtRaise, AtShort, Over}
use Rattle.clover_node.specs.Beginning.{NodeStarts, Refuses}
use Rattle.clover_node.specs.Going.{IsOpen}
use Rattle.clover_node.specs.Node.{NodeState, NodeHolds, IsAsked, IsIdle, IsUnder}
use Rattle.clover_node.specs.declared.answer.NodeRefusal.TheVariants.{NeedsStock}
use Rattle.clover_node.specs.declared.counting.Counting.{Counting}
use Rattle.clover_event.specs.Client.{HasLinked, LinkedAt}
use Rattle.clover_run.specs.Client.{Calls, IsCall, IsIn, Moved, Phase, Stands, Started, Wants, call_at, call_or}
use Rattle.clover_run.specs.Run.{Opening}
use Rattle.clover_run.specs.declared.client.ClientState.{ClientState}
use Rattle.clover_run.specs.declared.want.Want.TheVariants.{Nothing, Stock}
use Rattle.clover_run.proofs.Views.{handed_known, handed_seats}

-- a node with no call under way knows what it does of any call, whatever is in the room
pub holds_any : (n : NodeState) (call other : Call) (v : View) (room room1 : ValueBuf) → IsIdle n → NodeHolds n call v room → NodeHolds n other v room1
holds_any n call other v room room1 idle h = record {
  role = h.role;
  stock = h.stock;
  names = h.names;
  tags = h.tags;
  slots = h.slots;
  once = h.once;
  caller = record { pool = h.caller.pool; client = h.caller.client; cursors = h.caller.cursors; call = subst (λ (u : Underway). CallHolds n.caller.pool u v room1) (sym idle.calls) tt };
  asked = subst (λ (c : Counting). IsAsked c n v other) (sym idle.counts) (subst (λ (u : Underway). IsUnder u v other) (sym idle.calls) tt);
}

-- the call that is kept is the one under way
pub call_is : (x : ClientState) (v : View) (call : Call) → x.call ≡ Some call → call_at x v ≡ call
call_is x v call e = ap (λ (o : Option Call). call_or o x v) e

-- nothing has been linked where nothing was committed
before_linked : (at : Stage) (t : ℕ) (acts : List Act) → IsBefore at → LinkedAt at t acts
before_linked (Storing j) t acts b = tt
before_linked (Flushing j) t acts b = tt
before_linked Seeking t acts b = tt
before_linked (AtMeta u) t acts b = tt
before_linked (AtLink u) t acts b = tt
before_linked (Deciding u y) t acts b = tt
before_linked (AtBad u) t acts b = tt
before_linked (AtRaise u) t acts b = absurd b
before_linked AtShort t acts b = absurd b
before_linked Over t acts b = absurd b

pub open_linked : (u : Underway) (acts : List Act) → IsOpen u → HasLinked u acts
open_linked NoCall acts h = tt
open_linked (GetUnder g) acts h = tt
open_linked (Write c) acts h = before_linked c.stage c.own acts h

-- the phase of a client that has started its call, by whether its node has
abbrev pub After : Phase → ClientState → ClientState → Call → Type 0
After Calls g y call = NodeStarts g.node call y.node × (y.want ≡ Nothing)
After Wants g y call = (y.node ≡ g.node) × (y.want ≡ Stock) × Refuses g.node call NeedsStock
After f g y call = ⊥

-- The client of seat i stood in this phase, and the pool has the same setup and entries.
module _ (o : Opening) (i : ℕ) (p q : Plain) (setup : q.setup ≡ p.setup) (opened : q.opened ≡ p.opened) (entered : q.entries ≡ history q) (seats : length q.views ≡ length p.views) (entries : q.entries ≡ p.entries) where
  -- it stands with another node, where that holds what is said of it
  pub stands_by : (x y : ClientState) (f g : Phase) → Stands o p i x f → y.node.client ≡ x.node.client → y.node.caller.pool ≡ x.node.caller.pool → y.number ≡ x.number
      → NodeHolds y.node (call_at y (view_at q i)) (view_at q i) y.room → IsIn g y → ((call : Call) → y.call ≡ Some call → IsCall o call) → HasLinked y.node.caller.under (view_at q i).pass.since → Stands o q i y g
  stands_by x y f g s client pool number holds phase call linked = record {
    setup = setup ∙ s.setup;
    opened = opened ∙ s.opened;
    entered = entered;
    seat = s.seat;
    seats = seats ∙ s.seats;
    client = client ∙ s.client;
    number = number ∙ s.number ∙ ap (λ (h : List Entry). length (own h (suc i))) (sym entries);
    pool = pool ∙ s.pool;
    holds = holds;
    phase = phase;
    call = call;
    linked = linked;
  }

  -- it stands idle with the same node
  pub stands_idle : (x y : ClientState) (f g : Phase) → Stands o p i x f → IsIdle x.node → view_at q i ≡ view_at p i → y.node ≡ x.node → y.number ≡ x.number → IsIn g y → ((call : Call) → y.call ≡ Some call → IsCall o call) → Stands o q i y g
  stands_idle x y f g s idle view node number phase call =
      stands_by x y f g s (ap (λ (n : NodeState). n.client) node) (ap (λ (n : NodeState). n.caller.pool) node) number
      (subst (λ (n : NodeState). NodeHolds n (call_at y (view_at q i)) (view_at q i) y.room) (sym node)
      (subst (λ (v : View). NodeHolds x.node (call_at y (view_at q i)) v y.room) (sym view) (holds_any x.node (call_at x (view_at p i)) (call_at y (view_at q i)) (view_at p i) x.room y.room idle s.holds)))
      phase
      call
      (subst (λ (u : Underway). HasLinked u (view_at q i).pass.since) (sym (ap (λ (n : NodeState). n.caller.under) node ∙ idle.calls)) tt)

  -- it has started its call, where it had that and its node was idle: the node has, or wants stock for it
  pub stands_started : (x g y : ClientState) (f : Phase) (call : Call) → Stands o p i x f → IsIdle g.node → g.node.client ≡ x.node.client → g.node.caller ≡ x.node.caller → g.number ≡ x.number → g.call ≡ Some call → IsCall o call
      → ((other : Call) → NodeHolds g.node other (view_at q i) g.room) → Started g y call → (after : Phase) × Stands o q i y after × After after g y call
  stands_started x g y f call s idle client caller number is fits holds t = by t.how
    where
      call_kept : y.call ≡ Some call
      call_kept = ap (λ (z : ClientState). z.call) t.kept ∙ is

      number_kept : y.number ≡ x.number
      number_kept = ap (λ (z : ClientState). z.number) t.kept ∙ number

      room_kept : y.room ≡ g.room
      room_kept = ap (λ (z : ClientState). z.room) t.kept

      is_call : (c : Call) → y.call ≡ Some c → IsCall o c
      is_call c e = subst (IsCall o) (same_Some call c (sym call_kept ∙ e)) fits

      -- the view holds what the node stands on, once this is so of the call
      held : NodeHolds y.node call (view_at q i) g.room → NodeHolds y.node (call_at y (view_at q i)) (view_at q i) y.room
      held h = subst (λ (r : ValueBuf). NodeHolds y.node (call_at y (view_at q i)) (view_at q i) r) (sym room_kept) (subst (λ (c : Call). NodeHolds y.node c (view_at q i) g.room) (sym (call_is y (view_at q i) call call_kept)) h)

      by : (NodeStarts g.node call y.node × (y.want ≡ Nothing)) ⊎ ((y.node ≡ g.node) × (y.want ≡ Stock) × Refuses g.node call NeedsStock) → (after : Phase) × Stands o q i y after × After after g y call
      by (inl k) =
          let h : NodeHolds y.node call (view_at q i) g.room = k.0.holds call (view_at q i) g.room (holds call) in (
            Calls,
            stands_by x y f Calls s
                (ap (λ (n : NodeState). n.client) k.0.kept ∙ client)
                (sym h.caller.pool ∙ (holds call).caller.pool ∙ ap (λ (c : CallerState). c.pool) caller)
                number_kept
                (held h)
                (k.0.busy, k.0.uncommitted, k.1, (call, call_kept))
                is_call
                (open_linked y.node.caller.under (view_at q i).pass.since k.0.uncommitted),
            k,
          )
      by (inr k) = (
        Wants,
        stands_by x y f Wants s
            (ap (λ (n : NodeState). n.client) k.0 ∙ client)
            (ap (λ (n : NodeState). n.caller.pool) k.0 ∙ ap (λ (c : CallerState). c.pool) caller)
            number_kept
            (held (subst (λ (n : NodeState). NodeHolds n call (view_at q i) g.room) (sym k.0) (holds call)))
            (subst IsIdle (sym k.0) idle, (λ e. let z : Stock ≡ Nothing = sym k.1 ∙ e in cc), (call, call_kept), λ e. ap (λ (n : NodeState). n.stock) k.0 ∙ k.2.1)
            is_call
            (subst (λ (u : Underway). HasLinked u (view_at q i).pass.since) (sym (ap (λ (n : NodeState). n.caller.under) k.0 ∙ idle.calls)) tt),
        k,
      )

-- what a step adds to the pool, and what a grant behind it leaves of that
pub moved_handed : (c : ℕ) (batch : List ℕ) (names : List (ℕ × List ℕ)) (a : Option Access) (p p1 q : Plain) → Moved a None p p1 → (h : Handed (suc c) batch names p1 q) → history q ≡ history p1 → Moved a None p q
moved_handed c batch names a p p1 q m h same = record {
  words = h.words ∙ m.words;
  seats = handed_seats c batch names p1 q h ∙ m.seats;
  entries = h.entries ∙ m.entries;
  entered = h.entries ∙ m.entered ∙ sym same;
  accesses = h.accesses ∙ m.accesses;
  made = h.made ∙ m.made;
  whole = h.whole ∙ m.whole;
  setup = h.setup ∙ m.setup;
  start = h.start ∙ m.start;
  first = h.first ∙ m.first;
  used = h.used ∙ m.used;
  traced = h.traced ∙ m.traced;
  opened = h.opened ∙ m.opened;
  knows = λ t k. handed_known c batch names p1 q h t (m.knows t k);
}

-- the entries of a pool to which a step added none
pub moved_entries : (a : Option Access) (p q : Plain) → Moved a None p q → q.entries ≡ p.entries
moved_entries a p q m = m.entries ∙ append-nil p.entries

-- nothing has changed
pub moved_none : (p : Plain) → p.entries ≡ history p → Moved None None p p
moved_none p entered = record {
  words = refl;
  seats = refl;
  entries = sym (append-nil p.entries);
  entered = entered;
  accesses = by p.traced;
  made = refl;
  whole = refl;
  setup = refl;
  start = refl;
  first = refl;
  used = refl;
  traced = refl;
  opened = refl;
  knows = λ t k. k;
}
  where
    by : (t : Bool) → p.accesses ≡ (if t then p.accesses ++ [] else p.accesses)
    by true = sym (append-nil p.accesses)
    by false = refl

-- An access of a node whose call is on a slot: what its caller's step says of it; and which turns come from a load of the count.
use Rattle.std.proofs.Common.{◌≡◌, ◌≢◌, ℕ, length, Bool, true, false, cond, eqb, refl, sym, ap, ◌∙◌, subst}
use Rattle.std.specs.Prelude.{Some}
use Rattle.clover_words.specs.declared.bytes.ValueBuf.{ValueBuf}
use Rattle.clover_map.specs.declared.call.Call.{Call}
use Rattle.clover_rule.specs.Steps.{Step}
use Rattle.clover_rule.specs.declared.view.View.{View}
use Rattle.clover_port.specs.Told.{Made}
use Rattle.clover_plain.specs.Plain.{Plain, Stepped, open_of, view_at}
use Rattle.clover_call.specs.Calling.{Calling, after}
use Rattle.clover_call.specs.Caller.{IsUncommitted, is_first, next_step}
use Rattle.clover_call.specs.Going.{GoesOn, IsDue, Stays, Went}
use Rattle.clover_call.specs.Mirroring.{Mirrors}
use Rattle.clover_call.specs.declared.answer.Answer.TheVariants.{Absent}
use Rattle.clover_call.specs.declared.answer.CallerRefusal.{CallerRefusal}
use Rattle.clover_call.specs.declared.answer.CallerRefusal.TheVariants.{Unreached as CallUnreached, Behind as CallBehind, Linked as CallLinked, TooLong as CallTooLong}
use Rattle.clover_call.specs.declared.answer.CallerTurn.{CallerTurn}
use Rattle.clover_call.specs.declared.answer.CallerTurn.TheVariants.{More as CallMore, Decided as CallDecided, Done as CallDone, Refused as CallRefused}
use Rattle.clover_call.specs.declared.under.Underway.{Underway}
use Rattle.clover_call.specs.declared.under.Underway.TheVariants.{Nothing, Get, Write}
use Rattle.clover_node.specs.Asking.{Calls}
use Rattle.clover_node.specs.Going.{GoesAt, IsOpen, NodeGoesOn, NodeIsDue, SaysAt}
use Rattle.clover_node.specs.Mirroring.{AskMirrors, UnderMirrors}
use Rattle.clover_node.specs.Node.{NodeState, first_of, node_first, node_step, step_of}
use Rattle.clover_node.specs.Turning.{count_turn, of_turn}
use Rattle.clover_node.specs.declared.answer.NodeRefusal.{NodeRefusal}
use Rattle.clover_node.specs.declared.answer.NodeRefusal.TheVariants.{Unreached, Behind, Linked, TooLong, NeedsStock, NeedsNames}
use Rattle.clover_node.specs.declared.answer.NodeTurn.{NodeTurn}
use Rattle.clover_node.specs.declared.answer.NodeTurn.TheVariants.{More, Decided, Done, Refused}
use Rattle.clover_node.specs.declared.counting.Counting.{Counting}
use Rattle.clover_node.specs.declared.counting.Counting.TheVariants.{No, Names, Absence}
use Rattle.clover_run.specs.Client.{call_at}
use Rattle.clover_run.specs.declared.client.ClientState.{ClientState}
use Rattle.clover_call.specs.Turning.{Tells as CallTells}

-- the caller's turn that a node's turn is of a call on a slot
abbrev called_refusal : NodeRefusal → CallerRefusal
called_refusal Unreached = CallUnreached
called_refusal (Behind turns) = CallBehind turns
called_refusal (Linked t) = CallLinked t
called_refusal (TooLong length room) = CallTooLong length room
called_refusal z = CallUnreached

abbrev pub called_by : NodeTurn → CallerTurn
called_by More = CallMore
called_by (Decided a) = CallDecided a
called_by (Done a) = CallDone a
called_by (Refused z) = CallRefused (called_refusal z)

called_of : (r : CallerTurn) → called_by (of_turn r) ≡ r
called_of CallMore = refl
called_of (CallDecided a) = refl
called_of (CallDone a) = refl
called_of (CallRefused CallUnreached) = refl
called_of (CallRefused (CallBehind turns)) = refl
called_of (CallRefused (CallLinked t)) = refl
called_of (CallRefused (CallTooLong length room)) = refl

is_called : (t : NodeTurn) (r : CallerTurn) → t ≡ of_turn r → r ≡ called_by t
is_called t r e = sym (called_of r) ∙ ap called_by (sym e)

-- a load of the count comes to these turns alone
abbrev pub IsCounted : NodeTurn → Type 0
IsCounted (Done Absent) = Unit {0}
IsCounted (Refused (NeedsNames known bound)) = Unit {0}
IsCounted t = ⊥

count_counted : (c : Counting) (known bound : ℕ) → IsCounted (count_turn c known bound)
count_counted No known bound = tt
count_counted Names known bound = tt
count_counted Absence known bound = by (eqb bound known)
  where
    by : (b : Bool) → IsCounted (cond b (Done Absent) (Refused (NeedsNames known bound)))
    by true = tt
    by false = tt

-- so any other turn is of a call on a slot
pub slots_only : (c : Counting) (n : NodeState) (v : View) (room : ValueBuf) (step : Step) (k : ℕ) (t : NodeTurn) (n1 : NodeState) (w : View) (room1 : ValueBuf) → GoesAt c n v room step k t n1 w room1 → (IsCounted t → ⊥) → c ≡ No
slots_only No n v room step k t n1 w room1 go not = refl
slots_only Names n v room step k t n1 w room1 go not = absurd (not (subst IsCounted (sym go.0) (count_counted Names (length n.names) k)))
slots_only Absence n v room step k t n1 w room1 go not = absurd (not (subst IsCounted (sym go.0) (count_counted Absence (length n.names) k)))

-- no call on a slot wants names
of_no_want : (r : CallerTurn) (known bound : ℕ) → Refused (NeedsNames known bound) ≡ of_turn r → ⊥
of_no_want CallMore known bound e = absurd cc
of_no_want (CallDecided a) known bound e = absurd cc
of_no_want (CallDone a) known bound e = absurd cc
of_no_want (CallRefused CallUnreached) known bound e = absurd cc
of_no_want (CallRefused (CallBehind turns)) known bound e = absurd cc
of_no_want (CallRefused (CallLinked t)) known bound e = absurd cc
of_no_want (CallRefused (CallTooLong length room)) known bound e = absurd cc

pub names_counted : (c : Counting) (n : NodeState) (v : View) (room : ValueBuf) (step : Step) (k known bound : ℕ) (n1 : NodeState) (w : View) (room1 : ValueBuf) → GoesAt c n v room step k (Refused (NeedsNames known bound)) n1 w room1 → c ≢ No
names_counted No n v room step k known bound n1 w room1 go e = of_no_want go.0 known bound go.1
names_counted Names n v room step k known bound n1 w room1 go e = absurd cc
names_counted Absence n v room step k known bound n1 w room1 go e = absurd cc

-- nor does any access want stock
of_no_stock : (r : CallerTurn) → Refused NeedsStock ≡ of_turn r → ⊥
of_no_stock CallMore e = absurd cc
of_no_stock (CallDecided a) e = absurd cc
of_no_stock (CallDone a) e = absurd cc
of_no_stock (CallRefused CallUnreached) e = absurd cc
of_no_stock (CallRefused (CallBehind turns)) e = absurd cc
of_no_stock (CallRefused (CallLinked t)) e = absurd cc
of_no_stock (CallRefused (CallTooLong length room)) e = absurd cc

pub stock_never : (c : Counting) (n : NodeState) (v : View) (room : ValueBuf) (step : Step) (k : ℕ) (n1 : NodeState) (w : View) (room1 : ValueBuf) → GoesAt c n v room step k (Refused NeedsStock) n1 w room1 → ⊥
stock_never No n v room step k n1 w room1 go = of_no_stock go.0 go.1
stock_never Names n v room step k n1 w room1 go = subst IsCounted (sym go.0) (count_counted Names (length n.names) k)
stock_never Absence n v room step k n1 w room1 go = subst IsCounted (sym go.0) (count_counted Absence (length n.names) k)

-- what is under way on a slot is where the call of the definition is, said of the node and of its caller
mirrors_on : (u : Underway) (room : ValueBuf) (call : Call) (own : ℕ) (c : Calling) → Mirrors u room call own c → UnderMirrors u room call own (Calls c)
mirrors_on Nothing room call own c m = tt
mirrors_on (Get g) room call own c m = (c, refl, m)
mirrors_on (Write w) room call own c m = (c, refl, m)

mirrors_off : (u : Underway) (room : ValueBuf) (call : Call) (own : ℕ) (c : Calling) → UnderMirrors u room call own (Calls c) → Mirrors u room call own c
mirrors_off Nothing room call own c m = tt
mirrors_off (Get g) room call own c (d, e, m) = let same : d ≡ c = cc in subst (Mirrors (Get g) room call own) same m
mirrors_off (Write w) room call own c (d, e, m) = let same : d ≡ c = cc in subst (Mirrors (Write w) room call own) same m

-- The access of the client of seat i was one of a call on a slot, that was made and came to this turn.
pub record OnSlot (i : ℕ) (x y : ClientState) (p q : Plain) (t : NodeTurn) : Type 0 where
  pub n : ℕ
  pub stepped : Stepped (next_step x.node.caller.under (view_at p i) x.room) (is_first x.node.caller.under) true i n p q
  pub made : Made p.setup.pool (next_step x.node.caller.under (view_at p i) x.room) (is_first x.node.caller.under) (view_at p i) (Some (open_of p)) n (view_at q i) (Some (open_of q))
  pub go : GoesOn x.node.caller.under x.room n (called_by t) y.node.caller.under y.room
  pub stays : Stays x.node.caller.under (view_at p i) (next_step x.node.caller.under (view_at p i) x.room) n y.node.caller.under (view_at q i) (called_by t)
  pub due : IsDue x.node.caller.under x.room (next_step x.node.caller.under (view_at p i) x.room) n y.node.caller.under y.room (called_by t)

module _ (i : ℕ) (x y : ClientState) (p q : Plain) (t : NodeTurn) where
  abbrev v : View
  v = view_at p i

  abbrev w : View
  w = view_at q i

  abbrev call : Call
  call = call_at x (view_at p i)

  -- what the node's access is, where its step is this and the first of its call or a later one
  abbrev NodeAccess : Step → Bool → (ℕ → Type 0) → Type 0
  NodeAccess step first Goes = (n : ℕ) × (Stepped step first true i n p q × Made p.setup.pool step first v (Some (open_of p)) n w (Some (open_of q))) × Goes n × NodeIsDue x.node x.room step n y.node y.room t

  -- of a call on a slot it is the caller's
  pub on_slot : x.node.counting ≡ No → y.node.counting ≡ No → NodeAccess (node_step x.node call v x.room) (node_first x.node) (λ n. NodeGoesOn x.node v x.room (node_step x.node call v x.room) n t y.node w y.room) → OnSlot i x y p q t
  on_slot none none1 m =
      let k : NodeAccess (next_step x.node.caller.under v x.room) (is_first x.node.caller.under) (λ n. GoesAt No x.node v x.room (next_step x.node.caller.under v x.room) n t y.node w y.room)
      = subst (λ (c : Counting). NodeAccess (step_of c x.node call v x.room) (first_of c x.node) (λ n. GoesAt c x.node v x.room (step_of c x.node call v x.room) n t y.node w y.room)) none m in
      let is = is_called t k.2.0 k.2.1 in
      record {
        n = k.0;
        stepped = k.1.0;
        made = k.1.1;
        go = subst (λ (r : CallerTurn). GoesOn x.node.caller.under x.room k.0 r y.node.caller.under y.room) is k.2.2;
        stays = subst (λ (r : CallerTurn). Stays x.node.caller.under v (next_step x.node.caller.under v x.room) k.0 y.node.caller.under w r) is k.2.3;
        due = λ other own c at.
            let d = k.3 other own (Calls c) (subst (λ (z : Counting). AskMirrors z x.node x.room other own (Calls c)) (sym none) (mirrors_on x.node.caller.under x.room other own c at)) in
            record {
              step_due = d.step_due;
              due = d.due;
              acts = d.acts;
              leads = mirrors_off y.node.caller.under y.room other own (after other own c k.0) (subst (λ (z : Counting). AskMirrors z y.node y.room other own (Calls (after other own c k.0))) none1 d.leads);
              tells = subst (λ (r : CallerTurn). CallTells other own c (after other own c k.0) r) (is_called t d.tells.0 d.tells.1) d.tells.2;
            };
      }

  -- and what its turn says is what the caller's says
  pub slot_says : x.node.counting ≡ No → SaysAt x.node.counting x.node.caller.pool x.node call y.room v (Some (open_of p)) y.node w (Some (open_of q)) t
      → Went x.node.caller.pool x.node.caller.under y.node.caller.under x.node.caller.cursors y.node.caller.cursors y.room v (Some (open_of p)) w (Some (open_of q)) (called_by t)
  slot_says none s =
      let k = subst (λ (c : Counting). SaysAt c x.node.caller.pool x.node call y.room v (Some (open_of p)) y.node w (Some (open_of q)) t) none s in
      subst (λ (r : CallerTurn). Went x.node.caller.pool x.node.caller.under y.node.caller.under x.node.caller.cursors y.node.caller.cursors y.room v (Some (open_of p)) w (Some (open_of q)) r) (is_called t k.0 k.1) k.2

-- a call that has committed nothing, or has
pub open_of_uncommitted : (u : Underway) → IsUncommitted u → IsOpen u
open_of_uncommitted Nothing b = tt
open_of_uncommitted (Get g) b = b
open_of_uncommitted (Write c) b = b

pub uncommitted_of_open : (u : Underway) → IsOpen u → u ≢ Nothing → IsUncommitted u
uncommitted_of_open Nothing b busy = absurd (busy refl)
uncommitted_of_open (Get g) b busy = b
uncommitted_of_open (Write c) b busy = b

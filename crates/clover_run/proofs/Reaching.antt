-- What the port of a client's seat tells of an access of its node is told of the client.
use Rattle.std.proofs.Common.{◌≡◌, ℕ, true, false, sym, subst}
use Rattle.std.specs.Prelude.{Some}
use Rattle.clover_map.specs.declared.call.Call.{Call}
use Rattle.clover_rule.specs.Steps.{Step, act_of}
use Rattle.clover_port.specs.Told.{Made}
use Rattle.clover_plain.specs.Plain.{Plain, Refused as RefusedAt, Same, Stepped, open_of, view_at}
use Rattle.clover_node.specs.Going.{NodeMade, NodeWent}
use Rattle.clover_call.specs.Caller.{HasCommitted}
use Rattle.clover_node.specs.Node.{NodeHolds, IsIdle}
use Rattle.clover_node.specs.Turning.{OnMade, OnRefused}
use Rattle.clover_node.specs.declared.answer.NodeRefusal.TheVariants.{Unreached, Behind, Linked, TooLong, NeedsStock, NeedsNames}
use Rattle.clover_node.specs.declared.answer.NodeTurn.{NodeTurn}
use Rattle.clover_node.specs.declared.answer.NodeTurn.TheVariants.{More, Decided, Done, Refused}
use Rattle.clover_run.specs.Client.{IsIn, IsOwnPhase, Phase, Rests, Wants, Calls, Ends, call_at}
use Rattle.clover_run.specs.Stepping.{Accesses}
use Rattle.clover_run.specs.declared.client.ClientState.{ClientState}

-- what follows where an access was made, where it was refused, and in both cases
pub where_made : {A B : Type 0} (r : NodeTurn) → OnMade r A → (A → B) → OnMade r B
where_made More a f = f a
where_made (Decided t) a f = f a
where_made (Done t) a f = f a
where_made (Refused Unreached) a f = tt
where_made (Refused (Behind n)) a f = f a
where_made (Refused (Linked t)) a f = tt
where_made (Refused (TooLong l m)) a f = f a
where_made (Refused NeedsStock) a f = f a
where_made (Refused (NeedsNames k b)) a f = f a

pub where_refused : {A B : Type 0} (r : NodeTurn) → OnRefused r A → (A → B) → OnRefused r B
where_refused More a f = tt
where_refused (Decided t) a f = tt
where_refused (Done t) a f = tt
where_refused (Refused Unreached) a f = f a
where_refused (Refused (Behind n)) a f = tt
where_refused (Refused (Linked t)) a f = f a
where_refused (Refused (TooLong l m)) a f = tt
where_refused (Refused NeedsStock) a f = tt
where_refused (Refused (NeedsNames k b)) a f = tt

pub by_turn : {A B C : Type 0} (r : NodeTurn) → OnMade r A → OnRefused r B → (A → C) → (B → C) → C
by_turn More a b f h = f a
by_turn (Decided x) a b f h = f a
by_turn (Done x) a b f h = f a
by_turn (Refused Unreached) a b f h = h b
by_turn (Refused (Behind n)) a b f h = f a
by_turn (Refused (Linked t)) a b f h = h b
by_turn (Refused (TooLong l m)) a b f h = f a
by_turn (Refused NeedsStock) a b f h = f a
by_turn (Refused (NeedsNames k m)) a b f h = f a

-- a client whose steps are its own has a call under way
pub busy_by : (f : Phase) (x : ClientState) → IsOwnPhase f → IsIn f x → IsIdle x.node → ⊥
busy_by Rests x own h idle = own
busy_by Wants x own h idle = own
busy_by Calls x own h idle = h.0 idle
busy_by Ends x own h idle = subst HasCommitted idle.calls h.0

-- The seat s was the port's before its access, and t is it now; the client's call is this one.
pub record Told (x y : ClientState) (call : Call) (s t : ℕ) (p q : Plain) (r : NodeTurn) : Type 0 where
  pub made : NodeMade (λ (a : Step) b n. Stepped a b true s n p q × Made p.setup.pool a b (view_at p s) (Some (open_of p)) n (view_at q t) (Some (open_of q))) x.node call (view_at p s) x.room y.node (view_at q t) y.room r
  pub went : NodeWent x.node call y.room (view_at p s) (Some (open_of p)) y.node (view_at q t) (Some (open_of q)) r
  pub refused : OnRefused r (((a : Step) × RefusedAt (act_of a 0) s p q) × (y.room ≡ x.room))
  pub asked : OnMade r (x.refusing ≡ false)
  pub forced : OnRefused r (x.refusing ≡ true)
  pub same : Same p q
  pub holds : NodeHolds y.node call (view_at q t) y.room
  pub rest : y ≡ record x { node = y.node; room = y.room; refusing = false }

-- what the node holds before its access, at the port's seat
pub holds_as : (x : ClientState) (call : Call) (i s : ℕ) (p p0 : Plain) → p0 ≡ p → s ≡ i → call ≡ call_at x (view_at p i) → NodeHolds x.node (call_at x (view_at p i)) (view_at p i) x.room → NodeHolds x.node call (view_at p0 s) x.room
holds_as x call i s p p0 ep es ec h =
    subst (λ (z : Plain). NodeHolds x.node call (view_at z s) x.room) (sym ep) (subst (λ (k : ℕ). NodeHolds x.node call (view_at p k) x.room) (sym es) (subst (λ (c : Call). NodeHolds x.node c (view_at p i) x.room) (sym ec) h))

-- the seat of the port is the client's
pub reached : (x y : ClientState) (call : Call) (i s t : ℕ) (p0 p q0 q : Plain) (r : NodeTurn) → p0 ≡ p → q0 ≡ q → s ≡ i → t ≡ s → call ≡ call_at x (view_at p i) → Told x y call s t p0 q0 r → Accesses i x y p q r
reached x y call i s t p0 p q0 q r ep eq es et ec told =
    let a : Told x y call i i p q r = subst (λ (k : ℕ). Told x y call k k p q r) es (subst (λ (z : Plain). Told x y call s s p z r) eq (subst (λ (z : Plain). Told x y call s s z q0 r) ep (subst (λ (k : ℕ). Told x y call s k p0 q0 r) et told))) in
    let b : Told x y (call_at x (view_at p i)) i i p q r = subst (λ (z : Call). Told x y z i i p q r) ec a in
    record { made = b.made; went = b.went; refused = b.refused; asked = b.asked; forced = b.forced; same = b.same; holds = b.holds; rest = b.rest }

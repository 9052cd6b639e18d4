-- A step of a call on a slot: what the caller's step says, said of the node.
use Rattle.std.proofs.Common.{◌≡◌, ◌≢◌, ℕ, ◌<◌, ◌≤◌, List, [], ◌∷◌, drop, map, length, ◌⊎◌, inl, inr, Bool, false, refl, sym, ap, ◌∙◌, subst}
use Rattle.std.specs.Prelude.{Option}
use Rattle.clover_words.specs.declared.bytes.ValueBuf.{ValueBuf}
use Rattle.clover_words.specs.declared.pool.Pool.{Pool}
use Rattle.clover_words.specs.Tag.{TagParts, tag_number}
use Rattle.clover_map.specs.declared.call.Call.{Call}
use Rattle.clover_rule.specs.Content.{InRange}
use Rattle.clover_rule.specs.Learned.{rest_of}
use Rattle.clover_rule.specs.Lists.{Each}
use Rattle.clover_rule.specs.Steps.{Step, act_of, reply_of}
use Rattle.clover_rule.specs.declared.view.View.{View}
use Rattle.clover_port.specs.Told.{Open, Made}
use Rattle.clover_walk.specs.Walking.{budget, most_accesses}
use Rattle.clover_walk.proofs.Endings.{stepped}
use Rattle.clover_call.specs.Calling.{Calling, after}
use Rattle.clover_call.specs.Caller.{CallerState, CallerHolds, HasCommitted, IsUncommitted, call_under, is_first, new_tag, next_step}
use Rattle.clover_call.specs.Going.{GoesOn, IsDue, Stays, Went}
use Rattle.clover_call.specs.Mirroring.{Mirrors}
use Rattle.clover_call.specs.Turning.{reply_in, OnAhead, OnMade as OnCallMade, OnRefused as OnCallRefused}
use Rattle.clover_call.specs.declared.answer.Answer.{Answer}
use Rattle.clover_call.specs.declared.answer.CallerRefusal.TheVariants.{Unreached, Behind, Linked, TooLong}
use Rattle.clover_call.specs.declared.answer.CallerTurn.{CallerTurn}
use Rattle.clover_call.specs.declared.answer.CallerTurn.TheVariants.{More, Decided, Done, Refused}
use Rattle.clover_call.specs.declared.under.Underway.{Underway}
use Rattle.clover_call.specs.declared.under.Underway.TheVariants.{Nothing, Get, Write}
use Rattle.clover_call.proofs.Owned.{apart, commit_calls, quiet_calls, short_calls}
use Rattle.clover_call.proofs.GetStep.{ended_calls}
use Rattle.clover_node.specs.Asking.{Asking, Calls}
use Rattle.clover_node.specs.Going.{Enters, GoesAt, GoesFar, IsDueAt, IsOpen, KeepsCaller, NodeGoesOn, NodeIsDue, NodeTurns, NodeWent, SaysAt, stock_behind, with_entry}
use Rattle.clover_node.specs.Mirroring.{AskMirrors, UnderMirrors}
use Rattle.clover_node.specs.Node.{NodeState, NodeHolds, IsAsked, IsIdle, IsUnder, first_of, node_first, node_step, step_of}
use Rattle.clover_node.specs.Turning.{OnGoing, OnMade, OnOver, of_turn}
use Rattle.clover_node.specs.declared.answer.NodeTurn.{NodeTurn}
use Rattle.clover_node.specs.declared.counting.Counting.{Counting}
use Rattle.clover_node.specs.declared.counting.Counting.TheVariants.{No}

-- what was shown where the access was made
pub made_too : {A B : Type 0} (r : CallerTurn) → (A → B) → OnCallMade r A → OnMade (of_turn r) B
made_too More f a = f a
made_too (Decided x) f a = f a
made_too (Done x) f a = f a
made_too (Refused Unreached) f a = tt
made_too (Refused (Behind n)) f a = f a
made_too (Refused (Linked t)) f a = tt
made_too (Refused (TooLong l m)) f a = f a

-- the same for what a caller's turn says
pub map_made : {A B : Type 0} (r : CallerTurn) → (A → B) → OnCallMade r A → OnCallMade r B
map_made More f a = f a
map_made (Decided x) f a = f a
map_made (Done x) f a = f a
map_made (Refused Unreached) f a = tt
map_made (Refused (Behind n)) f a = f a
map_made (Refused (Linked t)) f a = tt
map_made (Refused (TooLong l m)) f a = f a

pub map_refused : {A B : Type 0} (r : CallerTurn) → (A → B) → OnCallRefused r A → OnCallRefused r B
map_refused More f a = tt
map_refused (Decided x) f a = tt
map_refused (Done x) f a = tt
map_refused (Refused Unreached) f a = f a
map_refused (Refused (Behind n)) f a = tt
map_refused (Refused (Linked t)) f a = f a
map_refused (Refused (TooLong l m)) f a = tt

-- the call that is under way on a slot
under_call : (u : Underway) (v : View) (call : Call) → IsUnder u v call → u ≢ Nothing → call_under u v ≡ call
under_call Nothing v call is busy = absurd (busy refl)
under_call (Get g) v call is busy = is
under_call (Write c) v call is busy = is

pub under_is : (u : Underway) (v : View) (call : Call) → call_under u v ≡ call → IsUnder u v call
under_is Nothing v call e = tt
under_is (Get g) v call e = e
under_is (Write c) v call e = e

mirrored : (u : Underway) (room : ValueBuf) (call : Call) (own : ℕ) (a : Asking) → u ≢ Nothing → UnderMirrors u room call own a → (c : Calling) × (a ≡ Calls c) × Mirrors u room call own c
mirrored Nothing room call own a busy m = absurd (busy refl)
mirrored (Get g) room call own a busy m = m
mirrored (Write c) room call own a busy m = m

mirrors_on : (u : Underway) (room : ValueBuf) (call : Call) (own : ℕ) (c : Calling) → Mirrors u room call own c → UnderMirrors u room call own (Calls c)
mirrors_on Nothing room call own c m = tt
mirrors_on (Get g) room call own c m = (c, refl, m)
mirrors_on (Write w) room call own c m = (c, refl, m)

-- a call that has committed nothing is not under way behind a commit
pub open_apart : (x : Underway) → IsOpen x → HasCommitted x → ⊥
open_apart Nothing h b = b
open_apart (Get g) h b = apart (Get g) h b
open_apart (Write c) h b = apart (Write c) h b

is_open : (x : Underway) → IsUncommitted x → IsOpen x
is_open Nothing b = tt
is_open (Get g) b = b
is_open (Write c) b = b

-- a stock behind its first tag
rest_tags : (ts : List TagParts) → rest_of (map tag_number ts) ≡ map tag_number (drop 1 ts)
rest_tags [] = refl
rest_tags (t ∷ ts) = refl

each_rest : {A : Type 0} (P : A → Type 0) (xs : List A) → Each P xs → Each P (drop 1 xs)
each_rest P [] h = h
each_rest P (x ∷ xs) h = h.1

each_behind : (P : TagParts → Type 0) (r : CallerTurn) (ts : List TagParts) → Each P ts → Each P (stock_behind (of_turn r) ts)
each_behind P More ts h = h
each_behind P (Decided a) ts h = each_rest P ts h
each_behind P (Done a) ts h = h
each_behind P (Refused y) ts h = h

-- the node behind such a turn, with its caller as it is then
abbrev pub behind : NodeState → CallerState → CallerTurn → NodeState
behind n k r = record n { caller = k; stock = stock_behind (of_turn r) n.stock }

module _ (n : NodeState) (call : Call) (room : ValueBuf) (v : View) (holds : NodeHolds n call v room) (calls : n.counting ≡ No) (busy : IsIdle n → ⊥) where
  abbrev x : Underway
  x = n.caller.under

  under_way : x ≢ Nothing
  under_way e = busy (record { counts = calls; calls = e })

  asked_call : call_under x v ≡ call
  asked_call = under_call x v call (subst (λ (c : Counting). IsAsked c n v call) calls holds.asked) under_way

  step_is : node_step n call v room ≡ next_step x v room
  step_is = ap (λ (c : Counting). step_of c n call v room) calls

  first_is : node_first n ≡ is_first x
  first_is = ap (λ (c : Counting). first_of c n) calls

  module _ (q : Pool) (o : Option Open) (k : CallerState) (room1 : ValueBuf) (w : View) (o1 : Option Open) where
    -- what an access that was made says
    abbrev Access : CallerTurn → Type 0
    Access r = (m : ℕ) × Made q (next_step x v room) (is_first x) v o m w o1 × Stays x v (next_step x v room) m k.under w r

    -- what a step leaves of the client, and of the call
    record Leaves (r : CallerTurn) : Type 0 where
      pub role : w.pass.role ≡ v.pass.role
      pub names : w.pass.names ≡ v.pass.names
      pub stock : w.pass.stock ≡ map tag_number (stock_behind (of_turn r) n.stock)
      pub enters : Enters (of_turn r) x call room1 v w
      pub asked : IsUnder k.under w call
      pub over : OnOver (of_turn r) (k.under ≡ Nothing)
      pub turns : NodeTurns (of_turn r) x k.under call room1
      pub later : OnGoing (of_turn r) ((is_first k.under ≡ false) × (k.under ≢ Nothing))

    nothing_left : k.under ≡ Nothing → IsUnder k.under w call
    nothing_left e = subst (λ (u : Underway). IsUnder u w call) (sym e) tt

    goes_on : call_under k.under w ≡ call_under x v → IsUnder k.under w call
    goes_on e = under_is k.under w call (e ∙ asked_call)

    abbrev Says : CallerTurn → Type 0
    Says r = Went n.caller.pool x k.under n.caller.cursors k.cursors room1 v o w o1 r

    quiet_leaves : (r : CallerTurn) (m : ℕ) → Made q (next_step x v room) (is_first x) v o m w o1 → w.pass.stock ≡ map tag_number (stock_behind (of_turn r) n.stock) → Enters (of_turn r) x call room1 v w → IsUnder k.under w call → OnOver (of_turn r) (k.under ≡ Nothing) → NodeTurns (of_turn r) x k.under call room1 → OnGoing (of_turn r) ((is_first k.under ≡ false) × (k.under ≢ Nothing)) → Leaves r
    quiet_leaves r m made stock enters asked over turns later = let s = stepped q (next_step x v room) (is_first x) v o m w o1 made in record { role = s.role; names = s.names; stock = stock; enters = enters; asked = asked; over = over; turns = turns; later = later }

    more_turns : (IsUncommitted x × IsUncommitted k.under) ⊎ (HasCommitted x × HasCommitted k.under) → (IsOpen x × IsOpen k.under) ⊎ (HasCommitted x × HasCommitted k.under)
    more_turns (inl (b, b1)) = inl (is_open x b, is_open k.under b1)
    more_turns (inr b) = inr b

    committed_left : HasCommitted k.under → k.under ≢ Nothing
    committed_left b e = subst HasCommitted e b

    more_left : (IsUncommitted x × IsUncommitted k.under) ⊎ (HasCommitted x × HasCommitted k.under) → k.under ≢ Nothing
    more_left (inl b) e = subst IsUncommitted e b.1
    more_left (inr b) e = subst HasCommitted e b.1

    done_leaves : (a : Answer) → Access (Done a) → Says (Done a) → Leaves (Done a)
    done_leaves a (m, made, stays) g = by g.turns.0
      where
        by : IsUncommitted x ⊎ HasCommitted x → Leaves (Done a)
        by (inl b) =
            let e = ended_calls n.caller.pool (call_under x v) (reply_in a room1) v o w o1 (g.done.1.tail b).0 in
            quiet_leaves (Done a) m made (stays.stock ∙ holds.stock) ((λ h. absurd (apart x b h)), (λ h. e ∙ (λ i. with_entry v (asked_call i) (reply_in a room1)))) (nothing_left g.turns.1) g.turns.1 (inl (is_open x b)) tt
        by (inr h) =
            let e = short_calls q (is_first x) v o m w o1 _ (new_tag x) (subst (λ (z : Step). Made q z (is_first x) v o m w o1) (stays.shortens h) made) in
            quiet_leaves (Done a) m made (stays.stock ∙ holds.stock) ((λ b. e), (λ b. absurd (open_apart x b h))) (nothing_left g.turns.1) g.turns.1 (inr (h, (g.done.1.own h).1 ∙ (λ i. reply_of (new_tag x) (asked_call i)))) tt

    refused_leaves : (y : _) → w ≡ v → k.under ≡ Nothing → NodeTurns (of_turn (Refused y)) x k.under call room1 → Leaves (Refused y)
    refused_leaves y same over turns = record {
      role = ap (λ (z : View). z.pass.role) same;
      names = ap (λ (z : View). z.pass.names) same;
      stock = ap (λ (z : View). z.pass.stock) same ∙ holds.stock;
      enters = ap (λ (z : View). z.pass.calls) same;
      asked = nothing_left over;
      over = over;
      turns = turns;
      later = tt;
    }

    leaves : (r : CallerTurn) → OnCallMade r (Access r) → OnCallRefused r (w ≡ v) → Says r → Leaves r
    leaves More (m, made, stays) f g = let e = quiet_calls q (is_first x) v o m w o1 (next_step x v room) made stays.quiet in quiet_leaves More m made (stays.stock ∙ holds.stock) e (goes_on stays.same.call) tt (more_turns g.turns, stays.same.tag) (stays.same.later, more_left g.turns)
    leaves (Decided a) (m, made, stays) f g =
        let e = commit_calls n.caller.pool (call_under x v) v o w o1 (new_tag x) g.decided.0 in
        let rest : w.pass.stock ≡ rest_of v.pass.stock = sym (ap rest_of stays.stock) in
        quiet_leaves (Decided a) m made (rest ∙ ap rest_of holds.stock ∙ rest_tags n.stock) (e ∙ ap (λ (y : _). with_entry v (call_under x v) y) (sym g.decided.1) ∙ (λ i. with_entry v (asked_call i) (reply_in a room1))) (goes_on stays.same.call) tt (is_open x g.turns.0, g.turns.1, stays.same.tag, g.decided.1 ∙ (λ i. reply_of (new_tag x) (asked_call i))) (stays.same.later, committed_left g.turns.1)
    leaves (Done a) m f g = done_leaves a m g
    leaves (Refused Unreached) m f g = refused_leaves Unreached f g.turns.1 (is_open x g.turns.0)
    leaves (Refused (Behind turns)) (m, made, stays) f g =
        let e = quiet_calls q (is_first x) v o m w o1 (next_step x v room) made stays.quiet in
        quiet_leaves (Refused (Behind turns)) m made (stays.stock ∙ holds.stock) e (nothing_left g.turns.1) g.turns.1 (is_open x g.turns.0) tt
    leaves (Refused (Linked t)) m f g = refused_leaves (Linked t) f g.turns.2 (g.turns.0, g.turns.1)
    leaves (Refused (TooLong l r)) m f g = absurd g.turns

    over_on : (r : CallerTurn) → OnOver (of_turn r) (k.under ≡ Nothing) → OnOver (of_turn r) (IsIdle (behind n k r))
    over_on More h = tt
    over_on (Decided a) h = tt
    over_on (Done a) h = record { counts = calls; calls = h }
    over_on (Refused y) h = record { counts = calls; calls = h }

    module _ (pool : k.pool ≡ n.caller.pool) where
      far_by : (r : CallerTurn) → length w.pass.since ≤ most_accesses n.caller.pool w.pass.turns → w.pass.turns < budget n.caller.pool → (is_first k.under ≡ false) × (k.under ≢ Nothing) → GoesFar (behind n k r) w
      far_by r few ahead later = record {
        busy = λ i. later.1 i.calls;
        later = ap (λ (c : Counting). first_of c (behind n k r)) calls ∙ later.0;
        bound = subst (λ (p : Pool). length w.pass.since ≤ most_accesses p w.pass.turns) (sym pool) few;
        ahead = subst (λ (p : Pool). w.pass.turns < budget p) (sym pool) ahead;
      }

      far_on : (r : CallerTurn) → OnCallMade r (length w.pass.since ≤ most_accesses n.caller.pool w.pass.turns) → OnAhead r (w.pass.turns < budget n.caller.pool) → OnGoing (of_turn r) ((is_first k.under ≡ false) × (k.under ≢ Nothing)) → OnGoing (of_turn r) (GoesFar (behind n k r) w)
      far_on More few ahead later = far_by More few ahead later
      far_on (Decided a) few ahead later = far_by (Decided a) few ahead later
      far_on (Done a) few ahead later = tt
      far_on (Refused y) few ahead later = tt

    module _ (r : CallerTurn) (made : OnCallMade r (Access r)) (refused : OnCallRefused r (w ≡ v)) (went : Says r) (pool : k.pool ≡ n.caller.pool) where
      pub slot_went : NodeWent n call room1 v o (behind n k r) w o1 (of_turn r)
      slot_went = let l = leaves r made refused went in record {
        kept = λ i. record (behind n k r) { counting = calls i };
        pool = pool;
        still = subst (λ (c : Counting). KeepsCaller c n (behind n k r)) (sym calls) tt;
        turns = l.turns;
        going = far_on pool r went.bound went.ahead l.later;
        over = over_on r l.over;
        says = subst (λ (c : Counting). SaysAt c n.caller.pool n call room1 v o (behind n k r) w o1 (of_turn r)) (sym calls) (r, refl, went);
        enters = l.enters;
      }

      pub slot_holds : CallerHolds k w room1 → NodeHolds (behind n k r) call w room1
      slot_holds on = let l = leaves r made refused went in record {
        role = l.role ∙ holds.role;
        stock = l.stock;
        names = l.names ∙ holds.names;
        tags = each_behind (λ (t : TagParts). InRange k.pool (tag_number t)) r n.stock (subst (λ (p : Pool). Each (λ (t : TagParts). InRange p (tag_number t)) n.stock) (sym pool) holds.tags);
        slots = subst (λ (p : Pool). Each (λ (e : ℕ × List ℕ). e.0 < p.slots) n.names) (sym pool) holds.slots;
        once = holds.once;
        caller = on;
        asked = subst (λ (c : Counting). IsAsked c (behind n k r) w call) (sym calls) l.asked;
      }

  module _ (k : CallerState) (room1 : ValueBuf) (w : View) (r : CallerTurn) (m : ℕ) where
    slot_due : IsDue x room (next_step x v room) m k.under room1 r → NodeIsDue n room (node_step n call v room) m (behind n k r) room1 (of_turn r)
    slot_due due other own a at =
        let is = mirrored x room other own a under_way (subst (λ (c : Counting). AskMirrors c n room other own a) calls at) in
        let d = due other own is.0 is.2 in
        subst (λ (b : Asking). IsDueAt n (node_step n call v room) m (behind n k r) room1 (of_turn r) other own b) (sym is.1) (record {
          step_due = d.step_due;
          due = d.due;
          acts = λ j. ap (λ (s : Step). act_of s j) step_is ∙ d.acts j;
          leads = subst (λ (c : Counting). AskMirrors c (behind n k r) room1 other own (Calls (after other own is.0 m))) (sym calls) (mirrors_on k.under room1 other own (after other own is.0 m) d.leads);
          tells = (r, refl, d.tells);
        })

    -- the access of the caller is the node's
    pub slot_made : (M : Step → Bool → ℕ → Type 0) → M (next_step x v room) (is_first x) m → GoesOn x room m r k.under room1 → IsDue x room (next_step x v room) m k.under room1 r → Stays x v (next_step x v room) m k.under w r
        → (i : ℕ) × M (node_step n call v room) (node_first n) i × NodeGoesOn n v room (node_step n call v room) i (of_turn r) (behind n k r) w room1 × NodeIsDue n room (node_step n call v room) i (behind n k r) room1 (of_turn r)
    slot_made M made go due stays = (
      m,
      subst (λ (b : Bool). M (node_step n call v room) b m) (sym first_is) (subst (λ (s : Step). M s (is_first x) m) (sym step_is) made),
      subst (λ (c : Counting). GoesAt c n v room (step_of c n call v room) m (of_turn r) (behind n k r) w room1) (sym calls) (r, refl, go, stays),
      slot_due due,
    )

-- what was shown of other names of the node before a step and behind it, and of its turn
pub at_node : (P : NodeState → NodeState → NodeTurn → Type 0) (z n n1 m : NodeState) (t u : NodeTurn) → z ≡ n → n1 ≡ m → t ≡ u → P z m u → P n n1 t
at_node P z n n1 m t u before after turn h = subst (λ (s : NodeState). P s n1 t) before (subst (λ (s : NodeState). P z s t) (sym after) (subst (λ (s : NodeTurn). P z m s) (sym turn) h))

-- Where a call on a slot stands: as it is started, behind each access that was made, and as another standing tells the same; and how many accesses it makes.
use Rattle.std.proofs.Common.{◌≡◌, ◌≢◌, ℕ, ◌*◌, ◌≤◌, ◌<◌, List, [], ◌∷◌, ◌++◌, length, map, cond, inl, inr, refl, sym, ap, ◌∙◌, subst, arith}
use Rattle.std.specs.Prelude.{Option, Some, None, ◌⊎◌, slice_get}
use Rattle.clover_words.specs.declared.bytes.ValueBuf.{ValueBuf}
use Rattle.clover_words.specs.declared.pool.Pool.{Pool}
use Rattle.clover_words.specs.declared.setup.Setup.{Setup}
use Rattle.clover_words.specs.Tag.{TagParts, tag_number}
use Rattle.clover_map.specs.History.{key_of}
use Rattle.clover_map.specs.declared.call.Call.{Call}
use Rattle.clover_map.specs.declared.call.Call.TheVariants.{Get, Put, Delete, Swap}
use Rattle.clover_map.specs.declared.call.Reply.{Reply}
use Rattle.clover_rule.specs.Names.{KeysOnce}
use Rattle.clover_rule.specs.Steps.{Step, act_of}
use Rattle.clover_rule.specs.declared.access.Act.{Act}
use Rattle.clover_rule.specs.declared.view.View.{View}
use Rattle.clover_plain.specs.Plain.{Plain, view_at}
use Rattle.clover_cache.specs.Node.{cursor_at}
use Rattle.clover_walk.specs.Standing.{number_of}
use Rattle.clover_walk.specs.Walking.{Walking, made_walk, budget, most_accesses}
use Rattle.clover_call.specs.Beginning.{IsBegun, given_number, size_of}
use Rattle.clover_call.specs.Caller.{CallHolds, is_first}
use Rattle.clover_call.specs.Calling.{Calling, begun_call, due, after, LeadsTo}
use Rattle.clover_call.specs.Mirroring.{Mirrors}
use Rattle.clover_call.specs.declared.under.Underway.{Underway}
use Rattle.clover_call.specs.declared.under.Underway.TheVariants.{Nothing as NoCall, Get as GetUnder, Write as WriteUnder}
use Rattle.clover_call.proofs.Begins.{mirrors}
use Rattle.clover_call.proofs.Calling.{leads_more}
use Rattle.clover_node.specs.Beginning.{NodeStarts, Refuses, own_tag as node_tag}
use Rattle.clover_node.specs.Node.{NodeState, NodeHolds, IsAsked, first_of as node_first_of}
use Rattle.clover_node.specs.declared.answer.NodeRefusal.TheVariants.{NeedsStock}
use Rattle.clover_node.specs.declared.counting.Counting.{Counting}
use Rattle.clover_node.specs.declared.counting.Counting.TheVariants.{No, Names as CountsNames, Absence}
use Rattle.clover_event.specs.Client.{since_of as since_under}
use Rattle.clover_event.specs.Ends.{MayBegin}
use Rattle.clover_event.specs.Machine.{most_made}
use Rattle.clover_event.specs.Run.{room}
use Rattle.clover_event.proofs.Bound.{AreBindings}
use Rattle.clover_event.proofs.Budget.{leads_within, begun_within}
use Rattle.clover_event.proofs.Dues.{after_turns, more_allow, stands_turns, under_within, words_fit}
use Rattle.clover_run.specs.Client.{GoesSoFar, MakesDue, Remembers, Started, call_at, call_or, since_of}
use Rattle.clover_run.specs.Run.{Opening, Standing, IsCalling, IsDue, IsDueOn, Tells, first_of, known_slot, own_tag}
use Rattle.clover_run.specs.Wanting.{slot_for}
use Rattle.clover_run.specs.declared.client.ClientState.{ClientState}
use Rattle.clover_run.specs.declared.event.Note.{Note}
use Rattle.clover_run.specs.declared.want.Want.TheVariants.{Nothing, Stock}
use Rattle.clover_run.proofs.Names.{slot_within, slot_new, are_bindings}
use Rattle.clover_run.proofs.Remembering.{may_begin}
use Rattle.clover_run.proofs.Starting.{IsReady, SaysStart}

-- the tag that a call may commit before it is decided is the first of the stock
pub own_first : (st : Standing) → st.does.decided ≡ None → own_tag st ≡ first_of st.does.stock
own_first st none = ap (λ (r : Option Reply). own_tag (record st { does = record st.does { decided = r } })) none

first_number : (ts : List TagParts) → given_number (slice_get ts 0) ≡ first_of (map tag_number ts)
first_number [] = refl
first_number (t ∷ ts) = refl

-- a call that may commit
abbrev May : Call → Type 0
May (Get key) = ⊥
May call = Unit {0}

-- and it is the node's
own_is : (n : NodeState) (call : Call) → May call → node_tag n call ≡ first_of (map tag_number n.stock)
own_is n (Get key) may = absurd may
own_is n (Put key value) may = first_number n.stock
own_is n (Delete key) may = first_number n.stock
own_is n (Swap key expected value) may = first_number n.stock

-- the tag of a get is none of its own
begun_own : (w : Walking) (own own1 : ℕ) (call : Call) (u : Underway) → (May call → own ≡ own1) → IsBegun w own call u → IsBegun w own1 call u
begun_own w own own1 (Get key) u same is = is
begun_own w own own1 (Put key value) u same is = subst (λ (t : ℕ). IsBegun w t (Put key value) u) (same tt) is
begun_own w own own1 (Delete key) u same is = subst (λ (t : ℕ). IsBegun w t (Delete key) u) (same tt) is
begun_own w own own1 (Swap key expected value) u same is = subst (λ (t : ℕ). IsBegun w t (Swap key expected value) u) (same tt) is

-- behind a start on the slot of its key a call stands where it begins
pub goes_first : (s : Setup) (st : Standing) (x y : ClientState) (call : Call) (slot : ℕ) → x.node.caller.pool ≡ s.pool → SaysStart x call st.does → st.names ≡ x.node.names → NodeStarts x.node call y.node → AreBindings x.node.names → Remembers x.node.names x.node.caller.cursors st.ended → known_slot st call ≡ Some slot → GoesSoFar s.pool st y call
goes_first s st x y call slot pool says names starts are remembers known =
    let at : slot_for (key_of call) x.node.names ≡ Some slot = ap (slot_for (key_of call)) (sym names) ∙ known in
    let within = slot_within (key_of call) x.node.names slot at in
    let begins = (starts.named slot within).1 in
    let cursor : Option ℕ = number_of (cursor_at slot x.node.caller.cursors) in
    let own_st : May call → node_tag x.node call ≡ own_tag st = (λ may. own_is x.node call may ∙ sym (own_first st says.decided ∙ ap first_of says.stock)) in
    let begun : IsBegun (made_walk s.pool slot cursor) (own_tag st) call y.node.caller.under = begun_own (made_walk s.pool slot cursor) (node_tag x.node call) (own_tag st) call y.node.caller.under own_st (subst (λ (p : Pool). IsBegun (made_walk p slot cursor) (node_tag x.node call) call y.node.caller.under) pool begins.begun) in
    record {
      slot = slot;
      known = known;
      stands = begun_call s.pool slot cursor (own_tag st) call;
      calling = record {
        cursor = cursor;
        may = may_begin x.node.names are x.node.caller.cursors st.ended slot (key_of call) remembers within;
        leads = subst (λ (acts : List Act). LeadsTo call (own_tag st) (begun_call s.pool slot cursor (own_tag st) call) acts (begun_call s.pool slot cursor (own_tag st) call)) (sym says.since) refl;
      };
      under = mirrors s.pool slot cursor (own_tag st) call y.node.caller.under y.room begun;
      fits = words_fit s call (subst (λ (p : Pool). size_of call ≤ 8 * p.words) pool starts.fits);
    }

-- a client that has started a call on a slot has it stand where it begins
module _ (o : Opening) (p : Plain) (i : ℕ) (st : Standing) (x y : ClientState) (call : Call) (r : IsReady o p i x call) (s : Started x y call) (says : SaysStart x call st.does) (names : st.names ≡ x.node.names) (keys : KeysOnce x.node.names) (remembers : Remembers x.node.names x.node.caller.cursors st.ended) (busy : y.node.caller.under ≢ NoCall) where
  node_goes : NodeStarts x.node call y.node → GoesSoFar o.setup.pool st y call
  node_goes t = by_slot (known_slot st call) refl
    where
      by_slot : (k : Option ℕ) → known_slot st call ≡ k → GoesSoFar o.setup.pool st y call
      by_slot None e =
          let new = slot_new (key_of call) x.node.names (ap (slot_for (key_of call)) (sym names) ∙ e) in
          absurd (busy (ap (λ (n : NodeState). n.caller.under) (t.unnamed new) ∙ r.idle.calls))
      by_slot (Some slot) e = goes_first o.setup st x y call slot r.pool says names t (are_bindings x.node.names r.holds.once keys) remembers e

  how_goes : (NodeStarts x.node call y.node × (y.want ≡ Nothing)) ⊎ ((y.node ≡ x.node) × (y.want ≡ Stock) × Refuses x.node call NeedsStock) → GoesSoFar o.setup.pool st y call
  how_goes (inl (t, want)) = node_goes t
  how_goes (inr (same, want, refuses)) = absurd (busy (ap (λ (n : NodeState). n.caller.under) same ∙ r.idle.calls))

  pub started_goes : GoesSoFar o.setup.pool st y (call_at y (view_at p i))
  started_goes = subst (GoesSoFar o.setup.pool st y) (sym (ap (λ (c : Option Call). call_or c y (view_at p i)) (ap (λ (z : ClientState). z.call) s.kept ∙ r.call_is))) (how_goes s.how)

-- a standing that says the same of the call tells where it stands alike, of a client with the same under way
pub goes_as : (p : Pool) (st st1 : Standing) (x y : ClientState) (call : Call) → y.node.caller.under ≡ x.node.caller.under → y.room ≡ x.room → st1.names ≡ st.names → st1.ended ≡ st.ended → own_tag st1 ≡ own_tag st → st1.does.since ≡ st.does.since → GoesSoFar p st x call → GoesSoFar p st1 y call
goes_as p st st1 x y call under room names ended own since g = record {
  slot = g.slot;
  known = ap (slot_for (key_of call)) names ∙ g.known;
  stands = g.stands;
  calling = record {
    cursor = g.calling.cursor;
    may = subst (λ (h : List (List ℕ × ℕ)). MayBegin h (key_of call) g.calling.cursor) (sym ended) g.calling.may;
    leads = subst (λ (acts : List Act). LeadsTo call (own_tag st1) (begun_call p g.slot g.calling.cursor (own_tag st1) call) acts g.stands) (sym since)
        (subst (λ (t : ℕ). LeadsTo call t (begun_call p g.slot g.calling.cursor t call) st.does.since g.stands) (sym own) g.calling.leads);
  };
  under = subst (λ (t : ℕ). Mirrors y.node.caller.under y.room call t g.stands) (sym own) (subst (λ (u : Underway). Mirrors u y.room call (own_tag st) g.stands) (sym under) (subst (λ (b : ValueBuf). Mirrors x.node.caller.under b call (own_tag st) g.stands) (sym room) g.under));
  fits = g.fits;
}

-- a node with a call on a slot loads no count, and the acts of its call are those of what is under way there
pub counts_none : (n : NodeState) (call : Call) (v : View) → n.caller.under ≢ NoCall → IsAsked n.counting n v call → n.counting ≡ No
counts_none n call v busy h = go n.counting h
  where
    go : (c : Counting) → IsAsked c n v call → c ≡ No
    go No h = refl
    go CountsNames h = absurd (busy h.idle)
    go Absence h = absurd (busy h.idle)

pub since_is : (n : NodeState) (v : View) → n.caller.under ≢ NoCall → n.counting ≡ No → since_of n v ≡ since_under n.caller.under v
since_is n v busy none = ap (λ (c : Counting). cond (node_first_of c n) [] v.pass.since) none ∙ go n.caller.under busy
  where
    go : (u : Underway) → u ≢ NoCall → cond (is_first u) [] v.pass.since ≡ since_under u v
    go NoCall busy = absurd (busy refl)
    go (GetUnder g) busy = refl
    go (WriteUnder c) busy = refl

-- a client with a call on a slot that stands so
module _ (p : Pool) (st : Standing) (v : View) (x : ClientState) (call other : Call) (busy : x.node.caller.under ≢ NoCall) (pool : x.node.caller.pool ≡ p) (holds : NodeHolds x.node other v x.room) (g : GoesSoFar p st x call) where
  same_since : since_of x.node v ≡ since_under x.node.caller.under v
  same_since = since_is x.node v busy (counts_none x.node other v busy holds.asked)

  turns_few : length (since_of x.node v) < most_accesses p g.stands.walk.turns
  turns_few =
      let is = subst (λ (z : Pool). CallHolds z x.node.caller.under v x.room) pool holds.caller.call in
      let few = under_within p x.node.caller.under v x.room call (own_tag st) g.stands busy is g.under g.fits in
      let turns = stands_turns x.node.caller.under x.room call (own_tag st) g.stands busy g.under in
      subst (λ (acts : List Act). length acts < most_accesses p g.stands.walk.turns) (sym same_since) (subst (λ (t : ℕ). length (since_under x.node.caller.under v) < most_accesses p t) (sym turns) few)

  -- it has made fewer accesses than a call makes at most
  pub since_few : length (since_of x.node v) < most_made p
  since_few =
      let within = leads_within p call (own_tag st) (begun_call p g.slot g.calling.cursor (own_tag st) call) g.stands st.does.since g.calling.leads (begun_within p g.slot g.calling.cursor) in
      let few = turns_few in
      let most = more_allow g.stands.walk.turns (budget p) p.words (subst (λ (q : Pool). g.stands.walk.turns ≤ budget q) within.pool within.most) in
      omega arith

  -- an access that is the step that is due of what is under way is due in the run, and leads what is under way on
  module _ (y : ClientState) (act : Act) (note : Note) (since : st.does.since ≡ since_of x.node v) (makes : MakesDue x y act note) where
    made : (b : Step) × (k : ℕ) × (due call (own_tag st) g.stands ≡ Some b) × (act ≡ act_of b k) × Mirrors y.node.caller.under y.room call (own_tag st) (after call (own_tag st) g.stands k) × Tells call (own_tag st) (after call (own_tag st) g.stands k) note
    made = makes call (own_tag st) g.stands g.under

    abbrev next : Calling
    next = after call (own_tag st) g.stands made.1

    calling : IsCalling p st g.slot call (st.does.since ++ act ∷ []) next
    calling = record {
      cursor = g.calling.cursor;
      may = g.calling.may;
      leads = leads_more call (own_tag st) (begun_call p g.slot g.calling.cursor (own_tag st) call) g.stands st.does.since act made.0 made.1 g.calling.leads made.2 made.3;
    }

    is_due : IsDue p st g.slot call act note
    unfolding calling made
    is_due = record {
      stands = next;
      calling = calling;
      tells = made.5;
      few =
          let count = ap length since in
          let few = turns_few in
          let rise = after_turns call (own_tag st) g.stands made.1 in
          let more = more_allow g.stands.walk.turns next.walk.turns p.words rise in
          omega arith;
    }

    pub due_on : IsDueOn p st (known_slot st call) call act note
    due_on = subst (λ (s : Option ℕ). IsDueOn p st s call act note) (sym g.known) is_due

    leads_on : GoesSoFar p (record st { does = record st.does { since = st.does.since ++ act ∷ [] } }) y call
    unfolding calling made
    leads_on = record {
      slot = g.slot;
      known = g.known;
      stands = next;
      calling = record { cursor = calling.cursor; may = calling.may; leads = calling.leads };
      under = made.4;
      fits = g.fits;
    }

    -- as the standing behind the access tells
    pub goes_on : (st1 : Standing) → st1.names ≡ st.names → st1.ended ≡ st.ended → own_tag st1 ≡ own_tag st → st1.does.since ≡ st.does.since ++ act ∷ [] → GoesSoFar p st1 y call
    goes_on st1 names ended own since1 = goes_as p (record st { does = record st.does { since = st.does.since ++ act ∷ [] } }) st1 y y call refl refl names ended own since1 leads_on

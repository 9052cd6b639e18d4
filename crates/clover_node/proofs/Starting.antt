-- How a node starts a call: what its client held before still holds, and is what the call needs.
use Rattle.std.proofs.Common.{◌≡◌, ◌≢◌, ℕ, ◌<◌, ◌≤◌, List, [], ◌∷◌, map, true, refl, sym, ap, ◌∙◌, subst}
use Rattle.std.specs.Prelude.{Some, None, slice_get}
use Rattle.std.proofs.lemmas.Option.{same_Some}
use Rattle.clover_words.specs.declared.bytes.ValueBuf.{ValueBuf}
use Rattle.clover_words.specs.declared.pool.Pool.{Pool}
use Rattle.clover_words.specs.Tag.{TagParts, tag_number}
use Rattle.clover_map.specs.History.{key_of}
use Rattle.clover_map.specs.declared.call.Call.{Call}
use Rattle.clover_map.specs.declared.call.Call.TheVariants.{Get, Put, Delete, Swap}
use Rattle.clover_rule.specs.Content.{InRange}
use Rattle.clover_rule.specs.Lists.{Each, Within, nth}
use Rattle.clover_rule.specs.Views.{SlotsOnce}
use Rattle.clover_rule.specs.declared.view.View.{View}
use Rattle.clover_rule.proofs.Steps.{each_within}
use Rattle.clover_rule.proofs.Snocs.{within_nth}
use Rattle.clover_walk.specs.Walking.{Walking, key_at}
use Rattle.clover_walk.proofs.Calling.{made_holds}
use Rattle.clover_dir.specs.Names.{IsNew}
use Rattle.clover_call.specs.Beginning.{IsBegun, IsNext, MayStart, Starts, given_number, size_of}
use Rattle.clover_call.specs.Caller.{CallerState, is_first}
use Rattle.clover_call.specs.declared.under.Underway.{Underway}
use Rattle.clover_call.specs.declared.under.Underway.TheVariants.{Nothing}
use Rattle.clover_call.proofs.Begins.{made_first}
use Rattle.clover_node.specs.Beginning.{NeedsBuffer, NodeStarts, counts_for, own_tag, room_of}
use Rattle.clover_node.specs.Going.{IsOpen}
use Rattle.clover_node.specs.Node.{NodeState, NodeHolds, Counts, IsAsked, IsCounting, IsIdle, first_of}
use Rattle.clover_node.specs.declared.counting.Counting.{Counting}
use Rattle.clover_node.specs.declared.counting.Counting.TheVariants.{No}
use Rattle.clover_node.proofs.OnSlot.{under_is}

-- a slot that stands once has one key
one_key : (names : List (ℕ × List ℕ)) (s : ℕ) (k k1 : List ℕ) → SlotsOnce names → Within (s, k) names → Within (s, k1) names → k1 ≡ k
one_key names s k k1 once a b =
    let i = within_nth (s, k) names a in let j = within_nth (s, k1) names b in
    let same : j.0 ≡ i.0 = once j.0 i.0 s k1 k j.1 i.1 in
    ap (λ (q : ℕ × List ℕ). q.1) (same_Some (s, k1) (s, k) (sym j.1 ∙ ap (nth names) same ∙ i.1))

-- a call that begins has made no access
begun_first : (w : Walking) (own : ℕ) (call : Call) (u : Underway) → w.first ≡ true → IsBegun w own call u → is_first u ≡ true
begun_first w own (Get key) u e is = ap is_first is ∙ e
begun_first w own (Put key value) u e is = ap is_first is ∙ e
begun_first w own (Delete key) u e is = ap is_first is ∙ e
begun_first w own (Swap key expected value) u e (t, same, is) = ap is_first is ∙ e

begun_busy : (w : Walking) (own : ℕ) (call : Call) (u : Underway) → IsBegun w own call u → u ≡ Nothing → ⊥
begun_busy w own (Get key) u is e = let z = sym e ∙ is in cc
begun_busy w own (Put key value) u is e = let z = sym e ∙ is in cc
begun_busy w own (Delete key) u is e = let z = sym e ∙ is in cc
begun_busy w own (Swap key expected value) u (t, same, is) e = let z = sym e ∙ is in cc

-- nor has it committed anything
begun_open : (w : Walking) (own : ℕ) (call : Call) (u : Underway) → IsBegun w own call u → IsOpen u
begun_open w own (Get key) u is = subst IsOpen (sym is) tt
begun_open w own (Put key value) u is = subst IsOpen (sym is) tt
begun_open w own (Delete key) u is = subst IsOpen (sym is) tt
begun_open w own (Swap key expected value) u (t, same, is) = subst IsOpen (sym is) tt

-- the first tag of the stock
first_number : (ts : List TagParts) → ts ≢ [] → (rest : List ℕ) × (map tag_number ts ≡ given_number (slice_get ts 0) ∷ rest)
first_number [] some = absurd (some refl)
first_number (t ∷ ts) some = (map tag_number ts, refl)

next_tag : (n : NodeState) (call : Call) (v : View) → v.pass.stock ≡ map tag_number n.stock → (NeedsBuffer n call → n.stock ≢ []) → (slot : ℕ) → Within (slot, key_of call) n.names → IsNext v (own_tag n call) call
next_tag n (Get key) v stock some slot at = tt
next_tag n (Put key value) v stock some slot at = let f = first_number n.stock (some tt) in (f.0, stock ∙ f.1)
next_tag n (Delete key) v stock some slot at = let f = first_number n.stock (some (slot, at)) in (f.0, stock ∙ f.1)
next_tag n (Swap key expected value) v stock some slot at = let f = first_number n.stock (some (slot, at)) in (f.0, stock ∙ f.1)

module _ (n : NodeState) (call : Call) (idle : IsIdle n) (fits : size_of call ≤ room_of n) (some : NeedsBuffer n call → n.stock ≢ []) where
  module _ (slot : ℕ) (k : CallerState) (at : Within (slot, key_of call) n.names) (only : (s : ℕ) → Within (s, key_of call) n.names → Some slot ≡ Some s) (starts : Starts n.caller slot (own_tag n call) call k) where
    may_start : (other : Call) (v : View) (room : ValueBuf) → NodeHolds n other v room → MayStart slot (own_tag n call) call v
    may_start other v room h =
        let here : Within (slot, key_of call) v.pass.names = subst (λ (names : List (ℕ × List ℕ)). Within (slot, key_of call) names) (sym h.names) at in
        let first = (made_holds n.caller.pool slot (key_of call) None v h.caller.pool h.caller.client here tt).named in
        record {
          named = here;
          key = one_key v.pass.names slot (key_of call) (key_at v.pass.names slot) (subst SlotsOnce (sym h.names) h.once) here first;
          next = next_tag n call v h.stock some slot at;
        }

    slot_holds : (other : Call) (v : View) (room : ValueBuf) → NodeHolds n other v room → NodeHolds (record n { caller = k }) call v room
    slot_holds other v room h =
        let s = starts.holds v room h.caller (may_start other v room h) in
        record {
          role = h.role;
          stock = h.stock;
          names = h.names;
          tags = subst (λ (p : Pool). Each (λ (t : TagParts). InRange p (tag_number t)) n.stock) (sym starts.pool) h.tags;
          slots = subst (λ (p : Pool). Each (λ (q : ℕ × List ℕ). q.0 < p.slots) n.names) (sym starts.pool) h.slots;
          once = h.once;
          caller = s.0;
          asked = subst (λ (c : Counting). IsAsked c (record n { caller = k }) v call) (sym idle.counts) (under_is k.under v call s.1);
        }

    -- it is started on its key's slot
    pub started_on : NodeStarts n call (record n { caller = k })
    started_on = record {
      fits = fits;
      stocked = some;
      named = λ s w. (refl, subst (λ (z : ℕ). Starts n.caller z (own_tag n call) call k) (same_Some slot s (only s w)) starts);
      unnamed = λ new. absurd (new slot at);
      kept = refl;
      uncommitted = begun_open _ (own_tag n call) call k.under starts.begun;
      busy = λ i. begun_busy _ (own_tag n call) call k.under starts.begun i.calls;
      first = ap (λ (c : Counting). first_of c (record n { caller = k })) idle.counts ∙ begun_first _ (own_tag n call) call k.under (made_first n.caller.pool slot _) starts.begun;
      holds = slot_holds;
    }

  counts_so : (c : Call) → Counts (counts_for c) c
  counts_so (Get key) = tt
  counts_so (Put key value) = tt
  counts_so (Delete key) = tt
  counts_so (Swap key expected value) = tt

  asked_so : (c : Call) (m : NodeState) (v : View) → IsCounting m c → IsAsked (counts_for c) m v c
  asked_so (Get key) m v h = h
  asked_so (Put key value) m v h = h
  asked_so (Delete key) m v h = h
  asked_so (Swap key expected value) m v h = h

  busy_so : (c : Call) → counts_for c ≡ No → ⊥
  busy_so (Get key) e = cc
  busy_so (Put key value) e = cc
  busy_so (Delete key) e = cc
  busy_so (Swap key expected value) e = cc

  first_so : (c : Call) (m : NodeState) → first_of (counts_for c) m ≡ true
  first_so (Get key) m = refl
  first_so (Put key value) m = refl
  first_so (Delete key) m = refl
  first_so (Swap key expected value) m = refl

  -- it is started by the load of the count
  pub started_count : IsNew (key_of call) n.names → NodeStarts n call (record n { counting = counts_for call })
  started_count new = record {
    fits = fits;
    stocked = some;
    named = λ s w. absurd (new s w);
    unnamed = λ z. refl;
    kept = refl;
    uncommitted = subst IsOpen (sym idle.calls) tt;
    busy = λ i. busy_so call i.counts;
    first = first_so call (record n { counting = counts_for call });
    holds = λ other v room h. record {
      role = h.role;
      stock = h.stock;
      names = h.names;
      tags = h.tags;
      slots = h.slots;
      once = h.once;
      caller = h.caller;
      asked = asked_so call (record n { counting = counts_for call }) v (record { counts = counts_so call; unnamed = new; idle = idle.calls });
    };
  }

-- what the caller asks for to start the call
pub slot_fits : (n : NodeState) (call : Call) (v : View) (room : ValueBuf) (slot : ℕ) (key : List ℕ) → NodeHolds n call v room → Within (slot, key) n.names → slot < n.caller.pool.slots
slot_fits n call v room slot key h at = each_within (λ (q : ℕ × List ℕ). q.0 < n.caller.pool.slots) (slot, key) n.names h.slots at

pub tag_fits : (n : NodeState) (call : Call) (v : View) (room : ValueBuf) (t : TagParts) → NodeHolds n call v room → slice_get n.stock 0 ≡ Some t → InRange n.caller.pool (tag_number t)
tag_fits n call v room t h at = first_fits n.stock h.tags at
  where
    first_fits : (ts : List TagParts) → Each (λ (u : TagParts). InRange n.caller.pool (tag_number u)) ts → slice_get ts 0 ≡ Some t → InRange n.caller.pool (tag_number t)
    first_fits [] e f = absurd cc
    first_fits (u ∷ us) e f = subst (λ (z : TagParts). InRange n.caller.pool (tag_number z)) (same_Some u t f) e.0

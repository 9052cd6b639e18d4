-- A call as a caller starts it: it is where the call of the definition begins, and its client holds what it needs.
use Rattle.std.proofs.Common.{◌≡◌, ℕ, [], ◌∷◌, List, true, refl, sym, ap, ◌∙◌, subst}
use Rattle.std.specs.Prelude.{Option, Some, None, IfSome}
use Rattle.std.proofs.lemmas.List.Elements.{All-nil}
use Rattle.clover_words.specs.declared.bytes.ValueBuf.{ValueBuf}
use Rattle.clover_words.specs.declared.pool.Pool.{Pool}
use Rattle.clover_words.specs.Tag.{TagParts, tag_number}
use Rattle.clover_map.specs.History.{key_of}
use Rattle.clover_map.specs.declared.bytes.Value.{Value}
use Rattle.clover_map.specs.declared.call.Call.{Call}
use Rattle.clover_map.specs.declared.call.Call.TheVariants.{Get as GetOf, Put as PutOf, Delete as DeleteOf, Swap as SwapOf}
use Rattle.clover_rule.specs.Content.{InRange}
use Rattle.clover_rule.specs.declared.view.View.{View}
use Rattle.clover_cache.specs.Node.{Known, cursor_at, asked}
use Rattle.clover_walk.specs.Standing.{number_of}
use Rattle.clover_walk.specs.Walking.{Walking, Holds, IsOnWay, made_walk, key_at}
use Rattle.clover_walk.proofs.Calling.{made_holds as walk_holds, IsCursor as IsWalkCursor}
use Rattle.clover_get.specs.Getting.{getting, Seeking}
use Rattle.clover_get.proofs.Begins.{get_begins}
use Rattle.clover_put.specs.Putting.{made_put, call_of}
use Rattle.clover_put.specs.declared.job.Job.{Job}
use Rattle.clover_put.specs.declared.job.Job.TheVariants.{Put, Delete, Swap}
use Rattle.clover_put.proofs.Calling.{made_holds as put_holds}
use Rattle.clover_call.specs.Beginning.{IsBegun, MayStart, Starts, no_value}
use Rattle.clover_call.specs.Calling.{begun_call}
use Rattle.clover_call.specs.Mirroring.{Mirrors}
use Rattle.clover_call.specs.Caller.{CallerState, CallerHolds, IsCursor, AreCursors, CallHolds, call_under, first_caller}
use Rattle.clover_call.specs.declared.under.Underway.{Underway}
use Rattle.clover_call.specs.declared.under.Underway.TheVariants.{Get, Write}
use Rattle.clover_call.proofs.Knowing.{cursors_asked, cursor_held}

-- a cursor is in the pool
pub cursor_range : (p : Pool) (v : View) (s : ℕ) (k : Known) (o : Option TagParts) → o ≡ cursor_at s k → AreCursors p v k → IfSome o (λ t. InRange p (tag_number t))
cursor_range p v s k o e h = go o (subst (λ (c : Option TagParts). IfSome c (λ t. IsCursor p v (s, t))) (sym e) (cursor_held p v s k h))
  where
    go : (c : Option TagParts) → IfSome c (λ t. IsCursor p v (s, t)) → IfSome c (λ t. InRange p (tag_number t))
    go None h = tt
    go (Some t) h = h.0

-- a walk may begin at a cursor that its client knows durable
pub walk_cursor : (p : Pool) (v : View) (slot : ℕ) (c : Option TagParts) → IfSome c (λ t. IsCursor p v (slot, t)) → IsWalkCursor slot (number_of c) v
walk_cursor p v slot None h = tt
walk_cursor p v slot (Some t) h = h.1

-- a walk that was just made, whatever it begins at
pub made_pool : (p : Pool) (s : ℕ) (k : Option ℕ) → (made_walk p s k).pool ≡ p
made_pool p s None = refl
made_pool p s (Some t) = refl

pub made_slot : (p : Pool) (s : ℕ) (k : Option ℕ) → (made_walk p s k).slot ≡ s
made_slot p s None = refl
made_slot p s (Some t) = refl

pub made_first : (p : Pool) (s : ℕ) (k : Option ℕ) → (made_walk p s k).first ≡ true
made_first p s None = refl
made_first p s (Some t) = refl

pub made_on_way : (p : Pool) (s : ℕ) (k : Option ℕ) → IsOnWay (made_walk p s k).stand
made_on_way p s None = tt
made_on_way p s (Some t) = tt

-- it is where the call of the definition begins
pub mirrors : (p : Pool) (s : ℕ) (cursor : Option ℕ) (own : ℕ) (call : Call) (u : Underway) (room : ValueBuf) → IsBegun (made_walk p s cursor) own call u → Mirrors u room call own (begun_call p s cursor own call)
mirrors p s cursor own (GetOf key) u room is = subst (λ (z : Underway). Mirrors z room (GetOf key) own (begun_call p s cursor own (GetOf key))) (sym is) ((key, refl), refl)
mirrors p s cursor own (PutOf key value) u room is = subst (λ (z : Underway). Mirrors z room (PutOf key value) own (begun_call p s cursor own (PutOf key value))) (sym is) ((key, refl), refl, refl)
mirrors p s cursor own (DeleteOf key) u room is = subst (λ (z : Underway). Mirrors z room (DeleteOf key) own (begun_call p s cursor own (DeleteOf key))) (sym is) ((key, refl), refl, refl)
mirrors p s cursor own (SwapOf key expected value) u room (t, same, is) =
    subst (λ (z : Underway). Mirrors z room (SwapOf key expected value) own (begun_call p s cursor own (SwapOf key expected value))) (sym is) ((key, ap (λ (n : ℕ). SwapOf key n value) (sym same)), refl, refl)

module _ (n : CallerState) (slot own : ℕ) (v : View) (room : ValueBuf) (h : CallerHolds n v room) where
  abbrev walk : Walking
  walk = made_walk n.pool slot (number_of (cursor_at slot n.cursors))

  module _ (call : Call) (may : MayStart slot own call v) where
    held : Holds walk v
    held = walk_holds n.pool slot (key_of call) (number_of (cursor_at slot n.cursors)) v h.pool h.client may.named (walk_cursor n.pool v slot (cursor_at slot n.cursors) (cursor_held n.pool v slot n.cursors h.cursors))

    key_is : key_at v.pass.names walk.slot ≡ key_of call
    key_is = ap (key_at v.pass.names) (made_slot n.pool slot (number_of (cursor_at slot n.cursors))) ∙ may.key

    get_call : CallHolds n.pool (Get (getting walk Seeking)) v room
    get_call = (made_pool n.pool slot (number_of (cursor_at slot n.cursors)), get_begins walk v room (made_first n.pool slot (number_of (cursor_at slot n.cursors))) (made_on_way n.pool slot (number_of (cursor_at slot n.cursors))) held)

    write_call : (j : Job) (value : Value) → (rest : List ℕ) × (v.pass.stock ≡ own ∷ rest) → CallHolds n.pool (Write (made_put walk j own value)) v room
    write_call j value next = (made_pool n.pool slot (number_of (cursor_at slot n.cursors)), put_holds walk v j own value held (made_first n.pool slot (number_of (cursor_at slot n.cursors))) (made_on_way n.pool slot (number_of (cursor_at slot n.cursors))) next)

    write_key : (j : Job) (value : Value) → call ≡ call_of j (key_of call) value → call_under (Write (made_put walk j own value)) v ≡ call
    write_key j value e = ap (λ (k : List ℕ). call_of j k value) key_is ∙ sym e

  -- what the client holds of a call that is begun
  call_holds : (call : Call) (u : Underway) → MayStart slot own call v → IsBegun walk own call u → CallHolds n.pool u v room × (call_under u v ≡ call)
  call_holds (GetOf key) u may is = subst (λ (z : Underway). CallHolds n.pool z v room × (call_under z v ≡ GetOf key)) (sym is) (get_call (GetOf key) may, ap GetOf (key_is (GetOf key) may))
  call_holds (PutOf key value) u may is = subst (λ (z : Underway). CallHolds n.pool z v room × (call_under z v ≡ PutOf key value)) (sym is) (write_call (PutOf key value) may Put value may.next, write_key (PutOf key value) may Put value refl)
  call_holds (DeleteOf key) u may is = subst (λ (z : Underway). CallHolds n.pool z v room × (call_under z v ≡ DeleteOf key)) (sym is) (write_call (DeleteOf key) may Delete no_value may.next, write_key (DeleteOf key) may Delete no_value refl)
  call_holds (SwapOf key expected value) u may (t, same, is) =
      subst (λ (z : Underway). CallHolds n.pool z v room × (call_under z v ≡ SwapOf key expected value)) (sym is)
      (write_call (SwapOf key expected value) may (Swap t) value may.next, write_key (SwapOf key expected value) may (Swap t) value (ap (λ (x : ℕ). SwapOf key x value) (sym same)))

-- the caller has started the call
pub starts : (n z : CallerState) (slot own : ℕ) (call : Call) (w : Walking) (u : Underway) → w ≡ made_walk n.pool slot (number_of (cursor_at slot n.cursors)) → z ≡ record n { cursors = asked slot n.cursors } → IsBegun w own call u → Starts n slot own call (record z { under = u })
starts n z slot own call w u made asks begun =
    let is : IsBegun (made_walk n.pool slot (number_of (cursor_at slot n.cursors))) own call u = subst (λ (y : Walking). IsBegun y own call u) made begun in
    subst (λ (y : CallerState). Starts n slot own call (record y { under = u })) (sym asks) (record {
      pool = refl;
      cursors = refl;
      begun = is;
      mirrors = λ room. mirrors n.pool slot (number_of (cursor_at slot n.cursors)) own call u room is;
      holds = λ v room h may.
          let all = call_holds n slot own v room h call u may is in
          (record { pool = h.pool; client = h.client; cursors = cursors_asked n.pool v slot n.cursors h.cursors; call = all.0 }, all.1);
    })

-- a call that writes as its job, its flags and its bytes say
pub begun_write : (w : Walking) (j : Job) (own : ℕ) (key : List ℕ) (value : Value) (u : Underway) → (j ≡ Delete → (value.flags ≡ 0) × (value.bytes ≡ [])) → u ≡ Write (made_put w j own value) → IsBegun w own (call_of j key value) u
begun_write w Put own key value u bare e = e
begun_write w Delete own key value u bare e = let b = bare refl in e ∙ (λ i. Write (made_put w Delete own (record { flags = b.0 i; bytes = b.1 i })))
begun_write w (Swap t) own key value u bare e = (t, refl, e)

-- a caller that has answered no call has no cursor that its client would have to know
pub first_cursors : (p : Pool) (v : View) → AreCursors p v (first_caller p).cursors
first_cursors p v = record { last = tt; list = All-nil (IsCursor p v) }

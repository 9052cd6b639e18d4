-- A call that a node starts on a slot, where the slot's chain leads over some tags to a tail: it ends in as many accesses as it costs, if it runs alone.
use Rattle.std.proofs.Common.{◌≡◌, ◌≢◌, ℕ, ◌+◌, ◌*◌, ◌<◌, ◌≤◌, List, [], ◌∷◌, ◌++◌, length, map, cond, eqb, refl, sym, ap, ◌∙◌, subst, arith, inl, inr, ◌⊎◌}
use Rattle.std.specs.Prelude.{Option, Some, None, IfSome}
use Rattle.std.proofs.lemmas.Option.{IfSome_then}
use Rattle.clover_words.specs.declared.bytes.ValueBuf.{ValueBuf}
use Rattle.clover_words.specs.declared.pool.Pool.{Pool}
use Rattle.clover_words.specs.Tag.{TagParts, tag_number, home}
use Rattle.clover_map.specs.History.{key_of}
use Rattle.clover_map.specs.declared.bytes.Value.{Value}
use Rattle.clover_map.specs.declared.call.Call.{Call}
use Rattle.clover_map.specs.declared.call.Call.TheVariants.{Get as GetOf, Put as PutOf, Delete as DeleteOf, Swap as SwapOf}
use Rattle.clover_rule.specs.Content.{InRange}
use Rattle.clover_rule.specs.Lists.{Each, Within}
use Rattle.clover_rule.specs.Meets.{Meets}
use Rattle.clover_rule.specs.Story.{Story, Chained, Stocked, Durable}
use Rattle.clover_rule.specs.Views.{Owned, ViewOk}
use Rattle.clover_rule.specs.Words.{mem_of}
use Rattle.clover_rule.specs.declared.view.View.{View}
use Rattle.clover_rule.proofs.Steps.{each_map, each_within, within_prefix}
use Rattle.clover_plain.specs.Plain.{Plain, Running, history, view_at}
use Rattle.clover_cache.specs.Node.{asked, cursor_at}
use Rattle.clover_cache.proofs.Known.{cursor_at-asked}
use Rattle.clover_walk.specs.Alone.{Way, way_from, LeadsOver, ComesBy, HasVersion, version_words}
use Rattle.clover_walk.specs.Standing.{number_of}
use Rattle.clover_walk.specs.Walking.{made_walk}
use Rattle.clover_get.specs.Getting.{getting, Seeking}
use Rattle.clover_put.specs.Alone.{tail_accesses}
use Rattle.clover_put.specs.Putting.{Putting, commits, made_put}
use Rattle.clover_put.specs.declared.job.Job.{Job}
use Rattle.clover_put.specs.declared.job.Job.TheVariants.{Put, Delete, Swap}
use Rattle.clover_call.specs.Beginning.{IsBegun, no_value, size_of}
use Rattle.clover_call.specs.Caller.{AreCursors, IsCursor}
use Rattle.clover_call.specs.declared.under.Underway.{Underway}
use Rattle.clover_call.proofs.Begins.{made_pool}
use Rattle.clover_call.proofs.Knowing.{cursor_held}
use Rattle.clover_node.specs.Beginning.{NodeStarts, NeedsBuffer, Refuses, own_tag}
use Rattle.clover_node.specs.Node.{NodeState, NodeHolds, IsIdle}
use Rattle.clover_node.specs.declared.answer.NodeRefusal.TheVariants.{NeedsStock}
use Rattle.clover_event.specs.Alone.{GetEnds, PutEnds, EndsIn, cost}
use Rattle.clover_event.specs.Ends.{MayBegin}
use Rattle.clover_event.proofs.Finding.{Comes, comes, durable_range, short_range}
use Rattle.clover_event.proofs.Starting.{comes_made, get_ends, put_ends, value_fits, dead_fits}
use Rattle.clover_run.specs.Alone.{Finds, cost_of}
use Rattle.clover_run.specs.Client.{Started}
use Rattle.clover_run.specs.Run.{Opening, Standing, known_slot, want_in}
use Rattle.clover_run.specs.Wanting.{slot_for, wants, wants_first}
use Rattle.clover_run.specs.declared.client.ClientState.{ClientState}
use Rattle.clover_run.specs.declared.want.Want.TheVariants.{Nothing, Stock}
use Rattle.clover_run.proofs.Alone.{BeginsAlone}
use Rattle.clover_run.proofs.Finding.{met_in, seat_here}
use Rattle.clover_run.proofs.Names.{slot_within, slot_new, slot_some}

-- a call that may commit a version
abbrev pub Writes : Call → Type 0
Writes (GetOf key) = ⊥
Writes call = Unit {0}

-- a call that is begun with this tag for its version, and whose walk comes on the way y over the tags ts to the tail u, is over after its cost
module _ (p : Pool) (ws : List ℕ) (slot : ℕ) (known : Option ℕ) (y : Way) (ts : List ℕ) (u : ℕ) (x : Option Value) (on_way : ComesBy ws (made_walk p slot known) known y ts u) (has : HasVersion p ws u x) (own : ℕ) where
  abbrev put_of : Job → Value → Putting
  put_of job value = made_put (made_walk p slot known) job own value

  puts : (job : Job) (value : Value) → InRange p own × Each (λ (t : ℕ). home t ≢ home own) (ts ++ u ∷ []) → version_words (commits job value) ≤ p.words + 1
      → PutEnds p (2 * version_words (commits job value) + y.loads + 2 * length ts + 1 + tail_accesses job u x) ws (put_of job value)
  puts job value d fits = put_ends p ws (made_walk p slot known) (made_pool p slot known) known y ts u x on_way has job own value d.0 d.1 fits

  deletes : (z : Option Value) → PutEnds p (2 * version_words None + y.loads + 2 * length ts + 1 + tail_accesses Delete u z) ws (put_of Delete no_value) → (key : List ℕ)
      → PutEnds p (cost (DeleteOf key) y.loads (length ts) u z) ws (put_of Delete no_value)
  deletes None h key = h
  deletes (Some z) h key = h

  swaps : (t : TagParts) (expected : ℕ) (value : Value) → tag_number t ≡ expected → (z : Option Value)
      → PutEnds p (2 * version_words (Some value) + y.loads + 2 * length ts + 1 + tail_accesses (Swap t) u z) ws (put_of (Swap t) value) → (key : List ℕ)
      → PutEnds p (cost (SwapOf key expected value) y.loads (length ts) u z) ws (put_of (Swap t) value)
  swaps t expected value e None h key = h
  swaps t expected value e (Some z) h key = subst (λ (k : ℕ). PutEnds p (2 * version_words (Some value) + y.loads + 2 * length ts + 1 + cond (eqb k u) 4 2) ws (put_of (Swap t) value)) e h

  ends_at : (call : Call) (under : Underway) (into : ValueBuf) → IsBegun (made_walk p slot known) own call under → size_of call ≤ 8 * p.words → (Writes call → InRange p own × Each (λ (t : ℕ). home t ≢ home own) (ts ++ u ∷ [])) → EndsIn p ws (cost call y.loads (length ts) u x) under into
  ends_at (GetOf key) under into b fits stocked =
      let k : y.loads + 2 * length ts + 2 + version_words x ≡ cost (GetOf key) y.loads (length ts) u x = omega arith in
      subst (λ (z : Underway). EndsIn p ws (cost (GetOf key) y.loads (length ts) u x) z into) (sym b)
      (subst (λ (j : ℕ). GetEnds p j (record { words = ws; call = getting (made_walk p slot known) Seeking; room = into })) k (get_ends p ws (made_walk p slot known) (made_pool p slot known) known y ts u x on_way has into))
  ends_at (PutOf key value) under into b fits stocked =
      subst (λ (z : Underway). EndsIn p ws (cost (PutOf key value) y.loads (length ts) u x) z into) (sym b) (puts Put value (stocked tt) (value_fits p value fits))
  ends_at (DeleteOf key) under into b fits stocked =
      subst (λ (z : Underway). EndsIn p ws (cost (DeleteOf key) y.loads (length ts) u x) z into) (sym b) (deletes x (puts Delete no_value (stocked tt) (dead_fits p)) key)
  ends_at (SwapOf key expected value) under into b fits stocked =
      subst (λ (z : Underway). EndsIn p ws (cost (SwapOf key expected value) y.loads (length ts) u x) z into) (sym b.2) (swaps b.0 expected value b.1 x (puts (Swap b.0) value (stocked tt) (value_fits p value fits)) key)

-- a call that may commit a version, on a slot that the node knows, needs a buffer
needs : (n : NodeState) (call : Call) (slot : ℕ) → Within (slot, key_of call) n.names → Writes call → NeedsBuffer n call
needs n (GetOf key) slot named w = absurd w
needs n (PutOf key value) slot named w = tt
needs n (DeleteOf key) slot named w = (slot, named)
needs n (SwapOf key expected value) slot named w = (slot, named)

-- the tag for its version is the first of the stock
first_tag : (n : NodeState) (call : Call) → Writes call → (t : TagParts) (rest : List TagParts) → n.stock ≡ t ∷ rest → own_tag n call ≡ tag_number t
first_tag n (GetOf key) w t rest e = absurd w
first_tag n (PutOf key value) w t rest e = rw e refl
first_tag n (DeleteOf key) w t rest e = rw e refl
first_tag n (SwapOf key expected value) w t rest e = rw e refl

not_empty : {A : Type 0} (xs : List A) → xs ≢ [] → (x : A) × (rest : List A) × (xs ≡ x ∷ rest)
not_empty [] e = absurd (e refl)
not_empty (x ∷ xs) e = (x, xs, refl)

-- what the view of a node's client has of the node: its stock, its names, and each cursor as a durable tag
pub record HasOf (p : Pool) (v : View) (n : NodeState) : Type 0 where
  pub stock : v.pass.stock ≡ map tag_number n.stock
  pub names : v.pass.names ≡ n.names
  pub tags : Each (λ (t : TagParts). InRange p (tag_number t)) n.stock
  pub cursor : (slot : ℕ) → IfSome (cursor_at slot n.caller.cursors) (λ t. IsCursor p v (slot, t))

-- so it does where it holds the node, with any call
has_held : (p : Pool) (v : View) (n : NodeState) (other : Call) (room : ValueBuf) → n.caller.pool ≡ p → NodeHolds n other v room → HasOf p v n
has_held p v n other room pool holds = record {
  stock = holds.stock;
  names = holds.names;
  tags = subst (λ (q : Pool). Each (λ (t : TagParts). InRange q (tag_number t)) n.stock) pool holds.tags;
  cursor = λ slot. cursor_held p v slot n.caller.cursors (subst (λ (q : Pool). AreCursors q v n.caller.cursors) pool holds.caller.cursors);
}

-- and where it holds the node behind the start of a call on a slot
has_behind : (p : Pool) (v : View) (n n1 : NodeState) (call other : Call) (room : ValueBuf) → n1.caller.pool ≡ p → NodeStarts n call n1 → (slot : ℕ) → Within (slot, key_of call) n.names → NodeHolds n1 other v room → HasOf p v n
has_behind p v n n1 call other room pool starts slot named holds =
    let z = has_held p v n1 other room pool holds in
    let kept = starts.kept in
    let cursors : n1.caller.cursors ≡ asked slot n.caller.cursors = (starts.named slot named).1.cursors in
    record {
      stock = z.stock ∙ ap (λ (m : NodeState). map tag_number m.stock) kept;
      names = z.names ∙ ap (λ (m : NodeState). m.names) kept;
      tags = subst (Each (λ (t : TagParts). InRange p (tag_number t))) (ap (λ (m : NodeState). m.stock) kept) z.tags;
      cursor = λ s. subst (λ (c : Option TagParts). IfSome c (λ t. IsCursor p v (s, t))) (ap (cursor_at s) cursors ∙ cursor_at-asked slot n.caller.cursors s) (z.cursor s);
    }

-- The node n of seat i in a pool that runs starts the call on a slot that it knows: from a cursor that it has, or from none, the call finds its way, and ends in as many accesses as that costs.
module _ (o : Opening) (p : Plain) (setup : p.setup ≡ o.setup) (running : Running p) (i : ℕ) (seat : i < length p.views) (n n1 : NodeState) (pool : n.caller.pool ≡ o.setup.pool) (has : HasOf o.setup.pool (view_at p i) n) (call : Call) (starts : NodeStarts n call n1) (slot : ℕ) (named : Within (slot, key_of call) n.names) where
  abbrev story : Story
  story = running.rule.story

  abbrev met : Meets o.setup.pool p.first p.used p.words (p.views ++ p.absent) story (history p)
  met = met_in o p setup running

  view_ok : ViewOk (mem_of o.setup.pool p.words) story (history p) i (view_at p i)
  view_ok = met.whole.basis.views i (view_at p i) (seat_here p i seat)

  -- the first buffer of its stock is on no chain
  stocked : (tags : List ℕ) → Each (λ (t : ℕ). story.place (home t) ≡ Chained slot) tags → Writes call → InRange o.setup.pool (own_tag n call) × Each (λ (t : ℕ). home t ≢ home (own_tag n call)) tags
  stocked tags chained w =
      let s = not_empty n.stock (starts.stocked (needs n call slot named w)) in
      let own : own_tag n call ≡ tag_number s.0 = first_tag n call w s.0 s.1 s.2 in
      let range : InRange o.setup.pool (tag_number s.0) = (subst (Each (λ (t : TagParts). InRange o.setup.pool (tag_number t))) s.2 has.tags).0 in
      let view_stock : (view_at p i).pass.stock ≡ tag_number s.0 ∷ map tag_number s.1 = has.stock ∙ ap (map tag_number) s.2 in
      let owned = (subst (Each (Owned (mem_of o.setup.pool p.words) story i)) view_stock view_ok.stocked).0 in
      subst (λ (t : ℕ). InRange o.setup.pool t × Each (λ (k : ℕ). home k ≢ home t) tags) (sym own) (
        range,
        each_map {P = λ (t : ℕ). story.place (home t) ≡ Chained slot} {Q = λ (t : ℕ). home t ≢ home (tag_number s.0)} (λ t c e. let k : Chained slot ≡ Stocked i = sym c ∙ ap story.place e ∙ owned.0 in absurd cc) tags chained,
      )

  abbrev known : Option ℕ
  known = number_of (cursor_at slot n.caller.cursors)

  has_key : story.keys slot ≡ Some (key_of call)
  has_key = (met.whole.basis.bound slot (key_of call) (subst (Within (slot, key_of call)) (sym view_ok.named.names.1) (within_prefix (slot, key_of call) (view_at p i).pass.names view_ok.named.names.0 (subst (Within (slot, key_of call)) (sym has.names) named)))).0

  is_durable : (c : Option TagParts) → IfSome c (λ t. IsCursor o.setup.pool (view_at p i) (slot, t)) → IfSome (number_of c) (Durable story slot)
  is_durable None h = tt
  is_durable (Some t) h = each_within (λ (q : ℕ × ℕ). Durable story q.0 q.1) (slot, tag_number t) (view_at p i).pass.durable view_ok.knows.durable h.1

  durable_here : IfSome known (Durable story slot)
  durable_here = is_durable (cursor_at slot n.caller.cursors) (has.cursor slot)

  abbrev way : Way
  way = way_from (mem_of o.setup.pool p.words) slot known

  here : Comes o.setup.pool p.first p.used p.words (p.views ++ p.absent) story (history p) met slot 2 way
  here = comes o.setup.pool p.first p.used p.words (p.views ++ p.absent) story (history p) met slot (key_of call) has_key known durable_here

  comes_here : ComesBy p.words (made_walk o.setup.pool slot known) known way here.onward.tags here.onward.tail
  comes_here = comes_made o.setup.pool p.words slot known way here.onward.tags here.onward.tail
      (met.whole.help.keyed.slots slot (key_of call) has_key)
      (IfSome_then known durable_here (durable_range o.setup.pool p.first p.used p.words (p.views ++ p.absent) story (history p) met slot))
      (short_range o.setup.pool p.first p.used p.words (p.views ++ p.absent) story (history p) met slot ((mem_of o.setup.pool p.words).short slot) refl)
      refl here.onward.leads here.few

  begun : IsBegun (made_walk o.setup.pool slot known) (own_tag n call) call n1.caller.under
  begun = subst (λ (q : Pool). IsBegun (made_walk q slot known) (own_tag n call) call n1.caller.under) pool (starts.named slot named).1.begun

  pub starts_alone : (st : Standing) → st.words ≡ p.words → MayBegin st.ended (key_of call) known → (into : ValueBuf) → (f : Finds o.setup.pool st slot call) × EndsIn o.setup.pool p.words (cost_of o.setup.pool st slot call f) n1.caller.under into
  starts_alone st words may into = (
    record {
      cursor = known;
      may = may;
      way = way;
      is = ap (λ (l : List ℕ). way_from (mem_of o.setup.pool l) slot known) (sym words);
      tags = here.onward.tags;
      tail = here.onward.tail;
      leads = subst (λ (l : List ℕ). LeadsOver o.setup.pool l way.from here.onward.tags here.onward.tail) (sym words) here.onward.leads;
      version = here.onward.version;
      has = subst (λ (l : List ℕ). HasVersion o.setup.pool l here.onward.tail here.onward.version) (sym words) here.onward.has;
    },
    ends_at o.setup.pool p.words slot known way here.onward.tags here.onward.tail here.onward.version comes_here here.onward.has (own_tag n call) call n1.caller.under into begun
        (subst (λ (q : Pool). size_of call ≤ 8 * q.words) pool starts.fits)
        (stocked (here.onward.tags ++ here.onward.tail ∷ []) here.onward.placed),
  )

-- a call that starts without a buffer of its client's wants one
wants_buffer : (n : NodeState) (call : Call) → NeedsBuffer n call → wants_first call (slot_for (key_of call) n.names) [] ≡ Stock
wants_buffer n (GetOf key) b = absurd b
wants_buffer n (PutOf key value) b = refl
wants_buffer n (DeleteOf key) b = let s = slot_some key n.names b.0 b.1 in ap (λ (z : Option ℕ). wants_first (DeleteOf key) z []) s.1
wants_buffer n (SwapOf key expected value) b = let s = slot_some key n.names b.0 b.1 in ap (λ (z : Option ℕ). wants_first (SwapOf key expected value) z []) s.1

-- The client of seat i, idle as x, has started its call as y in a pool that runs, where it stands so.
module _ (o : Opening) (p : Plain) (setup : p.setup ≡ o.setup) (running : Running p) (i : ℕ) (seat : i < length p.views) (x y : ClientState) (call : Call) (pool : x.node.caller.pool ≡ o.setup.pool) (idle : IsIdle x.node) (started : Started x y call)
    (st : Standing) (words : st.words ≡ p.words) (names : st.names ≡ x.node.names) (stock : st.does.stock ≡ map tag_number x.node.stock) (since : st.does.since ≡ [])
    (may : (slot : ℕ) → Within (slot, key_of call) x.node.names → NodeStarts x.node call y.node → MayBegin st.ended (key_of call) (number_of (cursor_at slot x.node.caller.cursors))) (free : want_in st call ≡ Nothing)
    (has : (slot : ℕ) → Within (slot, key_of call) x.node.names → NodeStarts x.node call y.node → HasOf o.setup.pool (view_at p i) x.node) where
  abbrev key : List ℕ
  key = key_of call

  known_here : slot_for key st.names ≡ slot_for key x.node.names
  known_here = ap (slot_for key) names

  by_slot : NodeStarts x.node call y.node → (a : Option ℕ) → slot_for key st.names ≡ a → BeginsAlone o.setup.pool st p.words y call a
  by_slot s None e = ap (λ (n : NodeState). n.caller.under) (s.unnamed (slot_new key x.node.names (sym known_here ∙ e))) ∙ idle.calls
  by_slot s (Some slot) e =
      let named : Within (slot, key) x.node.names = slot_within key x.node.names slot (sym known_here ∙ e) in
      starts_alone o p setup running i seat x.node y.node pool (has slot named s) call s slot named st words (may slot named s) y.room

  no_buffer : Refuses x.node call NeedsStock → want_in st call ≡ Stock
  no_buffer r = (λ i. wants call (slot_for key (names i)) ((stock ∙ ap (map tag_number) r.1) i) (since i)) ∙ wants_buffer x.node call r.2

  by_how : (NodeStarts x.node call y.node × (y.want ≡ Nothing)) ⊎ ((y.node ≡ x.node) × (y.want ≡ Stock) × Refuses x.node call NeedsStock) → BeginsAlone o.setup.pool st p.words y call (known_slot st call)
  by_how (inl s) = by_slot s.0 (slot_for key st.names) refl
  by_how (inr s) = absurd (let e : Stock ≡ Nothing = sym (no_buffer s.2) ∙ free in cc)

  begins_alone : BeginsAlone o.setup.pool st p.words y call (known_slot st call)
  begins_alone = by_how started.how

-- where the call wants nothing it goes on alone; the client's view held it before
pub started_alone : (o : Opening) (p : Plain) → p.setup ≡ o.setup → Running p → (i : ℕ) → i < length p.views → (x y : ClientState) (call other : Call) → x.node.caller.pool ≡ o.setup.pool → IsIdle x.node → NodeHolds x.node other (view_at p i) x.room → Started x y call
    → (st : Standing) → st.words ≡ p.words → st.names ≡ x.node.names → st.does.stock ≡ map tag_number x.node.stock → st.does.since ≡ []
    → ((slot : ℕ) → Within (slot, key_of call) x.node.names → MayBegin st.ended (key_of call) (number_of (cursor_at slot x.node.caller.cursors)))
    → want_in st call ≡ Nothing → BeginsAlone o.setup.pool st p.words y call (known_slot st call)
started_alone o p setup running i seat x y call other pool idle holds started st words names stock since may free =
    begins_alone o p setup running i seat x y call pool idle started st words names stock since (λ slot named s. may slot named) free (λ slot named s. has_held o.setup.pool (view_at p i) x.node other x.room pool holds)

-- or it holds it behind, where the cursors are those too
pub behind_alone : (o : Opening) (p : Plain) → p.setup ≡ o.setup → Running p → (i : ℕ) → i < length p.views → (x y : ClientState) (call other : Call) → x.node.caller.pool ≡ o.setup.pool → y.node.caller.pool ≡ o.setup.pool → IsIdle x.node → NodeHolds y.node other (view_at p i) y.room → Started x y call
    → (st : Standing) → st.words ≡ p.words → st.names ≡ x.node.names → st.does.stock ≡ map tag_number x.node.stock → st.does.since ≡ []
    → ((slot : ℕ) → Within (slot, key_of call) x.node.names → MayBegin st.ended (key_of call) (number_of (cursor_at slot y.node.caller.cursors)))
    → want_in st call ≡ Nothing → BeginsAlone o.setup.pool st p.words y call (known_slot st call)
behind_alone o p setup running i seat x y call other pool behind idle holds started st words names stock since may free =
    begins_alone o p setup running i seat x y call pool idle started st words names stock since
    (λ slot named s. subst (λ (c : Option TagParts). MayBegin st.ended (key_of call) (number_of c)) (ap (cursor_at slot) (s.named slot named).1.cursors ∙ cursor_at-asked slot x.node.caller.cursors slot) (may slot named)) free
    (λ slot named s. has_behind o.setup.pool (view_at p i) x.node y.node call other y.room behind s slot named holds)

-- That a step of the server for a client which wants something leaves less to do of its task.
use Prim.Native.Nat.{suc}
use Rattle.std.proofs.Common.{◌≡◌, ◌≢◌, ◌⊎◌, ℕ, ◌+◌, ◌-◌, ◌*◌, ◌<◌, ◌≤◌, inl, inr, List, [], ◌∷◌, ◌++◌, length, length-append, append-nil, append_assoc, false, refl, sym, ap, ◌∙◌, subst, arith}
use Rattle.std.specs.Prelude.{Option, Some, None}
use Rattle.std.proofs.Math.Nat.{mul-le-mul_right}
use Rattle.clover_words.specs.Tag.{TagParts}
use Rattle.clover_words.specs.declared.pool.Pool.{Pool}
use Rattle.clover_words.specs.declared.setup.Setup.{Setup}
use Rattle.clover_map.specs.History.{key_of}
use Rattle.clover_map.specs.declared.call.Call.{Call}
use Rattle.clover_map.specs.declared.call.Call.TheVariants.{Get, Put, Delete, Swap}
use Rattle.clover_dir.specs.Names.{IsNew}
use Rattle.clover_rule.specs.Lists.{Within}
use Rattle.clover_rule.specs.Moves.{nobody}
use Rattle.clover_rule.specs.declared.access.Act.{Act}
use Rattle.clover_rule.specs.declared.view.View.{View}
use Rattle.clover_plain.specs.Plain.{Plain, Running, view_at}
use Rattle.clover_plain.proofs.Seating.{at_front}
use Rattle.clover_plain.proofs.Stepping.{nth_default}
use Rattle.clover_call.specs.declared.under.Underway.{Underway}
use Rattle.clover_node.specs.Node.{IsIdle, IsPut, NodeState}
use Rattle.clover_node.specs.declared.counting.Counting.{Counting}
use Rattle.clover_server.specs.Left.{work_left}
use Rattle.clover_server.specs.Server.{ServerState}
use Rattle.clover_server.specs.declared.turn.ServerTurn.{ServerTurn}
use Rattle.clover_server.specs.declared.turn.ServerTurn.TheVariants as turn
use Rattle.clover_event.specs.Machine.{most_made}
use Rattle.clover_script.specs.declared.line.Task.{Task}
use Rattle.clover_run.specs.Client.{LacksNames, Phase, Rests, Wants, Calls, Ends, IsIn, IsOf, Matches, call_at, since_of, step_record}
use Rattle.clover_run.specs.Folds.{Doing, stepped}
use Rattle.clover_run.specs.Left.{if_empty, rounds, round_size, most_work, wants_left, or_none, left_by}
use Rattle.clover_run.specs.Run.{Opening, Standing}
use Rattle.clover_run.specs.Record.{Record}
use Rattle.clover_run.specs.Served.{is_elsewhere}
use Rattle.clover_run.specs.Serving.{IsServing, Leaves, Serves, telling}
use Rattle.clover_run.specs.Wanting.{slot_for, wants, wants_first, wants_later, unless_stocked}
use Rattle.clover_run.specs.Working.{Gained, HasServer, MayServe, OnGrant, Regards, WasServed}
use Rattle.clover_run.specs.declared.client.ClientState.{ClientState}
use Rattle.clover_run.specs.declared.event.Note.{Note}
use Rattle.clover_run.specs.declared.event.Note.TheVariants as note
use Rattle.clover_run.specs.declared.served.Served.{Served}
use Rattle.clover_run.specs.declared.want.Want.{Want}
use Rattle.clover_run.specs.declared.want.Want.TheVariants.{Nothing, Stock, Names}
use Rattle.clover_run.proofs.Lessening.{left_idle, left_wanting}
use Rattle.clover_run.proofs.Listed.{list_few, list_is, known_names, nth_in}
use Rattle.clover_run.proofs.Readies.{serves_ready}
use Rattle.clover_run.proofs.Slots.{slot_new}
use Rattle.clover_run.proofs.Workload.{work_most}

-- what a client in any phase has left at most, and one whose node is idle
or_most : (c : Counting) (u : Underway) (n : ℕ) → or_none c u n ≤ n
or_most c u n = by c u
  where
    by : (c : Counting) (u : Underway) → or_none c u n ≤ n
    by Counting.No Underway.Nothing = omega arith
    by Counting.No (Underway.Get g) = omega arith
    by Counting.No (Underway.Write c) = omega arith
    by Counting.Names u = omega arith
    by Counting.Absence u = omega arith

module _ (s : ServerState) (y : ClientState) (v : View) where
  abbrev again : ℕ
  again = rounds y * round_size y.node.caller.pool

  wants_most : (call : Option Call) → wants_left call s y ≤ again + (work_left s + 2)
  wants_most None = omega arith
  wants_most (Some call) = omega arith

  left_most : left_by y.want s y v ≤ again + (work_left s + 2 + most_made y.node.caller.pool)
  left_most = by y.want
    where
      by : (w : Want) → left_by w s y v ≤ again + (work_left s + 2 + most_made y.node.caller.pool)
      by Nothing =
          let a = or_most y.node.counting y.node.caller.under (wants_left y.call s y + (most_made y.node.caller.pool - length (since_of y.node v))) in
          let b = wants_most y.call in
          omega (arith, a, b)
      by Stock = omega arith
      by Names = omega arith

  idle_most : IsIdle y.node → left_by y.want s y v ≤ again + (work_left s + 1)
  idle_most idle = by y.want refl
    where
      by : (w : Want) → y.want ≡ w → left_by y.want s y v ≤ again + (work_left s + 1)
      by Nothing e = let z = left_idle s y v idle e in omega (arith, z)
      by Stock e = let z = left_wanting s y v (λ f. let k : Stock ≡ Nothing = sym e ∙ f in absurd cc) in omega (arith, z)
      by Names e = let z = left_wanting s y v (λ f. let k : Names ≡ Nothing = sym e ∙ f in absurd cc) in omega (arith, z)

-- one round less pays for all that may come before the next
round_pays : (r t size rest more : ℕ) → r < t → rest < size → r * size + rest < t * size + more
round_pays r t size rest more below small = let b : suc r ≤ t = omega arith in let z : suc r * size ≤ t * size = mul-le-mul_right size b in omega (arith, z)

-- a client whose task has ended rests
rests_if : (o : Opening) (q : Plain) (i : ℕ) (y : ClientState) (d : Doing) (f : Phase) → IsIn f y → Matches y (view_at q i) f d → d.task ≡ None → IsIdle y.node × (y.want ≡ Nothing)
rests_if o q i y d Rests h m none = (h.0, h.1)
rests_if o q i y d Wants h m none = absurd (let z : ◌≡◌ {A = Option Task} None (Some _) = sym none ∙ m.doing.0.1 in cc)
rests_if o q i y d Calls h m none = absurd (let z : ◌≡◌ {A = Option Task} None (Some _) = sym none ∙ m.doing.0.1 in cc)
rests_if o q i y d Ends h m none = absurd (let z : ◌≡◌ {A = Option Task} None (Some _) = sym none ∙ m.doing.0.1 in cc)

-- where a call wants names, its client does not know its key
names_late : (slot : Option ℕ) → wants_later slot ≡ Names → slot ≡ None
names_late None e = refl
names_late (Some s) e = absurd cc

stocks : (ts : List ℕ) → unless_stocked ts ≢ Names
stocks [] e = absurd cc
stocks (t ∷ ts) e = absurd cc

names_first : (call : Call) (slot : Option ℕ) (stock : List ℕ) → wants_first call slot stock ≢ Names
names_first (Get key) slot stock e = absurd cc
names_first (Put key value) slot stock e = stocks stock e
names_first (Delete key) None stock e = absurd cc
names_first (Delete key) (Some s) stock e = stocks stock e
names_first (Swap key expected value) None stock e = absurd cc
names_first (Swap key expected value) (Some s) stock e = stocks stock e

names_unknown : (call : Call) (slot : Option ℕ) (stock : List ℕ) (since : List Act) → wants call slot stock since ≡ Names → slot ≡ None
names_unknown call slot stock [] e = absurd (names_first call slot stock e)
names_unknown call slot stock (act ∷ acts) e = names_late slot e

-- no key that is bound behind some names is new among all
longer_names : (names rest : List (ℕ × List ℕ)) (key : List ℕ) (slot : ℕ) → IsNew key names → Within (slot, key) (names ++ rest) → length names < length (names ++ rest)
longer_names names [] key slot new there = absurd (new slot (subst (Within (slot, key)) (append-nil names) there))
longer_names names (q ∷ rest) key slot new there = omega (arith, length-append names (q ∷ rest))

-- a stock that is there
some_stock : (ts : List TagParts) → 0 < length ts → if_empty ts ≡ 0
some_stock [] h = absurd (omega arith)
some_stock (t ∷ ts) h = refl

empty_one : (ts : List TagParts) → if_empty ts ≤ 1
empty_one [] = omega arith
empty_one (t ∷ ts) = omega arith

-- no client has loaded a count greater than the number of the bindings
pub most_listed : (p : Plain) (s : ServerState) → Running p → HasServer p s → (i : ℕ) → i < length p.views → (view_at p i).pass.most ≤ length s.directory.list
most_listed p s runs h i there =
    let v = view_at p i in
    let n = runs.rule.names_and_count in
    let at = at_front p.views p.absent i v (nth_default p.views i nobody there) in
    let most = n.most v (nth_in (p.views ++ p.absent) i v at) in
    let listed : length s.directory.list ≡ length runs.rule.bindings = ap length (list_is p s runs h) in
    omega (arith, most, listed, n.count)

-- A step of the server for the client leaves less to do, unless it only waits.
module _ (o : Opening) (i : ℕ) (x y : ClientState) (v w : Served) (p q : Plain) (n : Note) (st : Standing) (may : MayServe o i x v p) (was : WasServed o i x y v w p q n) (lowers : n ≡ note.Quiet → work_left w.server < work_left v.server) (runs : Running q) (is : IsOf i x p st) (m : Matches x (view_at p i) Wants st.does) (served : st.served ≡ v) (free : is_elsewhere v.holder (suc i) ≡ false) (lacks : LacksNames x (view_at p i)) where
  abbrev call : Call
  call = call_at x (view_at p i)

  abbrev here : Record
  here = step_record st was.access None n w

  abbrev next : Doing
  next = stepped st.does here

  serving : IsServing st.actor st.does x.want call v here
  serving = (was.follows st is m served).1.serves (subst (λ a. is_elsewhere v.holder a ≡ false) (sym is.actor) free)

  x_is : left_by x.want v.server x (view_at p i) ≡ rounds x * round_size x.node.caller.pool + (work_left v.server + 1)
  x_is = left_wanting v.server x (view_at p i) may.stands.phase.1

  same_size : round_size y.node.caller.pool ≡ round_size x.node.caller.pool
  same_size = ap round_size (was.stands.pool ∙ sym may.stands.pool)

  -- the task has ended
  over : next.task ≡ None → left_by y.want w.server y (view_at q i) < left_by x.want v.server x (view_at p i)
  over none =
      let z = rests_if o q i y next was.after was.stands.phase (was.follows st is m served).2 none in
      let a = left_idle w.server y (view_at q i) z.0 z.1 in
      let b = x_is in
      omega (arith, a, b)

  -- the server works on
  works : n ≡ note.Quiet → left_by y.want w.server y (view_at q i) < left_by x.want v.server x (view_at p i)
  works e =
      let same : y.node ≡ x.node = subst (λ (z : Note). Regards z w x y call) e was.regards in
      let idle : IsIdle y.node = subst IsIdle (sym same) may.stands.phase.0 in
      let a = idle_most w.server y (view_at q i) idle in
      let r : rounds y * round_size y.node.caller.pool ≡ rounds x * round_size x.node.caller.pool = ap (λ (z : NodeState). rounds (record x { node = z }) * round_size z.caller.pool) same in
      let b = x_is in
      let c = lowers e in
      omega (arith, a, b, c, r)

  -- what the client knows is the front of what the server has bound
  abbrev known : ℕ
  known = length x.node.names

  abbrev bound : List (ℕ × List ℕ)
  bound = w.server.directory.list

  rest : (more : List (ℕ × List ℕ)) × (bound ≡ x.node.names ++ more)
  rest =
      let k = known_names p v.server may.running may.server o i x Wants may.stands in
      let g = was.grows in
      (k.0 ++ g.0, g.1 ∙ ap (λ (l : List (ℕ × List ℕ)). l ++ g.0) k.1 ∙ append_assoc x.node.names k.0 g.0)

  few : length bound ≤ y.node.caller.pool.slots
  few = subst (λ (z : Pool). length bound ≤ z.slots) (ap (λ (s : Setup). s.pool) was.stands.setup ∙ sym was.stands.pool) (list_few q w.server runs was.server)

  slots : y.node.caller.pool.slots ≡ x.node.caller.pool.slots
  slots = ap (λ (z : Pool). z.slots) (was.stands.pool ∙ sym may.stands.pool)

  at_least : known ≤ length bound
  at_least = let e = ap length rest.1 in let f = length-append x.node.names rest.0 in omega (arith, e, f)

  -- a grant of names brings one at least
  brings : Gained x y call w.server → x.want ≡ Names → known < length bound
  brings g want = by (lacks want)
    where
      new : IsNew (key_of call) x.node.names
      new = slot_new (key_of call) x.node.names (names_unknown call (slot_for (key_of call) x.node.names) st.does.stock st.does.since (m.doing.2 ∙ want))

      by : IsPut call ⊎ (known < (view_at p i).pass.most) → known < length bound
      by (inl put) =
          let there = g.named want put in
          let at : Within (there.0, key_of call) (x.node.names ++ rest.0) = subst (Within (there.0, key_of call)) (g.names ∙ rest.1) there.1 in
          subst (λ (l : List (ℕ × List ℕ)). known < length l) (sym rest.1) (longer_names x.node.names rest.0 (key_of call) there.0 new at)
      by (inr below) =
          let a = may.stands.seat in let b = may.stands.seats in
          let most = most_listed p v.server may.running may.server i (omega arith) in
          let grown = ap length was.grows.1 in
          let f = length-append v.server.directory.list was.grows.0 in
          omega (arith, below, most, grown, f)

  -- and the call starts anew once less
  fewer : Gained x y call w.server → (want : Want) → x.want ≡ want → rounds y < rounds x
  fewer g Nothing e = absurd (may.stands.phase.1 e)
  fewer g Stock e =
      let a : if_empty y.node.stock ≡ 0 = some_stock y.node.stock (g.stock e) in
      let b : if_empty x.node.stock ≡ 1 = ap if_empty (may.stands.phase.3 e) in
      let c = ap length g.names in
      let d = slots in
      let f = at_least in
      omega (arith, a, b, c, d, f)
  fewer g Names e =
      let a = empty_one y.node.stock in
      let b = brings g e in
      let c = ap length g.names in
      let d = slots in
      let f = few in
      omega (arith, a, b, c, d, f)

  grants : Gained x y call w.server → w.server.task ≡ None → left_by y.want w.server y (view_at q i) < left_by x.want v.server x (view_at p i)
  grants g idle =
      let agrees = was.server.agrees in
      let pool : q.setup.pool ≡ y.node.caller.pool = ap (λ (s : Setup). s.pool) was.stands.setup ∙ sym was.stands.pool in
      let work : work_left w.server ≤ most_work y.node.caller.pool = subst (λ (z : Pool). work_left w.server ≤ most_work z) pool (work_most q.setup.pool w.server agrees.books.whole.lines agrees.books.pool agrees.directory.pool idle (list_few q w.server runs was.server)) in
      let a = left_most w.server y (view_at q i) in
      let b = x_is in
      let size = same_size in
      let small : work_left w.server + 2 + most_made y.node.caller.pool < round_size y.node.caller.pool = omega (arith, work) in
      let pays = round_pays (rounds y) (rounds x) (round_size y.node.caller.pool) (work_left w.server + 2 + most_made y.node.caller.pool) (work_left v.server + 1) (fewer g x.want refl) small in
      let c : rounds x * round_size y.node.caller.pool ≡ rounds x * round_size x.node.caller.pool = ap (λ k. rounds x * k) size in
      omega (arith, a, b, pays, c)

  by_turn : (t : ServerTurn) → Serves x.want call v.server serving.server t (telling was.access) → Leaves st.actor st.does x.want v serving.server t here → left_by y.want w.server y (view_at q i) < left_by x.want v.server x (view_at p i)
  by_turn turn.More k l = works l.0
  by_turn turn.Ready k l =
      let g : Gained x y call w.server = subst (λ (z : Note). OnGrant z (Gained x y call w.server)) l.note was.gained in
      let r = serves_ready v.server serving.server (telling was.access) x.want call v.server.setup.some_batch k in
      grants g (ap (λ (z : Served). z.server.task) l.served ∙ r.idle)
  by_turn (turn.Full full worn out) k l = over (ap (λ (z : Note). (stepped st.does (step_record st was.access None z w)).task) l.0)
  by_turn turn.NoSlot k l = over (ap (λ (z : Note). (stepped st.does (step_record st was.access None z w)).task) l.0)
  by_turn turn.Unreached k l = over (ap (λ (z : Note). (stepped st.does (step_record st was.access None z w)).task) l.0)
  by_turn turn.Unlinked k l = absurd l
  by_turn (turn.Recycled old) k l = absurd l

  pub served_less : left_by y.want w.server y (view_at q i) < left_by x.want v.server x (view_at p i)
  served_less = by_turn serving.turn serving.serves serving.leaves

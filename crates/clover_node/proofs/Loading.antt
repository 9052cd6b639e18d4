-- The load of the count by a call whose key the node does not know: that it may be made, and what it says and leaves.
use Rattle.std.proofs.Common.{◌≡◌, ◌≢◌, ℕ, ◌==◌, ◌≤◌, List, [], length, Bool, true, false, cond, eqb, inl, inr, refl, sym, ap, ◌∙◌, subst, arith, eqb-true, eq-eqb}
use Rattle.std.specs.Prelude.{Option}
use Rattle.clover_words.specs.declared.bytes.ValueBuf.{ValueBuf}
use Rattle.clover_words.specs.declared.pool.Pool.{Pool}
use Rattle.clover_map.specs.History.{key_of}
use Rattle.clover_map.specs.declared.call.Call.{Call}
use Rattle.clover_map.specs.declared.call.Call.TheVariants.{Get, Put, Delete, Swap}
use Rattle.clover_map.specs.declared.call.Reply.TheVariants.{Absent as AbsentReply}
use Rattle.clover_rule.specs.Accesses.{Decides, NoBinding}
use Rattle.clover_rule.specs.Asks.{Asks, MayMiss}
use Rattle.clover_rule.specs.Learned.{counts, missed}
use Rattle.clover_rule.specs.Lists.{Within}
use Rattle.clover_rule.specs.Steps.{AbsentCount, IsClient, number_of}
use Rattle.clover_rule.specs.declared.access.Act.{Act}
use Rattle.clover_rule.specs.declared.view.Role.{Role}
use Rattle.clover_rule.specs.declared.view.Role.TheVariants.{Client}
use Rattle.clover_rule.specs.declared.view.View.{View}
use Rattle.clover_port.specs.Told.{Open, Made}
use Rattle.clover_walk.proofs.Endings.{stepped}
use Rattle.clover_dir.specs.Names.{IsNew}
use Rattle.clover_call.proofs.Knowing.{KnowsMore, cursors_kept, knows_more}
use Rattle.clover_call.specs.Caller.{CallHolds, HasCommitted}
use Rattle.clover_call.specs.declared.answer.Answer.TheVariants.{Absent}
use Rattle.clover_call.specs.declared.under.Underway.{Underway}
use Rattle.clover_call.specs.declared.under.Underway.TheVariants.{Nothing}
use Rattle.clover_node.specs.Going.{CountSays, Enters, GoesFar, IsOpen, KeepsCaller, Missed, NodeTurns, NodeWent, SaysAt, stock_behind}
use Rattle.clover_node.specs.Node.{NodeState, NodeHolds, Counts, IsCounting, IsIdle, IsUnder, count_of}
use Rattle.clover_node.specs.Turning.{OnGoing, OnMade, OnOver, OnRefused, count_turn}
use Rattle.clover_node.specs.declared.answer.NodeRefusal.TheVariants.{Unreached, Behind, Linked, TooLong, NeedsStock, NeedsNames}
use Rattle.clover_node.specs.declared.answer.NodeTurn.{NodeTurn}
use Rattle.clover_node.specs.declared.answer.NodeTurn.TheVariants.{More, Decided, Done, Refused}
use Rattle.clover_node.specs.declared.counting.Counting.{Counting}
use Rattle.clover_node.specs.declared.counting.Counting.TheVariants.{No, Names, Absence}

-- a client's role says its number
pub is_client : (v : View) (k : ℕ) → v.pass.role ≡ Client k → IsClient v
is_client v k e = subst (λ (r : Role). r ≡ Client (number_of r)) (sym e) refl

-- a key that no pair of the names has
unnamed : (c : Call) (names view : List (ℕ × List ℕ)) → view ≡ names → IsNew (key_of c) names → (s : ℕ) → Within (s, key_of c) view → ⊥
unnamed c names view e new s w = new s (subst (λ (l : List (ℕ × List ℕ)). Within (s, key_of c) l) e w)

-- the load may be made
pub count_asks : (p : Pool) (c : Counting) (call : Call) (v : View) (names : List (ℕ × List ℕ)) → IsClient v → v.pass.names ≡ names → IsNew (key_of call) names → Counts c call → Asks p (count_of c call) v
count_asks p No call v names client e new h = absurd h
count_asks p Names call v names client e new h = (tt, client)
count_asks p Absence call v names client e new h = (tt, (client, h, unnamed call names v.pass.names e new))

-- the count is at least the number of the names, and at most that of the slots
pub count_bounds : (p : Pool) (c : Counting) (call : Call) (v : View) (o : Option Open) (x : ℕ) (w : View) (o1 : Option Open) → Made p (count_of c call) true v o x w o1 → (length v.pass.names ≤ x) × (x ≤ p.slots)
count_bounds p No call v o x w o1 made = made.told.says
count_bounds p Names call v o x w o1 made = made.told.says
count_bounds p Absence call v o x w o1 made = made.told.says

-- that there is no such binding decides the call
missed_decides : (p : Pool) (ws : List ℕ) (names : List (ℕ × List ℕ)) (acts : List Act) (call : Call) → MayMiss call → NoBinding names call acts → Decides p ws names acts call AbsentReply
missed_decides p ws names acts (Get k) may h = inr h
missed_decides p ws names acts (Put k x) may h = absurd may
missed_decides p ws names acts (Delete k) may h = inr h
missed_decides p ws names acts (Swap k e x) may h = inr h

module _ (p : Pool) (n : NodeState) (call : Call) (v : View) (o : Option Open) (x : ℕ) (w : View) (o1 : Option Open) (names : v.pass.names ≡ n.names) (asks : IsCounting n call) where
  known : length v.pass.names ≡ length n.names
  known = ap length names

  missed_by : Made p (AbsentCount call) true v o x w o1 → MayMiss call → x ≡ length n.names → Missed p call v o w o1
  missed_by made may e =
      let m = subst (λ (y : ℕ). Made p (AbsentCount call) true v o y w o1) (e ∙ sym known) made in
      record {
        made = m;
        decides = missed_decides p m.now.words v.pass.names w.pass.since call may ([], (stepped p (AbsentCount call) true v o (length v.pass.names) w o1 m).since, unnamed call n.names v.pass.names names asks.unnamed);
      }

  -- what the load says
  says_at : (c : Counting) → Counts c call → Made p (count_of c call) true v o x w o1 → CountSays p n call v o w o1 (count_turn c (length n.names) x)
  says_at No h made = absurd h
  says_at Names h made = let b = count_bounds p Names call v o x w o1 made in (refl, inl made, subst (λ (y : ℕ). y ≤ x) known b.0, inr h)
  says_at Absence h made = by (eqb x (length n.names)) refl
    where
      by : (b : Bool) → eqb x (length n.names) ≡ b → CountSays p n call v o w o1 (cond b (Done Absent) (Refused (NeedsNames (length n.names) x)))
      by true e = missed_by made h (eqb-true x (length n.names) e)
      by false e =
          let b = count_bounds p Absence call v o x w o1 made in
          let le : length n.names ≤ x = subst (λ (y : ℕ). y ≤ x) known b.0 in
          let ne : x ≢ length n.names = λ f. let z : true ≡ false = sym (eq-eqb x (length n.names) f) ∙ e in cc in
          (refl, inr made, le, inl (omega arith))

  -- what it leaves of the stock and of the own calls
  enters_at : (c : Counting) → Counts c call → (u : Underway) → u ≡ Nothing → (room : ValueBuf) → Made p (count_of c call) true v o x w o1 → (w.pass.stock ≡ v.pass.stock) × Enters (count_turn c (length n.names) x) u call room v w
  enters_at No h u idle room made = absurd h
  enters_at Names h u idle room made = (ap (λ (z : View). z.pass.stock) made.told.next, ap (λ (z : View). z.pass.calls) made.told.next)
  enters_at Absence h u idle room made = by (eqb x (length n.names)) refl
    where
      left : (w.pass.stock ≡ v.pass.stock)
      left = ap (λ (z : View). z.pass.stock) made.told.next ∙ by_test (x == length v.pass.names)
        where
          by_test : (b : Bool) → (cond b (missed v made.now.history call x) (counts v x)).pass.stock ≡ v.pass.stock
          by_test true = refl
          by_test false = refl

      calls_are : (b : Bool) → (x == length v.pass.names) ≡ b → w.pass.calls ≡ (cond b (missed v made.now.history call x) (counts v x)).pass.calls
      calls_are b e = ap (λ (z : View). z.pass.calls) made.told.next ∙ ap (λ (k : Bool). (cond k (missed v made.now.history call x) (counts v x)).pass.calls) e

      by : (b : Bool) → eqb x (length n.names) ≡ b → (w.pass.stock ≡ v.pass.stock) × Enters (cond b (Done Absent) (Refused (NeedsNames (length n.names) x))) u call room v w
      by true e = (left, ((λ had. absurd (subst HasCommitted idle had)), (λ unset. calls_are true (ap (λ (y : ℕ). x == y) known ∙ e))))
      by false e = (left, calls_are false (ap (λ (y : ℕ). x == y) known ∙ e))

  over_at : (c : Counting) (A : Type 0) → A → OnOver (count_turn c (length n.names) x) A
  over_at No A a = a
  over_at Names A a = a
  over_at Absence A a = by (eqb x (length n.names))
    where
      by : (b : Bool) → OnOver (cond b (Done Absent) (Refused (NeedsNames (length n.names) x))) A
      by true = a
      by false = a

  turns_at : (c : Counting) (u y : Underway) (room : ValueBuf) → IsOpen u → NodeTurns (count_turn c (length n.names) x) u y call room
  turns_at No u y room h = h
  turns_at Names u y room h = h
  turns_at Absence u y room h = by (eqb x (length n.names))
    where
      by : (b : Bool) → NodeTurns (cond b (Done Absent) (Refused (NeedsNames (length n.names) x))) u y call room
      by true = inl h
      by false = h

  never_on : (c : Counting) (A : Type 0) → OnGoing (count_turn c (length n.names) x) A
  never_on No A = tt
  never_on Names A = tt
  never_on Absence A = by (eqb x (length n.names))
    where
      by : (b : Bool) → OnGoing (cond b (Done Absent) (Refused (NeedsNames (length n.names) x))) A
      by true = tt
      by false = tt

  same_stock : (c : Counting) → stock_behind (count_turn c (length n.names) x) n.stock ≡ n.stock
  same_stock No = refl
  same_stock Names = refl
  same_stock Absence = by (eqb x (length n.names))
    where
      by : (b : Bool) → stock_behind (cond b (Done Absent) (Refused (NeedsNames (length n.names) x))) n.stock ≡ n.stock
      by true = refl
      by false = refl

-- what the count says is what the step says
says_count : (c : Counting) (p : Pool) (n : NodeState) (call : Call) (room : ValueBuf) (v : View) (o : Option Open) (n1 : NodeState) (w : View) (o1 : Option Open) (t : NodeTurn) → Counts c call → CountSays p n call v o w o1 t → SaysAt c p n call room v o n1 w o1 t
says_count No p n call room v o n1 w o1 t h s = absurd h
says_count Names p n call room v o n1 w o1 t h s = s
says_count Absence p n call room v o n1 w o1 t h s = s

-- the count was loaded for the call, and the node goes on without
abbrev pub uncounted : NodeState → NodeState
uncounted n = record n { counting = No }

-- its caller stays
caller_stays : (c : Counting) (n : NodeState) → KeepsCaller c n (uncounted n)
caller_stays No n = tt
caller_stays Names n = refl
caller_stays Absence n = refl

module _ (n : NodeState) (call : Call) (room : ValueBuf) (v : View) (holds : NodeHolds n call v room) (asks : IsCounting n call) where
  no_call : IsIdle (uncounted n)
  no_call = record { counts = refl; calls = asks.idle }

  module _ (w : View) (role : w.pass.role ≡ v.pass.role) (pool : w.pass.pool ≡ v.pass.pool) (names : w.pass.names ≡ v.pass.names) (stock : w.pass.stock ≡ v.pass.stock) (more : KnowsMore v w) where
    -- it holds again, of no call
    holds_again : NodeHolds (uncounted n) call w room
    holds_again = record {
      role = role ∙ holds.role;
      stock = stock ∙ holds.stock;
      names = names ∙ holds.names;
      tags = holds.tags;
      slots = holds.slots;
      once = holds.once;
      caller = record {
        pool = pool ∙ holds.caller.pool;
        client = is_client w n.client (role ∙ holds.role);
        cursors = cursors_kept n.caller.pool v w n.caller.cursors more holds.caller.cursors;
        call = subst (λ (u : Underway). CallHolds n.caller.pool u w room) (sym asks.idle) tt;
      };
      asked = subst (λ (u : Underway). IsUnder u w call) (sym asks.idle) tt;
    }

  module _ (o : Option Open) (w : View) (o1 : Option Open) (same : w ≡ v) where
    -- where the access was refused
    refused_holds : NodeHolds (uncounted n) call w room
    refused_holds = subst (λ (z : View). NodeHolds (uncounted n) call z room) (sym same) (holds_again v refl refl refl refl (λ q h. h))

    refused_went : NodeWent n call room v o (uncounted n) w o1 (Refused Unreached)
    refused_went = record {
      kept = refl;
      pool = refl;
      still = caller_stays n.counting n;
      turns = subst IsOpen (sym asks.idle) tt;
      going = tt;
      over = no_call;
      says = says_count n.counting n.caller.pool n call room v o (uncounted n) w o1 (Refused Unreached) asks.counts tt;
      enters = ap (λ (z : View). z.pass.calls) same;
    }

  module _ (o : Option Open) (x : ℕ) (w : View) (o1 : Option Open) (made : Made n.caller.pool (count_of n.counting call) true v o x w o1) where
    abbrev turn : NodeTurn
    turn = count_turn n.counting (length n.names) x

    -- where it was made
    loaded_holds : NodeHolds (uncounted n) call w room
    loaded_holds =
        let p = n.caller.pool in
        let s = stepped p (count_of n.counting call) true v o x w o1 made in
        let e = enters_at p n call v o x w o1 holds.names asks n.counting asks.counts n.caller.under asks.idle room made in
        holds_again w s.role s.pool s.names e.0 (knows_more p (count_of n.counting call) true v o x w o1 made)

    loaded_went : NodeWent n call room v o (uncounted n) w o1 turn
    loaded_went =
        let p = n.caller.pool in
        let e = enters_at p n call v o x w o1 holds.names asks n.counting asks.counts n.caller.under asks.idle room made in
        record {
          kept = (let same = sym (same_stock p n call v o x w o1 holds.names asks n.counting) in λ i. record n { counting = No; stock = same i });
          pool = refl;
          still = caller_stays n.counting n;
          turns = turns_at p n call v o x w o1 holds.names asks n.counting n.caller.under n.caller.under room (subst IsOpen (sym asks.idle) tt);
          going = never_on p n call v o x w o1 holds.names asks n.counting (GoesFar (uncounted n) w);
          over = over_at p n call v o x w o1 holds.names asks n.counting (IsIdle (uncounted n)) no_call;
          says = says_count n.counting p n call room v o (uncounted n) w o1 turn asks.counts (says_at p n call v o x w o1 holds.names asks n.counting asks.counts made);
          enters = e.1;
        }

  module _ (o : Option Open) (w : View) (o1 : Option Open) where
    abbrev Access : NodeTurn → Type 0
    Access t = (x : ℕ) × Made n.caller.pool (count_of n.counting call) true v o x w o1 × (t ≡ count_turn n.counting (length n.names) x)

    abbrev Says : NodeTurn → Type 0
    Says t = NodeWent n call room v o (uncounted n) w o1 t × NodeHolds (uncounted n) call w room

    loaded : (t : NodeTurn) → Access t → Says t
    loaded t (x, made, is) = subst Says (sym is) (loaded_went o x w o1 made, loaded_holds o x w o1 made)

    -- what a step says that loads the count
    pub count_says : (t : NodeTurn) → OnMade t (Access t) → OnRefused t ((w ≡ v) × (t ≡ Refused Unreached)) → Says t
    count_says More m f = loaded More m
    count_says (Decided a) m f = loaded (Decided a) m
    count_says (Done a) m f = loaded (Done a) m
    count_says (Refused Unreached) m f = (refused_went o w o1 f.0, refused_holds o w o1 f.0)
    count_says (Refused (Behind turns)) m f = loaded (Refused (Behind turns)) m
    count_says (Refused (Linked t)) m f = let other = f.1 in absurd cc
    count_says (Refused (TooLong length room)) m f = loaded (Refused (TooLong length room)) m
    count_says (Refused NeedsStock) m f = loaded (Refused NeedsStock) m
    count_says (Refused (NeedsNames known bound)) m f = loaded (Refused (NeedsNames known bound)) m

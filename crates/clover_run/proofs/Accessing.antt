-- A client's own access as an access of the run, and where the client stands behind it: what each outcome needs.
use Prim.Native.Nat.{suc}
use Rattle.std.proofs.Common.{◌≡◌, ◌≢◌, ℕ, ◌<◌, List, [], ◌∷◌, ◌++◌, length, map, Bool, true, false, cond, inl, inr, refl, sym, ap, ◌∙◌, subst, arith}
use Rattle.std.specs.Prelude.{◌⊎◌, Option, Some, None, IfSome, IsSome}
use Rattle.clover_words.specs.declared.bytes.ValueBuf.{ValueBuf}
use Rattle.clover_words.specs.declared.pool.Pool.{Pool}
use Rattle.clover_words.specs.declared.setup.Setup.{Setup}
use Rattle.clover_words.specs.Tag.{tag_number}
use Rattle.clover_map.specs.History.{own, key_of}
use Rattle.clover_map.specs.declared.call.Call.{Call}
use Rattle.clover_map.specs.declared.call.Entry.{Entry}
use Rattle.clover_script.specs.declared.line.Task.TheVariants.{Client as ClientTask}
use Rattle.clover_rule.specs.Accesses.{CameBack}
use Rattle.clover_rule.specs.Learned.{found, words_after_step}
use Rattle.clover_rule.specs.Steps.{Step, act_of, reply_of}
use Rattle.clover_rule.specs.declared.access.Access.{Access}
use Rattle.clover_rule.specs.declared.access.Act.{Act}
use Rattle.clover_rule.specs.declared.access.Actor.TheVariants.{Client}
use Rattle.clover_rule.specs.declared.view.View.{View}
use Rattle.clover_plain.specs.Plain.{Plain, open_of, view_at}
use Rattle.clover_walk.proofs.Endings.{stepped}
use Rattle.clover_call.specs.Calling.{Calling, after}
use Rattle.clover_call.specs.Caller.{CallHolds, HasCommitted, call_under, is_first, new_tag, next_step}
use Rattle.clover_call.specs.Going.{IsDue}
use Rattle.clover_call.specs.Turning.{Tells as CallTells}
use Rattle.clover_call.specs.declared.answer.CallerTurn.{CallerTurn}
use Rattle.clover_call.specs.declared.under.Underway.{Underway}
use Rattle.clover_call.specs.declared.under.Underway.TheVariants.{Nothing as NoCall, Get, Write}
use Rattle.clover_node.specs.Going.{IsOpen}
use Rattle.clover_node.specs.Node.{NodeState, NodeHolds, IsAsked, IsIdle, IsUnder, first_of, node_first}
use Rattle.clover_node.specs.declared.answer.NodeTurn.{NodeTurn}
use Rattle.clover_node.specs.declared.counting.Counting.{Counting}
use Rattle.clover_node.specs.declared.counting.Counting.TheVariants.{No}
use Rattle.clover_event.specs.Client.{HasLinked, IsLast, access}
use Rattle.clover_event.specs.Run.{IsBlank, Wrote, lost}
use Rattle.clover_event.proofs.Advancing.{IsMade}
use Rattle.clover_event.proofs.Turns.{apart}
use Rattle.clover_run.specs.Client.{Phase, Rests, Wants, Calls, Ends, IsIn, IsOwnPhase, Stands, Matches, IsCall, IsDoing, IsTaskOf, LacksNames, Moved, MakesDue, call_at, call_or, since_of, step_record}
use Rattle.clover_run.specs.Folds.{Doing}
use Rattle.clover_run.specs.Run.{Opening, Standing, IsAccess, IsCause, IsEntry, IsOwnAccess, TakesFirst, Tells}
use Rattle.clover_run.specs.Stepping.{Accesses}
use Rattle.clover_run.specs.Wanting.{slot_for, wants}
use Rattle.clover_run.specs.declared.client.ClientState.{ClientState}
use Rattle.clover_run.specs.declared.event.Note.{Note}
use Rattle.clover_run.specs.declared.event.Note.TheVariants.{Refused}
use Rattle.clover_run.specs.declared.want.Want.TheVariants.{Nothing, Names}
use Rattle.clover_run.proofs.Moving.{came_back}
use Rattle.clover_run.proofs.OnSlots.{OnSlot}

-- a client whose step is an access of its own has a call under way, and wants nothing
pub busy_in : (f : Phase) (x : ClientState) → IsOwnPhase f → IsIn f x → x.node.counting ≡ No → x.node.caller.under ≢ NoCall
busy_in Rests x own is none e = own
busy_in Wants x own is none e = own
busy_in Calls x own is none e = is.0 (record { counts = none; calls = e })
busy_in Ends x own is none e = subst HasCommitted e is.0

pub wants_none : (f : Phase) (x : ClientState) → IsOwnPhase f → IsIn f x → x.want ≡ Nothing
wants_none Rests x own is = absurd own
wants_none Wants x own is = absurd own
wants_none Calls x own is = is.2
wants_none Ends x own is = is.1

pub open_apart : (u : Underway) → IsOpen u → HasCommitted u → ⊥
open_apart NoCall h b = b
open_apart (Get g) h b = apart (Get g) h b
open_apart (Write c) h b = apart (Write c) h b

-- the call under way on a slot is the client's
pub under_call : (u : Underway) (v : View) (call : Call) → IsUnder u v call → u ≢ NoCall → call_under u v ≡ call
under_call NoCall v call is busy = absurd (busy refl)
under_call (Get g) v call is busy = is
under_call (Write c) v call is busy = is

-- where a call goes on it is the same, and so is the phase
pub call_goes : (f : Phase) (x y : ClientState) (v w : View) → IsOwnPhase f → IsIn f x → y.call ≡ x.call → call_under y.node.caller.under w ≡ call_under x.node.caller.under v → call_at y w ≡ call_at x v
call_goes Rests x y v w own is kept same = absurd own
call_goes Wants x y v w own is kept same = absurd own
call_goes Calls x y v w own is kept same = ap (λ (k : Option Call). call_or k y w) (kept ∙ is.3.1) ∙ sym (ap (λ (k : Option Call). call_or k x v) is.3.1)
call_goes Ends x y v w own is kept same = ap (λ (k : Option Call). call_or k y w) (kept ∙ is.2) ∙ same ∙ sym (ap (λ (k : Option Call). call_or k x v) is.2)

pub phase_goes : (f : Phase) (x y : ClientState) → IsOwnPhase f → IsIn f x → y.want ≡ x.want → y.call ≡ x.call → (IsIdle y.node → ⊥)
    → (IsOpen x.node.caller.under × IsOpen y.node.caller.under) ⊎ (HasCommitted x.node.caller.under × HasCommitted y.node.caller.under) → IsIn f y
phase_goes Rests x y own is want call busy on = absurd own
phase_goes Wants x y own is want call busy on = absurd own
phase_goes Calls x y own is want call busy (inl b) = (busy, b.1, want ∙ is.2, (is.3.0, call ∙ is.3.1))
phase_goes Calls x y own is want call busy (inr b) = absurd (open_apart x.node.caller.under is.1 b.0)
phase_goes Ends x y own is want call busy (inl b) = absurd (open_apart x.node.caller.under b.0 is.0)
phase_goes Ends x y own is want call busy (inr b) = (b.1, want ∙ is.1, call ∙ is.2)

-- what the records say of it goes on too
abbrev pub went_on : Doing → Act → Doing
went_on d act = record d { since = d.since ++ act ∷ []; refusing = false }

pub task_goes : (c k : Call) (d e : Doing) → k ≡ c → e.task ≡ d.task → IsTaskOf c d → IsTaskOf k e
task_goes c k d e same task is = (is.0, task ∙ is.1 ∙ ap (λ (j : Call). Some (ClientTask j is.0)) (sym same))

pub doing_goes : (f : Phase) (x y : ClientState) (v w : View) (act : Act) (d : Doing) → IsOwnPhase f → call_at y w ≡ call_at x v → new_tag y.node.caller.under ≡ new_tag x.node.caller.under → since_of y.node w ≡ since_of x.node v ++ act ∷ []
    → ((acts : List Act) → wants (call_at y w) (slot_for (key_of (call_at y w)) y.node.names) d.stock (acts ++ act ∷ []) ≡ Nothing) → IsDoing f x v d → IsDoing f y w (went_on d act)
doing_goes Rests x y v w act d own same tag since nothing is = absurd own
doing_goes Wants x y v w act d own same tag since nothing is = absurd own
doing_goes Calls x y v w act d own same tag since nothing is = (task_goes (call_at x v) (call_at y w) d (went_on d act) same refl is.0, is.1, ap (λ (l : List Act). l ++ act ∷ []) is.2 ∙ sym since, nothing d.since)
doing_goes Ends x y v w act d own same tag since nothing is = (
  task_goes (call_at x v) (call_at y w) d (went_on d act) same refl is.0,
  is.1 ∙ (λ j. Some (reply_of (sym tag j) (sym same j))),
  ap (λ (l : List Act). l ++ act ∷ []) is.2 ∙ sym since,
  nothing d.since,
)

-- a client whose call is over is where the records say
pub matches_rests : (z : ClientState) (v : View) (d : Doing) → z.refusing ≡ false → d.known ≡ length z.node.names → d.stock ≡ map tag_number z.node.stock → d.task ≡ None → d.refusing ≡ false → Matches z v Rests d
matches_rests z v d free known stock task off = record { refusing = free ∙ sym off; known = known; stock = stock; doing = task }

-- what is due of the caller is due of the client
pub due_so : (x y : ClientState) (step : Step) (n : ℕ) (r : CallerTurn) (note : Note) → IsDue x.node.caller.under x.room step n y.node.caller.under y.room r
    → ((call : Call) (own : ℕ) (c k : Calling) → CallTells call own c k r → Tells call own k note) → MakesDue x y (act_of step n) note
due_so x y step n r note due tells call own c at =
    let d = due call own c at in
    (d.step_due, n, d.due, d.acts n, d.leads, tells call own c (after call own c n) d.tells)

-- one that wants nothing lacks no names
pub lacks_none : (z : ClientState) (v : View) → z.want ≡ Nothing → LacksNames z v
lacks_none z v none e = absurd (let k : Names ≡ Nothing = sym e ∙ none in cc)

-- where no call is under way a view is held for any call
pub holds_over : (n : NodeState) (call other : Call) (v : View) (room : ValueBuf) → NodeHolds n call v room → IsIdle n → NodeHolds n other v room
holds_over n call other v room h idle = record {
  role = h.role;
  stock = h.stock;
  names = h.names;
  tags = h.tags;
  slots = h.slots;
  once = h.once;
  caller = h.caller;
  asked = subst (λ (c : Counting). IsAsked c n v other) (sym idle.counts) (subst (λ (u : Underway). IsUnder u v other) (sym idle.calls) tt);
}

-- an access that was made is one of the run, and one of the client's own
module _ (pool : Pool) (i : ℕ) (d : Standing) (act : Act) (is : d.actor ≡ suc i) where
  pub made_access : d.does.refusing ≡ false → CameBack pool d.words act → IsAccess pool d (access i act false)
  made_access free came = record { refused = sym free; blank = λ r. absurd (let z : false ≡ true = r in cc); replays = λ r. came }

  pub refused_access : d.does.refusing ≡ true → IsBlank act → IsAccess pool d (access i act true)
  refused_access going blank = record { refused = sym going; blank = λ r. blank; replays = λ r. absurd (let z : true ≡ false = r in cc) }

  pub made_own : (e : Option Entry) (note : Note) → IfSome e (IsEntry pool d (step_record d (Some (access i act false)) e note d.served)) → IfSome e (TakesFirst d) → (Wrote act → IsSome e) → IsCause pool d e act note
      → IsOwnAccess pool d (step_record d (Some (access i act false)) e note d.served) (access i act false)
  made_own e note entry takes commits cause = record {
    is = refl;
    actor = ap Client (sym is);
    served = refl;
    entry = entry;
    takes = takes;
    commits = λ r wrote. commits wrote;
    unreached = λ r. absurd (let z : false ≡ true = r in cc);
    cause = λ r. cause;
  }

  pub refused_own : (note : Note) → note ≡ Refused (suc i) (lost d.does.decided) → IsOwnAccess pool d (step_record d (Some (access i act true)) None note d.served) (access i act true)
  refused_own note told = record {
    is = refl;
    actor = ap Client (sym is);
    served = refl;
    entry = tt;
    takes = tt;
    commits = λ r wrote. absurd (let z : true ≡ false = r in cc);
    unreached = λ r. (told ∙ ap (λ (c : ℕ). Refused c (lost d.does.decided)) (sym is), refl);
    cause = λ r. absurd (let z : true ≡ false = r in cc);
  }

module _ (o : Opening) (i : ℕ) (f : Phase) (x : ClientState) (p : Plain) (st : Stands o p i x f) where
  -- the seat is a client's
  pub seated : i < p.setup.clients
  seated = let a = st.seat in let c = ap (λ (z : Setup). z.clients) st.setup in omega arith

  -- what its caller stands on, in the pool of the run
  pub held : CallHolds o.setup.pool x.node.caller.under (view_at p i) x.room
  held = subst (λ (k : Pool). CallHolds k x.node.caller.under (view_at p i) x.room) st.pool st.holds.caller.call

  pub under_is : x.node.counting ≡ No → x.node.caller.under ≢ NoCall → call_under x.node.caller.under (view_at p i) ≡ call_at x (view_at p i)
  under_is none busy = under_call x.node.caller.under (view_at p i) (call_at x (view_at p i)) (subst (λ (c : Counting). IsAsked c x.node (view_at p i) (call_at x (view_at p i))) none st.holds.asked) busy

  -- where the client stands behind an access
  pub stands_by : (t : Plain) (z : ClientState) (g : Phase) (a : Option Access) (e : Option Entry) → Moved a e p t → z.node.client ≡ x.node.client → z.node.caller.pool ≡ x.node.caller.pool → z.number ≡ length (own t.entries (suc i))
      → NodeHolds z.node (call_at z (view_at t i)) (view_at t i) z.room → IsIn g z → ((call : Call) → z.call ≡ Some call → IsCall o call) → HasLinked z.node.caller.under (view_at t i).pass.since → Stands o t i z g
  stands_by t z g a e m client pool number holds phase calls linked = record {
    setup = m.setup ∙ st.setup;
    opened = m.opened ∙ st.opened;
    entered = m.entered;
    seat = st.seat;
    seats = m.seats ∙ st.seats;
    client = client ∙ st.client;
    number = number;
    pool = pool ∙ st.pool;
    holds = holds;
    phase = phase;
    call = calls;
    linked = linked;
  }

  -- where its call is over
  pub stands_over : (t : Plain) (z : ClientState) (a : Option Access) (e : Option Entry) (call : Call) → Moved a e p t → z.node.client ≡ x.node.client → z.node.caller.pool ≡ x.node.caller.pool → z.number ≡ length (own t.entries (suc i))
      → NodeHolds z.node call (view_at t i) z.room → IsIdle z.node → z.want ≡ Nothing → z.call ≡ None → Stands o t i z Rests
  stands_over t z a e call m client pool number holds idle want none =
      stands_by t z Rests a e m client pool number
      (holds_over z.node call (call_at z (view_at t i)) (view_at t i) z.room holds idle)
      (idle, want, none) (λ c e. absurd (let k : None ≡ Some c = sym none ∙ e in cc)) (subst (λ (u : Underway). HasLinked u (view_at t i).pass.since) (sym idle.calls) tt)

  module _ (y : ClientState) (q : Plain) (t : NodeTurn) (a : Accesses i x y p q t) where
    -- what an access leaves of the client
    pub kept_call : y.call ≡ x.call
    kept_call = ap (λ (z : ClientState). z.call) a.rest

    pub kept_want : y.want ≡ x.want
    kept_want = ap (λ (z : ClientState). z.want) a.rest

    pub kept_number : y.number ≡ x.number
    kept_number = ap (λ (z : ClientState). z.number) a.rest

    pub not_refusing : y.refusing ≡ false
    not_refusing = ap (λ (z : ClientState). z.refusing) a.rest

    pub kept_client : y.node.client ≡ x.node.client
    kept_client = ap (λ (n : NodeState). n.client) a.went.kept

    pub kept_names : y.node.names ≡ x.node.names
    kept_names = ap (λ (n : NodeState). n.names) a.went.kept

    pub counts_no : y.node.counting ≡ No
    counts_no = ap (λ (n : NodeState). n.counting) a.went.kept

    pub held_behind : CallHolds o.setup.pool y.node.caller.under (view_at q i) y.room
    held_behind = subst (λ (k : Pool). CallHolds k y.node.caller.under (view_at q i) y.room) (a.went.pool ∙ st.pool) a.holds.caller.call

    -- of a call on a slot
    module _ (s : OnSlot i x y p q t) where
      abbrev u : Underway
      u = x.node.caller.under

      abbrev act : Act
      act = act_of (next_step u (view_at p i) x.room) s.n

      pub since_view : (view_at q i).pass.since ≡ cond (is_first u) [] (view_at p i).pass.since ++ act ∷ []
      since_view = (stepped p.setup.pool (next_step u (view_at p i) x.room) (is_first u) (view_at p i) (Some (open_of p)) s.n (view_at q i) (Some (open_of q)) s.made).since

      pub last_so : IsLast act (view_at q i).pass.since
      last_so = (cond (is_first u) [] (view_at p i).pass.since, since_view)

      pub came_so : CameBack o.setup.pool p.words act
      came_so = subst (λ (k : Setup). CameBack k.pool p.words act) st.setup (came_back i p q (next_step u (view_at p i) x.room) (is_first u) true s.n s.stepped)

      pub alone_so : (c m : ℕ) (room1 : ValueBuf) → IsMade c o.setup.pool m (view_at p i) p.words q.words x.room room1 s.n u
      alone_so c m room1 = (s.stepped.words ∙ ap (λ (k : Setup). words_after_step k.pool (next_step u (view_at p i) x.room) p.words) st.setup, s.stepped.found ∙ ap (λ (k : Setup). found k.pool (next_step u (view_at p i) x.room) p.words) st.setup)

      -- its acts since its last start
      pub since_was : x.node.counting ≡ No → since_of x.node (view_at p i) ≡ cond (is_first u) [] (view_at p i).pass.since
      since_was none = ap (λ (b : Bool). cond b [] (view_at p i).pass.since) (ap (λ (c : Counting). first_of c x.node) none)

      pub since_on : x.node.counting ≡ No → node_first y.node ≡ false → since_of y.node (view_at q i) ≡ since_of x.node (view_at p i) ++ act ∷ []
      since_on none later = ap (λ (b : Bool). cond b [] (view_at q i).pass.since) later ∙ since_view ∙ ap (λ (l : List Act). l ++ act ∷ []) (sym (since_was none))

-- That an access of a client's own call leaves less to do of its task.
use Rattle.std.proofs.Common.{◌≡◌, ◌≢◌, ℕ, suc, ◌+◌, ◌-◌, ◌*◌, ◌<◌, List, [], ◌∷◌, length, set, map, Bool, true, false, refl, sym, ap, ◌∙◌, subst, arith}
use Rattle.std.specs.Prelude.{Option, Some, None}
use Rattle.clover_words.specs.Tag.{TagParts, tag_number}
use Rattle.clover_words.specs.declared.pool.Pool.{Pool}
use Rattle.clover_map.specs.declared.call.Call.{Call}
use Rattle.clover_map.specs.declared.call.Entry.{Entry}
use Rattle.clover_map.specs.declared.call.Reply.{Reply}
use Rattle.clover_rule.specs.declared.access.Access.{Access}
use Rattle.clover_rule.specs.declared.access.Actor.{Actor}
use Rattle.clover_rule.specs.declared.access.Actor.TheVariants as actor
use Rattle.clover_rule.specs.declared.view.View.{View}
use Rattle.clover_rule.specs.Lists.{nth}
use Rattle.clover_rule.proofs.Steps.{set_here}
use Rattle.clover_plain.specs.Plain.{Plain, view_at}
use Rattle.clover_call.specs.Caller.{HasCommitted}
use Rattle.clover_call.specs.declared.under.Underway.{Underway}
use Rattle.clover_call.specs.declared.under.Underway.TheVariants.{Nothing as NoCall, Get, Write}
use Rattle.clover_node.specs.Node.{IsIdle}
use Rattle.clover_node.specs.declared.counting.Counting.{Counting}
use Rattle.clover_node.specs.declared.counting.Counting.TheVariants.{No, Names as ForNames, Absence}
use Rattle.clover_server.specs.Left.{work_left}
use Rattle.clover_server.specs.Server.{ServerState}
use Rattle.clover_event.specs.Machine.{most_made}
use Rattle.clover_script.specs.declared.line.Task.{Task}
use Rattle.clover_run.specs.Client.{Phase, Rests, Wants, Calls, Ends, IsIn, IsOwnPhase, IsOf, IsTaskOf, Matches, Stands, Went, call_at, since_of, step_record}
use Rattle.clover_run.specs.Folds.{Doing, ends, ended_if, granted, entered, accessed, stepped}
use Rattle.clover_run.specs.Left.{if_empty, rounds, round_size, wants_left, or_none, left_by, left_of, left}
use Rattle.clover_run.specs.Machine.{Parts}
use Rattle.clover_run.specs.Run.{Opening, Standing, IsOwnAccess, IsCause}
use Rattle.clover_run.specs.Record.{Record}
use Rattle.clover_run.specs.declared.client.ClientState.{ClientState}
use Rattle.clover_run.specs.declared.served.Served.{Served}
use Rattle.clover_run.specs.declared.event.Note.{Note}
use Rattle.clover_run.specs.declared.event.Note.TheVariants as note
use Rattle.clover_run.specs.declared.want.Want.{Want}
use Rattle.clover_run.specs.declared.want.Want.TheVariants.{Nothing, Stock, Names}

-- a grant's note
abbrev pub IsGrant : Note → Type 0
IsGrant (note.Granted c names) = Unit {0}
IsGrant n = ⊥

-- what a step leaves of what the actor has under way
abbrev behind : Doing → Option Access → Option Entry → Served → Note → Doing
behind d x e w n = ended_if (ends n) (granted (entered (accessed d x) e) w n)

-- an access leaves the task, the reply and the stock
accessed_keeps : (d : Doing) (x : Option Access) → ((accessed d x).task ≡ d.task) × ((accessed d x).decided ≡ d.decided) × ((accessed d x).stock ≡ d.stock)
accessed_keeps d None = (refl, refl, refl)
accessed_keeps d (Some x) = by x.actor
  where
    by : (a : Actor) → ((accessed d (Some (record x { actor = a }))).task ≡ d.task) × ((accessed d (Some (record x { actor = a }))).decided ≡ d.decided) × ((accessed d (Some (record x { actor = a }))).stock ≡ d.stock)
    by (actor.Client n) = (refl, refl, refl)
    by actor.Server = (refl, refl, refl)
    by actor.Restart = (refl, refl, refl)

-- what has no reply behind the entry had none before, and has its stock
entered_open : (d : Doing) (e : Option Entry) → (entered d e).decided ≡ None → (d.decided ≡ None) × ((entered d e).stock ≡ d.stock)
entered_open d None undone = (undone, refl)
entered_open d (Some e) undone = absurd (let z : ◌≡◌ {A = Option Reply} (Some e.reply) None = undone in cc)

-- Where a step that is no grant's leaves a call under way that is not decided, it was not decided before, and the stock is what it was.
behind_open : (d : Doing) (x : Option Access) (e : Option Entry) (w : Served) (n : Note) → (IsGrant n → ⊥) → (behind d x e w n).task ≢ None → (behind d x e w n).decided ≡ None → (d.decided ≡ None) × ((behind d x e w n).stock ≡ d.stock)
behind_open d x e w n quiet some undone = by n quiet some undone
  where
    goes : (entered (accessed d x) e).decided ≡ None → (d.decided ≡ None) × ((entered (accessed d x) e).stock ≡ d.stock)
    goes h = let k = accessed_keeps d x in let z = entered_open (accessed d x) e h in (sym k.1 ∙ z.0, z.1 ∙ k.2)

    by : (n : Note) → (IsGrant n → ⊥) → (behind d x e w n).task ≢ None → (behind d x e w n).decided ≡ None → (d.decided ≡ None) × ((behind d x e w n).stock ≡ d.stock)
    by note.Quiet quiet some undone = goes undone
    by note.Waits quiet some undone = goes undone
    by (note.Granted c names) quiet some undone = absurd (quiet tt)
    by (note.Answered c reply) quiet some undone = absurd (some refl)
    by (note.Refused c y) quiet some undone = absurd (some refl)
    by (note.Full c bound worn out) quiet some undone = absurd (some refl)
    by (note.NoSlot c) quiet some undone = absurd (some refl)
    by (note.Recycled old) quiet some undone = absurd (some refl)
    by note.Unlinked quiet some undone = absurd (some refl)
    by note.Unbound quiet some undone = absurd (some refl)
    by (note.Swept count) quiet some undone = absurd (some refl)
    by note.Unreached quiet some undone = absurd (some refl)
    by (note.Busy a) quiet some undone = absurd (some refl)
    by (note.Missing a) quiet some undone = absurd (some refl)

-- an access of a client's own is no grant
own_grants : (p : Pool) (st : Standing) (r : Record) (x : Access) → IsOwnAccess p st r x → IsGrant r.note → ⊥
own_grants p st r x own grant = by x.refused refl
  where
    cause : (n : Note) → IsGrant n → IsCause p st r.entry x.act n → ⊥
    cause (note.Granted c names) g h = h
    cause note.Quiet g h = g
    cause note.Waits g h = g
    cause (note.Answered c reply) g h = g
    cause (note.Refused c y) g h = g
    cause (note.Full c bound worn out) g h = g
    cause (note.NoSlot c) g h = g
    cause (note.Recycled old) g h = g
    cause note.Unlinked g h = g
    cause note.Unbound g h = g
    cause (note.Swept count) g h = g
    cause note.Unreached g h = g
    cause (note.Busy a) g h = g
    cause (note.Missing a) g h = g

    by : (b : Bool) → x.refused ≡ b → ⊥
    by true e = subst IsGrant (own.unreached e).0 grant
    by false e = cause r.note grant (own.cause e)

-- a task is none
tasked : (call : Call) (d : Doing) → IsTaskOf call d → d.task ≢ None
tasked call d is none = let z : ◌≡◌ {A = Option Task} None (Some _) = sym none ∙ is.1 in absurd cc

-- a stock is empty where its numbers are
if_empty_same : (ts us : List TagParts) → map tag_number ts ≡ map tag_number us → if_empty ts ≡ if_empty us
if_empty_same [] [] e = refl
if_empty_same [] (u ∷ us) e = absurd cc
if_empty_same (t ∷ ts) [] e = absurd cc
if_empty_same (t ∷ ts) (u ∷ us) e = refl

-- what is left of a client that has something under way, and of one that rests
or_busy : (c : Counting) (u : Underway) (n : ℕ) → (c ≡ No → u ≡ NoCall → ⊥) → or_none c u n ≡ n
or_busy No NoCall n busy = absurd (busy refl refl)
or_busy No (Get g) n busy = refl
or_busy No (Write c) n busy = refl
or_busy ForNames u n busy = refl
or_busy Absence u n busy = refl

or_idle : (c : Counting) (u : Underway) (n : ℕ) → c ≡ No → u ≡ NoCall → or_none c u n ≡ 0
or_idle c u n e f = ap (λ (d : Counting). or_none d u n) e ∙ ap (λ (z : Underway). or_none No z n) f

module _ (s : ServerState) (x : ClientState) (v : View) where
  pub left_idle : IsIdle x.node → x.want ≡ Nothing → left_by x.want s x v ≡ 0
  left_idle idle free = ap (λ (w : Want). left_by w s x v) free ∙ or_idle x.node.counting x.node.caller.under _ idle.counts idle.calls

  pub left_busy : (IsIdle x.node → ⊥) → x.want ≡ Nothing → left_by x.want s x v ≡ wants_left x.call s x + (most_made x.node.caller.pool - length (since_of x.node v))
  left_busy busy free = ap (λ (w : Want). left_by w s x v) free ∙ or_busy x.node.counting x.node.caller.under _ (λ e f. busy (record { counts = e; calls = f }))

  -- of one that wants something, and of one whose node is idle
  wanting : (w : Want) → w ≢ Nothing → left_by w s x v ≡ rounds x * round_size x.node.caller.pool + (work_left s + 1)
  wanting Nothing some = absurd (some refl)
  wanting Stock some = refl
  wanting Names some = refl

  pub left_wanting : x.want ≢ Nothing → left_by x.want s x v ≡ rounds x * round_size x.node.caller.pool + (work_left s + 1)
  left_wanting some = wanting x.want some

-- a call that has committed is under way
committed_busy : (u : Underway) → HasCommitted u → u ≢ NoCall
committed_busy NoCall h e = h
committed_busy (Get g) h e = h
committed_busy (Write c) h e = cc

-- the client is busy in both phases of its own
own_busy : (f : Phase) (x : ClientState) → IsOwnPhase f → IsIn f x → (IsIdle x.node → ⊥) × (x.want ≡ Nothing)
own_busy Rests x own h = absurd own
own_busy Wants x own h = absurd own
own_busy Calls x own h = (h.0, h.2)
own_busy Ends x own h = ((λ idle. committed_busy x.node.caller.under h.0 idle.calls), h.1)

-- what is under way of a call that is not decided was entered by nothing
undecided : (f : Phase) (x : ClientState) (v : View) (d : Doing) → IsOwnPhase f → IsIn f x → Matches x v f d → d.decided ≡ None → (call : Call) × (x.call ≡ Some call)
undecided Rests x v d own h m undone = absurd own
undecided Wants x v d own h m undone = absurd own
undecided Calls x v d own h m undone = h.3
undecided Ends x v d own h m undone = absurd (let z : ◌≡◌ {A = Option Reply} None (Some _) = sym undone ∙ m.doing.1 in cc)

-- An access of a client's own call leaves less to do.
module _ (o : Opening) (i : ℕ) (f : Phase) (x y : ClientState) (p q : Plain) (n : Note) (s : ServerState) (st : Standing) (was : Stands o p i x f) (own : IsOwnPhase f) (is : IsOf i x p st) (m : Matches x (view_at p i) f st.does) (few : length (since_of x.node (view_at p i)) < most_made x.node.caller.pool) (w : Went o i f x y p q n) where
  abbrev made : ℕ
  made = most_made x.node.caller.pool - length (since_of x.node (view_at p i))

  abbrev next : Doing
  next = stepped st.does (step_record st (Some w.access) w.entry n st.served)

  x_is : left_by x.want s x (view_at p i) ≡ wants_left x.call s x + made
  x_is = let h = own_busy f x own was.phase in left_busy s x (view_at p i) h.0 h.1

  same_pool : y.node.caller.pool ≡ x.node.caller.pool
  same_pool = w.stands.pool ∙ sym was.pool

  -- a call that goes on has made one access more
  fewer : (IsIdle y.node → ⊥) → most_made y.node.caller.pool - length (since_of y.node (view_at q i)) < made
  fewer busy = let e = w.longer busy in let z = ap most_made same_pool in omega (arith, e, z, few)

  some_left : 0 < left_by x.want s x (view_at p i)
  some_left = let e = x_is in omega (arith, e, few)

  -- a call that is not decided yet starts anew as often as before
  undone : (g : Phase) → Matches y (view_at q i) g next → next.task ≢ None → next.decided ≡ None → ((call : Call) × (x.call ≡ Some call)) × (rounds y ≡ rounds x)
  undone g k some none =
      let r = step_record st (Some w.access) w.entry n st.served in
      let z = behind_open st.does (Some w.access) w.entry st.served n (own_grants o.setup.pool st r w.access (w.follows st is m).0) some none in
      let stock : if_empty y.node.stock ≡ if_empty x.node.stock = if_empty_same y.node.stock x.node.stock (sym k.stock ∙ z.1 ∙ m.stock) in
      let names : length y.node.names ≡ length x.node.names = ap length w.names in
      let slots : y.node.caller.pool.slots ≡ x.node.caller.pool.slots = ap (λ (z : Pool). z.slots) same_pool in
      (undecided f x (view_at p i) st.does own was.phase m z.0, omega (arith, stock, names, slots))

  size_same : round_size y.node.caller.pool ≡ round_size x.node.caller.pool
  size_same = ap round_size same_pool

  more : (call : Call) → x.call ≡ Some call → left_by x.want s x (view_at p i) ≡ rounds x * round_size x.node.caller.pool + (work_left s + 2) + made
  more call e = x_is ∙ ap (λ (z : Option Call). wants_left z s x + made) e

  again : rounds y ≡ rounds x → rounds y * round_size y.node.caller.pool ≡ rounds x * round_size x.node.caller.pool
  again e = ap (λ k. k * round_size y.node.caller.pool) e ∙ ap (λ k. rounds x * k) size_same

  by : (g : Phase) → IsIn g y → Matches y (view_at q i) g next → left_by y.want s y (view_at q i) < left_by x.want s x (view_at p i)
  by Rests h k = let z = left_idle s y (view_at q i) h.0 h.1 in omega (arith, z, some_left)
  by Wants h k =
      let z = undone Wants k (tasked (call_at y (view_at q i)) next k.doing.0) k.doing.1 in
      let a = left_wanting s y (view_at q i) h.1 in
      let b = more z.0.0 z.0.1 in
      let c = again z.1 in
      omega (arith, a, b, c)
  by Calls h k =
      let z = undone Calls k (tasked (call_at y (view_at q i)) next k.doing.0) k.doing.1 in
      let a = left_busy s y (view_at q i) h.0 h.2 ∙ ap (λ (e : Option Call). wants_left e s y + (most_made y.node.caller.pool - length (since_of y.node (view_at q i)))) h.3.1 in
      let b = more z.0.0 z.0.1 in
      let c = again z.1 in
      let d = fewer h.0 in
      omega (arith, a, b, c, d)
  by Ends h k =
      let busy : IsIdle y.node → ⊥ = λ idle. committed_busy y.node.caller.under h.0 idle.calls in
      let a = left_busy s y (view_at q i) busy h.1 ∙ ap (λ (e : Option Call). wants_left e s y + (most_made y.node.caller.pool - length (since_of y.node (view_at q i)))) h.2 in
      let b = x_is in
      let d = fewer busy in
      omega (arith, a, b, d)

  pub own_less : left_by y.want s y (view_at q i) < left_by x.want s x (view_at p i)
  own_less = by w.after w.stands.phase (w.follows st is m).1

-- what is left of a client's task
pub left_at : (m : Parts) (i : ℕ) (x : ClientState) → nth m.clients i ≡ Some x → left m (suc i) ≡ left_by x.want m.served.server x (view_at m.pool i)
left_at m i x here = ap (left_of m i) here

-- A step that lowers what is left of a client lowers what is left of its task.
pub left_less : (m : Parts) (i : ℕ) (x y : ClientState) (q : Plain) (w : Served) → nth m.clients i ≡ Some x → left_by y.want w.server y (view_at q i) < left_by x.want m.served.server x (view_at m.pool i) → left (record m { pool = q; served = w; clients = set m.clients i y }) (suc i) < left m (suc i)
left_less m i x y q w here less =
    let old = left_at m i x here in
    let new = left_at (record m { pool = q; served = w; clients = set m.clients i y }) i y (set_here m.clients i y x here) in
    omega (arith, old, new, less)

-- A client of the machine: what it has under way and what it knows, that this is what the records say of it, and what its begin and its own steps do.
use Prim.Native.Nat.{suc}
use Rattle.std.specs.Prelude.{◌≡◌, ◌≢◌, ◌⊎◌, ℕ, ◌+◌, ◌≤◌, ◌<◌, List, [], ◌∷◌, ◌++◌, length, map, true, false, cond, if◌then◌else◌, Option, Some, None, MatchOption, All}
use Rattle.std.specs.Option.{option_to_list}
use Rattle.clover_words.specs.declared.pool.Pool.{Pool}
use Rattle.clover_words.specs.declared.setup.Setup.{Setup}
use Rattle.clover_words.specs.declared.bytes.ValueBuf.{ValueBuf}
use Rattle.clover_words.specs.Tag.{TagParts, tag_number}
use Rattle.clover_map.specs.History.{own, key_of}
use Rattle.clover_map.specs.declared.call.Call.{Call}
use Rattle.clover_map.specs.declared.call.Entry.{Entry}
use Rattle.clover_script.specs.declared.line.Task.TheVariants.{Client as ClientTask}
use Rattle.clover_rule.specs.Cut.{IsKnownDurable}
use Rattle.clover_rule.specs.Lists.{Within}
use Rattle.clover_rule.specs.Steps.{Step as Due, act_of, reply_of}
use Rattle.clover_rule.specs.declared.access.Access.{Access}
use Rattle.clover_rule.specs.declared.access.Act.{Act}
use Rattle.clover_rule.specs.declared.view.Role.TheVariants.{Client as ClientRole}
use Rattle.clover_rule.specs.declared.view.View.{View}
use Rattle.clover_plain.specs.Plain.{Plain, view_at, history}
use Rattle.clover_cache.specs.Node.{Known, IsSet}
use Rattle.clover_walk.specs.Walking.{key_at}
use Rattle.clover_call.specs.Beginning.{size_of, ExpectsTag}
use Rattle.clover_call.specs.Caller.{HasCommitted, call_under, new_tag, slot_of}
use Rattle.clover_call.specs.Calling.{Calling, due, after, own_words}
use Rattle.clover_call.specs.Mirroring.{Mirrors}
use Rattle.clover_call.specs.declared.under.Underway.TheVariants.{Nothing as NoCall}
use Rattle.clover_node.specs.Beginning.{NodeStarts, Refuses, room_of}
use Rattle.clover_node.specs.Going.{IsOpen}
use Rattle.clover_node.specs.Node.{NodeState, NodeHolds, IsIdle, IsPut, first_node, node_first}
use Rattle.clover_node.specs.declared.answer.NodeRefusal.TheVariants.{NeedsStock}
use Rattle.clover_event.specs.Alone.{EndsIn}
use Rattle.clover_event.specs.Client.{HasLinked, IsLast}
use Rattle.clover_event.specs.Ends.{IsLatest}
use Rattle.clover_event.specs.Folds.{words_by, made_by}
use Rattle.clover_event.specs.Run.{room}
use Rattle.clover_event.specs.declared.event.CallRefusal.TheVariants.{TooLong}
use Rattle.clover_event.specs.declared.event.Event.TheVariants.{Step}
use Rattle.clover_run.specs.Alone.{Advances}
use Rattle.clover_run.specs.Ends.{end_tags}
use Rattle.clover_run.specs.Folds.{Doing, stepped}
use Rattle.clover_run.specs.Record.{Record}
use Rattle.clover_run.specs.Run.{Opening, Standing, IsAccess, IsCalling, IsCounting, IsOwnAccess, Tells, known_slot, own_tag}
use Rattle.clover_run.specs.Wanting.{slot_for, wants}
use Rattle.clover_run.specs.declared.client.ClientState.{ClientState}
use Rattle.clover_run.specs.declared.event.Note.{Note}
use Rattle.clover_run.specs.declared.event.Note.TheVariants.{Quiet, Answered, Refused}
use Rattle.clover_run.specs.declared.served.Served.{Served}
use Rattle.clover_run.specs.declared.want.Want.{Want}
use Rattle.clover_run.specs.declared.want.Want.TheVariants.{Nothing, Stock, Names}

-- a client of this number that has done nothing
pub record IsFirst (s : Setup) (n : ℕ) (x : ClientState) : Type 0 where
  pub node : x.node ≡ first_node s.pool n
  pub holds : (call : Call) (v : View) (room : ValueBuf) → v.pass.pool ≡ s.pool → v.pass.role ≡ ClientRole n → v.pass.stock ≡ [] → v.pass.names ≡ [] → NodeHolds x.node call v room
  pub call : x.call ≡ None
  pub want : x.want ≡ Nothing
  pub refusing : x.refusing ≡ false
  pub number : x.number ≡ 0

-- What a client has under way: nothing; a call that wants something of the server; one whose accesses are its own and that was not entered; or one that was, and is made durable.
pub data Phase : Type 0 where
  Rests : Phase
  Wants : Phase
  Calls : Phase
  Ends : Phase

abbrev pub IsIn : Phase → ClientState → Type 0
IsIn Rests x = IsIdle x.node × (x.want ≡ Nothing) × (x.call ≡ None)
IsIn Wants x = IsIdle x.node × (x.want ≢ Nothing) × ((call : Call) × (x.call ≡ Some call)) × (x.want ≡ Stock → x.node.stock ≡ [])
IsIn Calls x = (IsIdle x.node → ⊥) × IsOpen x.node.caller.under × (x.want ≡ Nothing) × ((call : Call) × (x.call ≡ Some call))
IsIn Ends x = HasCommitted x.node.caller.under × (x.want ≡ Nothing) × (x.call ≡ None)

-- a step of the client is an access of its own
abbrev pub IsOwnPhase : Phase → Type 0
IsOwnPhase Rests = ⊥
IsOwnPhase Wants = ⊥
IsOwnPhase Calls = Unit {0}
IsOwnPhase Ends = Unit {0}

-- the client has a task
abbrev pub HasTask : ClientState → Type 0
HasTask x = (x.call ≢ None) ⊎ (IsIdle x.node → ⊥)

-- the call under way: the one that is kept, or behind its entry the one of the version
abbrev pub call_or : Option Call → ClientState → View → Call
call_or (Some call) x v = call
call_or None x v = call_under x.node.caller.under v

abbrev pub call_at : ClientState → View → Call
call_at x v = call_or x.call x v

-- the acts of the call under way since its last start, as the client's view holds them
abbrev pub since_of : NodeState → View → List Act
since_of n v = cond (node_first n) [] v.pass.since

-- a client that wants names has loaded a count that is greater than the number of its names, unless its call is a put
abbrev pub LacksNames : ClientState → View → Type 0
LacksNames x v = x.want ≡ Names → IsPut (call_at x v) ⊎ (length x.node.names < v.pass.most)

-- a call that the run begins: its value has room in a buffer, and an expected tag is one
pub record IsCall (o : Opening) (call : Call) : Type 0 where
  pub expects : ExpectsTag call
  pub fits : size_of call ≤ room o.setup

-- The client of seat i stands in the pool in this phase: its node is that of this pool and number and of what it knows, with a call that the run begins; each entry was entered.
pub record Stands (o : Opening) (p : Plain) (i : ℕ) (x : ClientState) (f : Phase) : Type 0 where
  pub setup : p.setup ≡ o.setup
  pub opened : p.opened ≡ true
  pub entered : p.entries ≡ history p
  pub seat : suc i ≤ o.setup.clients
  pub seats : length p.views ≡ o.setup.clients + 1
  pub client : x.node.client ≡ suc i
  pub number : x.number ≡ length (own p.entries (suc i))
  pub pool : x.node.caller.pool ≡ o.setup.pool
  pub holds : NodeHolds x.node (call_at x (view_at p i)) (view_at p i) x.room
  pub phase : IsIn f x
  pub call : (call : Call) → x.call ≡ Some call → IsCall o call
  pub linked : HasLinked x.node.caller.under (view_at p i).pass.since

-- a client with a call may start it: its node is idle, and holds what it stands on
pub record StartsFrom (x : ClientState) : Type 0 where
  pub idle : IsIdle x.node
  pub call : Call
  pub is : x.call ≡ Some call
  pub expects : ExpectsTag call
  pub fits : size_of call ≤ room_of x.node
  pub view : View
  pub into : ValueBuf
  pub holds : NodeHolds x.node call view into

-- the client has started its call: its node has, or it wants stock for it
pub record Started (x y : ClientState) (call : Call) : Type 0 where
  pub kept : y ≡ record x { node = y.node; want = y.want }
  pub how : (NodeStarts x.node call y.node × (y.want ≡ Nothing)) ⊎ ((y.node ≡ x.node) × (y.want ≡ Stock) × Refuses x.node call NeedsStock)

-- a client of this number was asked for a task: the value is too long for a buffer of the pool, or it has started the call
abbrev pub Begun : ℕ → Setup → ClientState → ClientState → Call → ℕ → Note → Type 0
Begun c s x y call written note =
    ((room s < written) × (note ≡ Refused c (TooLong written (room s))) × (y ≡ x))
    ⊎ ((written ≤ room s) × (note ≡ Quiet) × Started (record x { call = Some call }) y call)

-- the client that has taken a batch and names in
abbrev pub granted_to : ClientState → List TagParts → List (ℕ × List ℕ) → ClientState
granted_to x batch names = record x { node = record x.node { stock = x.node.stock ++ batch; names = x.node.names ++ names } }

-- the actor's task is this call
abbrev pub IsTaskOf : Call → Doing → Type 0
IsTaskOf call d = (written : ℕ) × (d.task ≡ Some (ClientTask call written))

-- what the call wants where its client has so much
abbrev pub want_of : ClientState → Call → Doing → Want
want_of x call d = wants call (slot_for (key_of call) x.node.names) d.stock d.since

-- the client in this phase has under way what the records say
abbrev pub IsDoing : Phase → ClientState → View → Doing → Type 0
IsDoing Rests x v d = d.task ≡ None
IsDoing Wants x v d = IsTaskOf (call_at x v) d × (d.decided ≡ None) × (want_of x (call_at x v) d ≡ x.want)
IsDoing Calls x v d = IsTaskOf (call_at x v) d × (d.decided ≡ None) × (d.since ≡ since_of x.node v) × (want_of x (call_at x v) d ≡ Nothing)
IsDoing Ends x v d = IsTaskOf (call_at x v) d × (d.decided ≡ Some (reply_of (new_tag x.node.caller.under) (call_at x v))) × (d.since ≡ since_of x.node v) × (want_of x (call_at x v) d ≡ Nothing)

-- The client is as the records say: what it has under way, what it knows and has, and whether its next access is refused.
pub record Matches (x : ClientState) (v : View) (f : Phase) (d : Doing) : Type 0 where
  pub refusing : x.refusing ≡ d.refusing
  pub known : d.known ≡ length x.node.names
  pub stock : d.stock ≡ map tag_number x.node.stock
  pub doing : IsDoing f x v d

-- what a step finds is what this client has and this pool holds
pub record IsOf (i : ℕ) (x : ClientState) (p : Plain) (st : Standing) : Type 0 where
  pub actor : st.actor ≡ suc i
  pub names : st.names ≡ x.node.names
  pub entries : st.entries ≡ x.number
  pub words : st.words ≡ p.words

-- Where a call on a slot is under way, it stands where its acts since its last start have led it, by the definition of what a call does.
pub record GoesSoFar (p : Pool) (st : Standing) (x : ClientState) (call : Call) : Type 0 where
  pub slot : ℕ
  pub known : known_slot st call ≡ Some slot
  pub stands : Calling
  pub calling : IsCalling p st slot call st.does.since stands
  pub under : Mirrors x.node.caller.under x.room call (own_tag st) stands
  pub fits : length (own_words call) ≤ p.words + 1

-- A client's cursors are tags at which its answered calls ended, of keys that it knows: the one set last that of the latest call of all that ended at one, and each of the list that of the latest one on its key.
pub record Remembers (names : List (ℕ × List ℕ)) (k : Known) (h : List (List ℕ × ℕ)) : Type 0 where
  pub last : MatchOption k.last (h ≡ []) (λ q. (rest : List (List ℕ × ℕ)) × (h ≡ (key_at names q.0, tag_number q.1) ∷ rest) × Within (q.0, key_at names q.0) names)
  pub list : All (λ q. IsLatest (key_at names q.0) (tag_number q.1) h × Within (q.0, key_at names q.0) names) k.list

-- what some view knew to be durable one knows still
abbrev pub KeepsKnown : Plain → Plain → Type 0
KeepsKnown p q = (t : ℕ) → IsKnownDurable (p.views ++ p.absent) t → IsKnownDurable (q.views ++ q.absent) t

-- An event changed the pool so, by this access or none, and added this entry or none.
pub record Moved (x : Option Access) (e : Option Entry) (p q : Plain) : Type 0 where
  pub words : q.words ≡ words_by p.setup.pool p.words x
  pub seats : length q.views ≡ length p.views
  pub entries : q.entries ≡ p.entries ++ option_to_list e
  pub entered : q.entries ≡ history q
  pub accesses : q.accesses ≡ (if p.traced then p.accesses ++ option_to_list x else p.accesses)
  pub made : q.made ≡ made_by p.made x
  pub whole : q.whole ≡ p.whole
  pub setup : q.setup ≡ p.setup
  pub start : q.start ≡ p.start
  pub first : q.first ≡ p.first
  pub used : q.used ≡ p.used
  pub traced : q.traced ≡ p.traced
  pub opened : q.opened ≡ p.opened
  pub knows : KeepsKnown p q

-- every other view is as it was
abbrev pub KeepsOthers : ℕ → Plain → Plain → Type 0
KeepsOthers i p q = (j : ℕ) → j ≢ i → view_at q j ≡ view_at p j

-- a step of the actor of this standing, which left the server's side so
abbrev pub step_record : Standing → Option Access → Option Entry → Note → Served → Record
step_record st x e note v = record { event = Step st.actor; access = x; note = note; entry = e; served = v }

-- an answer sets the cursor of the call's slot to the tag at which it ended, if it ended at one, and nothing else sets a cursor
abbrev pub IsKeptOrSet : List ℕ → ℕ → Known → Known → Type 0
IsKeptOrSet [] s k n = n ≡ k
IsKeptOrSet (t ∷ ts) s k n = (tag : TagParts) × (t ≡ tag_number tag) × IsSet s tag k n

abbrev pub SetsCursor : ℕ → Act → Note → Known → Known → Type 0
SetsCursor s act (Answered c reply) k n = IsKeptOrSet (end_tags reply act) s k n
SetsCursor s act note k n = n ≡ k

-- By the definition of what a call does, this act is the step that is due of what is under way on a slot where that stands, and the note tells where it leaves that.
abbrev pub MakesDue : ClientState → ClientState → Act → Note → Type 0
MakesDue x y act note = (call : Call) (own : ℕ) (c : Calling) → Mirrors x.node.caller.under x.room call own c
    → (a : Due) × (k : ℕ) × (due call own c ≡ Some a) × (act ≡ act_of a k) × Mirrors y.node.caller.under y.room call own (after call own c k) × Tells call own (after call own c k) note

-- The client of seat i made the next access of its call, which came to this note: in any run that leads to where it stood this is a step of its own, and it stands where that leads.
pub record Went (o : Opening) (i : ℕ) (f : Phase) (x y : ClientState) (p q : Plain) (note : Note) : Type 0 where
  pub access : Access
  pub entry : Option Entry
  pub moved : Moved (Some access) entry p q
  pub others : KeepsOthers i p q
  pub last : access.refused ≡ false → IsLast access.act (view_at q i).pass.since
  pub after : Phase
  pub stands : Stands o q i y after
  pub lacks : LacksNames y (view_at q i)
  pub follows : (st : Standing) → IsOf i x p st → Matches x (view_at p i) f st.does
      → IsOwnAccess o.setup.pool st (step_record st (Some access) entry note st.served) access × Matches y (view_at q i) after (stepped st.does (step_record st (Some access) entry note st.served))
  -- it was refused where that was asked for, or came back with what the words give
  pub fits : (st : Standing) → IsOf i x p st → Matches x (view_at p i) f st.does → IsAccess o.setup.pool st access
  -- a call that goes on has made one access more
  pub longer : (IsIdle y.node → ⊥) → length (since_of y.node (view_at q i)) ≡ suc (length (since_of x.node (view_at p i)))
  -- it has what it had, but for a buffer that it committed
  pub names : y.node.names ≡ x.node.names
  pub cursor : SetsCursor (slot_of x.node.caller.under) access.act note x.node.caller.cursors y.node.caller.cursors
  pub calls : x.node.caller.under ≢ NoCall → access.refused ≡ false → MakesDue x y access.act note
  -- a call whose key the client does not know loads the count, and is over or wants names
  pub counts : x.node.caller.under ≡ NoCall → access.refused ≡ false → (st : Standing) → IsOf i x p st → Matches x (view_at p i) f st.does → IsCounting st (call_at x (view_at p i)) access.act note
  -- where its call is to end in so many accesses made alone, this one was one of them
  pub alone : (n : ℕ) → x.node.caller.under ≢ NoCall → access.refused ≡ false → EndsIn o.setup.pool p.words n x.node.caller.under x.room → Advances (suc i) o.setup.pool n q.words y.node.caller.under y.room note

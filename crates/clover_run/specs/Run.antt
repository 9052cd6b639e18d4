-- What a run is: a list of records of which each follows those before it.
use Prim.Native.Nat.{suc}
use Rattle.std.specs.Prelude.{◌≡◌, ℕ, ◌<◌, ◌==◌, ltb, List, [], ◌∷◌, ◌++◌, length, true, false, if◌then◌else◌, Option, Some, None, IfSome, IsSome}
use Rattle.clover_words.specs.declared.pool.Pool.{Pool}
use Rattle.clover_words.specs.declared.setup.Setup.{Setup}
use Rattle.clover_words.specs.declared.word.Word.TheVariants.{Short, Count}
use Rattle.clover_words.specs.declared.word.Side.TheVariants.{Current}
use Rattle.clover_words.specs.Next.{root_code}
use Rattle.clover_words.specs.Tag.{TagParts}
use Rattle.clover_map.specs.History.{own, key_of, is_commit}
use Rattle.clover_map.specs.Tagged.{Tagged}
use Rattle.clover_map.specs.declared.call.Call.{Call}
use Rattle.clover_map.specs.declared.call.Call.TheVariants.{Put}
use Rattle.clover_map.specs.declared.call.Entry.{Entry}
use Rattle.clover_map.specs.declared.call.Reply.{Reply}
use Rattle.clover_map.specs.declared.call.Reply.TheVariants.{Stored, Deleted, Absent}
use Rattle.clover_script.specs.declared.line.Task.{Task}
use Rattle.clover_script.specs.declared.line.Task.TheVariants.{Client as ClientTask, Recycle, Sweep}
use Rattle.clover_dir.specs.Directory.{root_of}
use Rattle.clover_rule.specs.Accesses.{CameBack, Decides}
use Rattle.clover_rule.specs.Lists.{Within}
use Rattle.clover_rule.specs.declared.access.Access.{Access}
use Rattle.clover_rule.specs.declared.access.Act.{Act}
use Rattle.clover_rule.specs.declared.access.Act.TheVariants.{Load, Store}
use Rattle.clover_rule.specs.declared.access.Actor.TheVariants.{Client}
use Rattle.clover_walk.specs.Walking.{Ended, budget, most_accesses}
use Rattle.clover_call.specs.Calling.{Calling, begun_call, due, LeadsTo}
use Rattle.clover_event.specs.declared.event.CallRefusal.TheVariants.{Behind, TooLong}
use Rattle.clover_event.specs.declared.event.Event.{Event}
use Rattle.clover_event.specs.declared.event.Event.TheVariants.{Begin, Step, Refuse}
use Rattle.clover_run.specs.declared.event.Note.{Note}
use Rattle.clover_run.specs.declared.event.Note.TheVariants.{Quiet, Answered, Refused, Unbound, Busy, Missing}
use Rattle.clover_event.specs.Ends.{MayBegin}
use Rattle.clover_event.specs.Run.{room, IsBlank, Flushes, Shortens, Wrote, lost}
use Rattle.clover_run.specs.Ends.{ended}
use Rattle.clover_run.specs.Folds.{Doing, entries_in, words_after, served_after, doing, names_of}
use Rattle.clover_run.specs.Record.{Record}
use Rattle.clover_run.specs.declared.served.Served.{Served}
use Rattle.clover_run.specs.Serving.{IsServed}
use Rattle.clover_run.specs.Cleaning.{IsCleaned}
use Rattle.clover_run.specs.declared.recycler.Chore.TheVariants.{OfSlot, OfAll}
use Rattle.clover_run.specs.Wanting.{slot_for, wants}
use Rattle.clover_run.specs.declared.want.Want.{Want}
use Rattle.clover_run.specs.declared.want.Want.TheVariants.{Nothing}

-- Where a run begins, and all that was before it: the setup, the words of its pool, the server's side, the map and the used tags, its number among the runs, and the accesses before it, how many were made and which ones a trace lists.
pub record Opening : Type 0 where
  pub setup : Setup
  pub words : List ℕ
  pub served : Served
  pub first : Tagged
  pub used : List ℕ
  pub run : ℕ
  pub made : ℕ
  pub listed : List Access

-- what a step finds: the actor, what it has under way, the names that it knows, the tags at which its answered calls ended, how many entries there are of it, the words and the server's side
pub record Standing : Type 0 where
  pub actor : ℕ
  pub does : Doing
  pub names : List (ℕ × List ℕ)
  pub ended : List (List ℕ × ℕ)
  pub entries : ℕ
  pub words : List ℕ
  pub served : Served

abbrev pub standing : Opening → ℕ → List Record → Standing
standing o a rs = record {
  actor = a;
  does = doing a rs;
  names = names_of (served_after o.served rs) (doing a rs);
  ended = ended a rs;
  entries = length (own (entries_in rs) a);
  words = words_after o.setup.pool o.words rs;
  served = served_after o.served rs;
}

-- the slot of a call's key, where its client knows one, and what the call wants
abbrev pub known_slot : Standing → Call → Option ℕ
known_slot st call = slot_for (key_of call) st.names

abbrev pub want_in : Standing → Call → Want
want_in st call = wants call (known_slot st call) st.does.stock st.does.since

-- an actor that has a task is busy
abbrev pub unless_busy : Option Task → ℕ → Note → Note
unless_busy None a note = note
unless_busy (Some t) a note = Busy a

-- the root version of a slot is there, or the slot is not bound
abbrev pub if_bound : Option TagParts → Note
if_bound None = Unbound
if_bound (Some root) = Quiet

-- what an actor's begin comes to
abbrev pub begin_note : Setup → Served → Doing → ℕ → Task → Note
begin_note s v d a (ClientTask c written) = if ltb s.clients a then Missing a else unless_busy d.task a (if ltb (room s) written then Refused a (TooLong written (room s)) else Quiet)
begin_note s v d a (Recycle slot) = unless_busy d.task a (if_bound (root_of v.server.directory slot))
begin_note s v d a Sweep = unless_busy d.task a Quiet

-- the server's side behind a begin: the recycler's task begins with nothing read and nothing done
abbrev pub cleared : Served → Note → Served
cleared v Quiet = record v { read = 0; done = 0 }
cleared v note = v

abbrev pub begin_served : Task → Note → Served → Served
begin_served (ClientTask c written) note v = v
begin_served task note v = cleared v note

-- no access, no entry and this note, and the server's side is this
pub record Still (v : Served) (r : Record) (note : Note) : Type 0 where
  pub access : r.access ≡ None
  pub entry : r.entry ≡ None
  pub note_is : r.note ≡ note
  pub served : r.served ≡ v

-- an access in an event of an actor, its own or the server's: it is refused exactly where that was asked for; one that was made came back with what the words give
pub record IsAccess (p : Pool) (st : Standing) (x : Access) : Type 0 where
  pub refused : x.refused ≡ st.does.refusing
  pub blank : x.refused ≡ true → IsBlank x.act
  pub replays : x.refused ≡ false → CameBack p st.words x.act

-- The entry stands at the access that decides it: it is of the call under way, which had none, of this client with its next number, and the call's acts decide its reply.
pub record IsEntry (p : Pool) (st : Standing) (r : Record) (e : Entry) : Type 0 where
  pub access : Access
  pub last : r.access ≡ Some access
  pub made : access.refused ≡ false
  pub written : ℕ
  pub task : st.does.task ≡ Some (ClientTask e.call written)
  pub first : st.does.decided ≡ None
  pub client : e.client ≡ st.actor
  pub number : e.number ≡ suc st.entries
  pub decided : Decides p st.words st.names (st.does.since ++ access.act ∷ []) e.call e.reply

-- the call under way stores the tag that it committed in the shortcut of its key's slot, right behind the raise of its link
pub record EndsCommit (st : Standing) (act : Act) (t : ℕ) : Type 0 where
  pub call : Call
  pub written : ℕ
  pub task : st.does.task ≡ Some (ClientTask call written)
  pub slot : ℕ
  pub named : Within (slot, key_of call) st.names
  pub stores : act ≡ Store (Short slot) Current (root_code (Some t))
  pub flushed : Flushes t st.does.since

-- a commit's answer comes at the store of its shortcut; any other answer at the access that decides it
abbrev pub IsAnswer : Standing → Option Entry → Act → Reply → Type 0
IsAnswer st None act (Stored t) = (st.does.decided ≡ Some (Stored t)) × EndsCommit st act t
IsAnswer st None act (Deleted t) = (st.does.decided ≡ Some (Deleted t)) × EndsCommit st act t
IsAnswer st None act r = ⊥
IsAnswer st (Some e) act r = (is_commit r ≡ false) × (e.reply ≡ r)

-- the cause of a note of a step whose access was made; each store of a shortcut answers
abbrev pub IsCause : Pool → Standing → Option Entry → Act → Note → Type 0
IsCause p st e act Quiet = IfSome e (λ (x : Entry). is_commit x.reply ≡ true) × (Shortens act → ⊥)
IsCause p st e act (Answered c r) = (c ≡ st.actor) × IsAnswer st e act r
IsCause p st e act (Refused c (Behind n)) = (c ≡ st.actor) × (n ≡ budget p) × (e ≡ None) × (st.does.decided ≡ None) × (Shortens act → ⊥)
IsCause p st e act note = ⊥

-- a commit takes the first buffer of the stock
abbrev pub TakesFirst : Standing → Entry → Type 0
TakesFirst st e = (t : ℕ) → (e.reply ≡ Stored t → (rest : List ℕ) × (st.does.stock ≡ t ∷ rest)) × (e.reply ≡ Deleted t → (rest : List ℕ) × (st.does.stock ≡ t ∷ rest))

-- the first tag of a stock; 0 where there is none
abbrev pub first_of : List ℕ → ℕ
first_of [] = 0
first_of (t ∷ ts) = t

-- the tag that the call under way may commit: the one that it has committed, or the first of the stock
abbrev pub own_tag : Standing → ℕ
own_tag st = of st.does.decided
  where
    of : Option Reply → ℕ
    of (Some (Stored t)) = t
    of (Some (Deleted t)) = t
    of o = first_of st.does.stock

-- the call under way, on a key that has a slot, stands there behind these acts since its last start
pub record IsCalling (p : Pool) (st : Standing) (slot : ℕ) (call : Call) (acts : List Act) (n : Calling) : Type 0 where
  pub cursor : Option ℕ
  pub may : MayBegin st.ended (key_of call) cursor
  pub leads : LeadsTo call (own_tag st) (begun_call p slot cursor (own_tag st) call) acts n

-- what a note tells of where its access left the call: it has a step to make, it is over, or its turns have reached the budget
abbrev pub Tells : Call → ℕ → Calling → Note → Type 0
Tells call own n Quiet = IsSome (due call own n)
Tells call own n (Answered a r) = (n.steps ≡ []) × (n.over ≡ true)
Tells call own n (Refused a y) = (n.steps ≡ []) × (n.over ≡ false) × (n.walk.stand ≡ Ended)
Tells call own n note = ⊥

-- An access that was made is the one that was due of the call under way, the note tells where it left the call, and the call has made no more accesses than its turns allow.
pub record IsDue (p : Pool) (st : Standing) (slot : ℕ) (call : Call) (act : Act) (note : Note) : Type 0 where
  pub stands : Calling
  pub calling : IsCalling p st slot call (st.does.since ++ act ∷ []) stands
  pub tells : Tells call (own_tag st) stands note
  pub few : length st.does.since < most_accesses p stands.walk.turns

-- what the count tells a call whose key its client does not know: it is absent where there is no binding more, unless the call is a put; else the call wants bindings
abbrev pub counted : Call → ℕ → ℕ → ℕ → Note
counted (Put key value) a known count = Quiet
counted call a known count = if known == count then Answered a Absent else Quiet

-- the one access of a call whose key its client does not know
abbrev pub IsCounting : Standing → Call → Act → Note → Type 0
IsCounting st call act note = (count : ℕ) × (act ≡ Load Count count) × (note ≡ counted call st.actor st.does.known count)

-- the access that is due of a call on this slot, or on none that its client knows
abbrev pub IsDueOn : Pool → Standing → Option ℕ → Call → Act → Note → Type 0
IsDueOn p st None call act note = IsCounting st call act note
IsDueOn p st (Some slot) call act note = IsDue p st slot call act note

-- The record is an access of the actor's own: where it was made, the note has its cause; where it was refused, the call ends with what it had done. An exchange that writes enters the call.
pub record IsOwnAccess (p : Pool) (st : Standing) (r : Record) (access : Access) : Type 0 where
  pub is : r.access ≡ Some access
  pub actor : access.actor ≡ Client st.actor
  pub served : r.served ≡ st.served
  pub entry : IfSome r.entry (IsEntry p st r)
  pub takes : IfSome r.entry (TakesFirst st)
  pub commits : access.refused ≡ false → Wrote access.act → IsSome r.entry
  pub unreached : access.refused ≡ true → (r.note ≡ Refused st.actor (lost st.does.decided)) × (r.entry ≡ None)
  pub cause : access.refused ≡ false → IsCause p st r.entry access.act r.note

-- A step of a call that wants nothing of the server is its own next access; one that was made is the one that is due.
pub record IsOwn (p : Pool) (st : Standing) (call : Call) (r : Record) : Type 0 where
  pub access : Access
  pub own : IsOwnAccess p st r access
  pub due : access.refused ≡ false → IsDueOn p st (known_slot st call) call access.act r.note

-- the step of an actor whose call wants this
abbrev pub IsStepFor : Pool → Standing → Call → Want → Record → Type 0
IsStepFor p st call Nothing r = IsOwn p st call r
IsStepFor p st call want r = IsServed st.actor st.does want call st.served r

-- the step of an actor with this task, or without one
abbrev pub IsStepOf : Pool → Standing → Option Task → Record → Type 0
IsStepOf p st None r = Still st.served r Quiet
IsStepOf p st (Some (ClientTask call written)) r = IsStepFor p st call (want_in st call) r
IsStepOf p st (Some (Recycle slot)) r = IsCleaned (OfSlot slot) st.served r
IsStepOf p st (Some Sweep) r = IsCleaned OfAll st.served r

-- a step of an actor, with its access as it must be
pub record IsStep (p : Pool) (st : Standing) (r : Record) : Type 0 where
  pub accesses : IfSome r.access (IsAccess p st)
  pub is : IsStepOf p st st.does.task r

-- the record fits behind those before it
abbrev pub Fits : Opening → List Record → Record → Event → Type 0
Fits o before r (Begin a t) = Still (begin_served t r.note (served_after o.served before)) r (begin_note o.setup (served_after o.served before) (doing a before) a t)
Fits o before r (Step a) = IsStep o.setup.pool (standing o a before) r
Fits o before r (Refuse a) = Still (served_after o.served before) r Quiet

abbrev pub Follows : Opening → List Record → Record → Type 0
Follows o before r = Fits o before r r.event

abbrev pub GoesOn : Opening → List Record → List Record → Type 0
GoesOn o before [] = Unit {0}
GoesOn o before (r ∷ rs) = Follows o before r × GoesOn o (before ++ r ∷ []) rs

abbrev pub IsRun : Opening → List Record → Type 0
IsRun o rs = GoesOn o [] rs

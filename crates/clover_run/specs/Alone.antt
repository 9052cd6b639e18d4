-- A call that runs alone: from its last start on nobody else has an event between its steps, it wants nothing of the server, and none of its accesses is refused.
use Prim.Native.Nat.{zero, suc}
use Rattle.std.specs.Prelude.{◌≡◌, ℕ, ◌<◌, ◌≤◌, List, [], ◌∷◌, ◌++◌, length, false, Option, Some, None}
use Rattle.clover_map.specs.History.{key_of}
use Rattle.clover_map.specs.declared.bytes.Value.{Value}
use Rattle.clover_map.specs.declared.call.Call.{Call}
use Rattle.clover_words.specs.declared.bytes.ValueBuf.{ValueBuf}
use Rattle.clover_words.specs.Place.{copy_in}
use Rattle.clover_words.specs.declared.pool.Pool.{Pool}
use Rattle.clover_words.specs.declared.word.Side.TheVariants.{Current}
use Rattle.clover_words.specs.declared.word.Word.TheVariants.{Count}
use Rattle.clover_script.specs.declared.line.Task.TheVariants.{Client as ClientTask}
use Rattle.clover_rule.specs.Lists.{Each, nth, Within}
use Rattle.clover_rule.specs.Words.{mem_of}
use Rattle.clover_rule.specs.declared.access.Access.{Access}
use Rattle.clover_rule.specs.declared.access.Actor.TheVariants.{Client}
use Rattle.clover_walk.specs.Alone.{Way, way_from, LeadsOver, HasVersion}
use Rattle.clover_call.specs.declared.under.Underway.{Underway}
use Rattle.clover_event.specs.declared.event.Event.{Event}
use Rattle.clover_event.specs.declared.event.Event.TheVariants.{Begin, Step}
use Rattle.clover_run.specs.declared.event.Note.{Note}
use Rattle.clover_run.specs.declared.event.Note.TheVariants.{Quiet, Answered, Granted}
use Rattle.clover_event.specs.Alone.{EndsIn, HasChain, cost}
use Rattle.clover_event.specs.Ends.{MayBegin}
use Rattle.clover_run.specs.Folds.{words_after, served_after}
use Rattle.clover_run.specs.Record.{Record}
use Rattle.clover_run.specs.Run.{Opening, Standing, IsCounting, standing, known_slot, want_in}
use Rattle.clover_run.specs.declared.want.Want.TheVariants.{Nothing}

-- the record starts the call that the client has under way: its begin, or a grant behind which it starts anew
abbrev pub Starts : ℕ → Event → Note → Type 0
Starts c (Begin a t) Quiet = a ≡ c
Starts c (Step a) (Granted b names) = a ≡ c
Starts c event note = ⊥

-- the record is a step of the client whose own access was made
pub record IsOwnStep (c : ℕ) (r : Record) : Type 0 where
  pub event : r.event ≡ Step c
  pub access : Access
  pub is : r.access ≡ Some access
  pub actor : access.actor ≡ Client c
  pub made : access.refused ≡ false

-- somewhere in the records a client's call is started, wants nothing, and from there on the client makes these steps alone
pub record RunsAlone (o : Opening) (rs : List Record) : Type 0 where
  pub before : List Record
  pub steps : List Record
  pub after : List Record
  pub whole : rs ≡ before ++ (steps ++ after)
  pub client : ℕ
  pub started : (front : List Record) × (start : Record) × (before ≡ front ++ start ∷ []) × Starts client start.event start.note
  pub call : Call
  pub written : ℕ
  pub task : (standing o client before).does.task ≡ Some (ClientTask call written)
  pub free : want_in (standing o client before) call ≡ Nothing
  pub own : Each (IsOwnStep client) steps

-- what a call on a slot finds where it starts: the cursor that its client has for it or none, the tags behind the one at which its walk goes on, the tail and the tail's version
pub record Finds (p : Pool) (st : Standing) (slot : ℕ) (call : Call) : Type 0 where
  pub cursor : Option ℕ
  pub may : MayBegin st.ended (key_of call) cursor
  pub way : Way
  pub is : way ≡ way_from (mem_of p st.words) slot cursor
  pub tags : List ℕ
  pub tail : ℕ
  pub leads : LeadsOver p st.words way.from tags tail
  pub version : Option Value
  pub has : HasVersion p st.words tail version

-- between any two records, before the first and behind the last, each slot that is bound there has such a chain
abbrev pub AllFound : Opening → List Record → Type 0
AllFound o rs = (before after : List Record) (slot : ℕ) (key : List ℕ) → rs ≡ before ++ after → Within (slot, key) (served_after o.served before).server.directory.list → HasChain o.setup.pool (words_after o.setup.pool o.words before) slot

-- and the count there is the number of the bindings
abbrev pub AllCounted : Opening → List Record → Type 0
AllCounted o rs = (before after : List Record) → rs ≡ before ++ after → copy_in o.setup.pool (words_after o.setup.pool o.words before) Count Current ≡ length (served_after o.served before).server.directory.list

-- what a call costs that finds this
abbrev pub cost_of : (p : Pool) (st : Standing) (slot : ℕ) (call : Call) → Finds p st slot call → ℕ
cost_of p st slot call f = cost call f.way.loads (length f.tags) f.tail f.version

-- an answer to this client
abbrev pub IsAnswered : ℕ → Note → Type 0
IsAnswered c (Answered d r) = d ≡ c
IsAnswered c note = ⊥

-- the note of an access behind which a call has so many more to make
abbrev pub NotesWith : ℕ → ℕ → Note → Type 0
NotesWith c zero note = IsAnswered c note
NotesWith c (suc n) note = note ≡ Quiet

-- an access of what is to end in n accesses: it ends in one less, in these words, and the note says whether that is none
pub record Advances (c : ℕ) (p : Pool) (n : ℕ) (ws : List ℕ) (u : Underway) (room : ValueBuf) (note : Note) : Type 0 where
  pub left : ℕ
  pub one : n ≡ suc left
  pub ends : EndsIn p ws left u room
  pub notes : NotesWith c left note

-- there are no more steps than that, the last of so many answers the call, and each before it is quiet
pub record IsAnsweredAt (c n : ℕ) (steps : List Record) : Type 0 where
  pub few : length steps ≤ n
  pub quiet : (k : ℕ) (r : Record) → nth steps k ≡ Some r → suc k < n → r.note ≡ Quiet
  pub answered : (k : ℕ) (r : Record) → nth steps k ≡ Some r → suc k ≡ n → IsAnswered c r.note

-- the record's access is the load of the count that is due of a call whose key its client does not know, and its note is what that tells
abbrev pub IsCount : Standing → Call → Record → Type 0
IsCount st call r = (x : Access) × (r.access ≡ Some x) × IsCounting st call x.act r.note

-- there is no more than one step, and that is such a load: by it the call is absent, or, where that is quiet, it wants bindings
pub record CountsAlone (st : Standing) (call : Call) (steps : List Record) : Type 0 where
  pub few : length steps ≤ 1
  pub counts : Each (IsCount st call) steps

-- a call on a slot that runs alone finds its way to a tail where it starts, makes at most as many accesses as it then costs, and is answered by the last of them; one whose key its client does not know loads the count, and nothing else
abbrev pub EndsAlone : Pool → Standing → Option ℕ → Call → ℕ → List Record → Type 0
EndsAlone p st None call c steps = CountsAlone st call steps
EndsAlone p st (Some slot) call c steps = (f : Finds p st slot call) × IsAnsweredAt c (cost_of p st slot call f) steps

abbrev pub AllAlone : Opening → List Record → Type 0
AllAlone o rs = (x : RunsAlone o rs) → EndsAlone o.setup.pool (standing o x.client x.before) (known_slot (standing o x.client x.before) x.call) x.call x.client x.steps

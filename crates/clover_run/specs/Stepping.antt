-- One step of a client's own: what the access of its node told, what the run makes of the turn, and the entry that it enters.
use Prim.Native.Nat.{suc}
use Rattle.std.specs.Prelude.{◌≡◌, ℕ, [], ◌∷◌, ◌++◌, false, true, Option, Some, None}
use Rattle.clover_words.specs.declared.bytes.ValueBuf.{ValueBuf}
use Rattle.clover_words.specs.Tag.{tag_number}
use Rattle.clover_map.specs.declared.bytes.Value.{Value}
use Rattle.clover_map.specs.declared.call.Call.{Call}
use Rattle.clover_map.specs.declared.call.Reply.{Reply}
use Rattle.clover_rule.specs.Steps.{Step, act_of}
use Rattle.clover_port.specs.Told.{Made}
use Rattle.clover_plain.specs.Plain.{Plain, KeptButEntries, Refused as RefusedAt, Same, Stepped, open_of, view_at}
use Rattle.clover_get.specs.Getting.{value_in}
use Rattle.clover_call.specs.Caller.{copied_flags}
use Rattle.clover_call.specs.Turning.{reply_in}
use Rattle.clover_call.specs.declared.answer.Answer.{Answer}
use Rattle.clover_node.specs.Going.{NodeMade, NodeWent}
use Rattle.clover_node.specs.Node.{NodeHolds}
use Rattle.clover_node.specs.Turning.{OnMade, OnRefused}
use Rattle.clover_node.specs.declared.answer.NodeRefusal.{NodeRefusal}
use Rattle.clover_node.specs.declared.answer.NodeRefusal.TheVariants as node
use Rattle.clover_node.specs.declared.answer.NodeTurn.{NodeTurn}
use Rattle.clover_node.specs.declared.answer.NodeTurn.TheVariants.{More, Decided, Done, Refused}
use Rattle.clover_event.specs.Stepping.{IsValueOf, next_entry}
use Rattle.clover_event.specs.declared.event.CallRefusal.TheVariants.{Unreached, Linked, Behind, TooLong}
use Rattle.clover_run.specs.Client.{call_at}
use Rattle.clover_run.specs.declared.client.ClientState.{ClientState}
use Rattle.clover_run.specs.declared.client.came.Came.{Came}
use Rattle.clover_run.specs.declared.client.came.Came.TheVariants as came
use Rattle.clover_run.specs.declared.want.Want.TheVariants.{Stock, Names}

-- the value in the room, where the next access may find it
abbrev pub IsFound : ClientState → Option Value → Type 0
IsFound x o = (f : ℕ) → copied_flags x.node.caller.under ≡ Some f → o ≡ Some (value_in f x.room)

-- where a value was found this is it
abbrev pub IsValue : NodeTurn → Option Value → ValueBuf → Type 0
IsValue (Decided a) o room = IsValueOf a o room
IsValue (Done a) o room = IsValueOf a o room
IsValue r o room = Unit {0}

-- why a call has no answer, with the number of its tag, or what it needs
abbrev pub refused_as : NodeRefusal → Came
refused_as node.Unreached = came.Refused Unreached
refused_as (node.Behind turns) = came.Refused (Behind turns)
refused_as (node.Linked t) = came.Refused (Linked (tag_number t))
refused_as (node.TooLong length room) = came.Refused (TooLong length room)
refused_as node.NeedsStock = came.Wants Stock
refused_as (node.NeedsNames known bound) = came.Wants Names

-- the turn comes to this
abbrev pub IsCame : NodeTurn → ValueBuf → Came → Type 0
IsCame r room came.More = r ≡ More
IsCame r room (came.Decided reply) = (a : Answer) × (r ≡ Decided a) × (reply ≡ reply_in a room)
IsCame r room (came.Done reply again) = (a : Answer) × (r ≡ Done a) × (reply ≡ reply_in a room) × (again ≡ reply_in a room)
IsCame r room (came.Wants w) = (z : NodeRefusal) × (r ≡ Refused z) × (refused_as z ≡ came.Wants w)
IsCame r room (came.Refused y) = (z : NodeRefusal) × (r ≡ Refused z) × (refused_as z ≡ came.Refused y)

-- The node of the client of seat i made the next access of its call, or had it refused where that was asked for, and left the client as y.
pub record Accesses (i : ℕ) (x y : ClientState) (p q : Plain) (r : NodeTurn) : Type 0 where
  pub made : NodeMade (λ (s : Step) b n. Stepped s b true i n p q × Made p.setup.pool s b (view_at p i) (Some (open_of p)) n (view_at q i) (Some (open_of q))) x.node (call_at x (view_at p i)) (view_at p i) x.room y.node (view_at q i) y.room r
  pub went : NodeWent x.node (call_at x (view_at p i)) y.room (view_at p i) (Some (open_of p)) y.node (view_at q i) (Some (open_of q)) r
  pub refused : OnRefused r (((a : Step) × RefusedAt (act_of a 0) i p q) × (y.room ≡ x.room))
  pub asked : OnMade r (x.refusing ≡ false)
  pub forced : OnRefused r (x.refusing ≡ true)
  pub same : Same p q
  pub holds : NodeHolds y.node (call_at x (view_at p i)) (view_at q i) y.room
  pub rest : y ≡ record x { node = y.node; room = y.room; refusing = false }

-- the call was entered with this reply, where it had not been
abbrev pub Enters : Option Call → ClientState → ℕ → Reply → ClientState → Plain → Plain → Type 0
Enters None x c reply y p q = (y ≡ record x { call = None }) × (q ≡ p)
Enters (Some call) x c reply y p q = (y ≡ record x { call = None; number = suc x.number }) × (q.entries ≡ p.entries ++ next_entry c x.number call reply ∷ []) × KeptButEntries p q

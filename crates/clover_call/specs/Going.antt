-- One step of a caller: how its call goes on, and what the turn says of the call, the cursors, the room and what the client knows.
use Rattle.std.specs.Prelude.{◌≡◌, ◌⊎◌, ℕ, ◌<◌, ◌≤◌, ◌==◌, List, [], ◌∷◌, ◌++◌, length, false, Option, Some}
use Rattle.clover_words.specs.declared.bytes.ValueBuf.{ValueBuf}
use Rattle.clover_words.specs.declared.pool.Pool.{Pool}
use Rattle.clover_words.specs.declared.word.Word.TheVariants.{Next as NextOf}
use Rattle.clover_words.specs.Tag.{TagParts, tag_number, home}
use Rattle.clover_words.specs.Version.{buffer_at, unlinked}
use Rattle.clover_map.specs.declared.call.Call.{Call}
use Rattle.clover_rule.specs.Content.{InRange}
use Rattle.clover_rule.specs.Lists.{Within}
use Rattle.clover_rule.specs.Steps.{Step, ReadShort, ReadRoot, LoadNext, RaiseNext, LoadContent, StoreContent, FlushContent, DecideNext, LinkNext, StoreShort, act_of, reply_of}
use Rattle.clover_rule.specs.declared.access.Act.{Act}
use Rattle.clover_rule.specs.declared.access.Act.TheVariants.{Load}
use Rattle.clover_rule.specs.declared.view.View.{View}
use Rattle.clover_port.specs.Told.{Open}
use Rattle.clover_cache.specs.Node.{Known, IsSet}
use Rattle.clover_walk.specs.Ending.{Ended, Commits}
use Rattle.clover_walk.specs.Walking.{budget, most_accesses}
use Rattle.clover_get.specs.Getting.{Getting, FillsFrom, Over as GetOver, GoesOn as GetGoesOn}
use Rattle.clover_put.specs.Putting.{Stage, AtLink, Over as PutOver, put_on}
use Rattle.clover_call.specs.declared.answer.Answer.{Answer}
use Rattle.clover_call.specs.declared.answer.CallerRefusal.TheVariants.{Unreached, Behind, Linked, TooLong}
use Rattle.clover_call.specs.declared.answer.CallerTurn.{CallerTurn}
use Rattle.clover_call.specs.declared.answer.CallerTurn.TheVariants.{More, Decided, Done, Refused}
use Rattle.clover_call.specs.declared.under.Underway.{Underway}
use Rattle.clover_call.specs.declared.under.Underway.TheVariants.{Nothing, Get, Write}
use Rattle.clover_call.specs.Calling.{Calling, due, after}
use Rattle.clover_call.specs.Mirroring.{Mirrors}
use Rattle.clover_call.specs.Caller.{slot_of, new_tag, call_under, copied_flags, is_first, HasCommitted, IsUncommitted, CallHolds}
use Rattle.clover_call.specs.Turning.{reply_in, CommitsNothing, IsTagOf, IsFlagged, OnMade, OnGoing, OnOver, OnNothing, OnAhead, IfDecided, IfDone, UnlessDone, IfBehind, left_by, Tells}

-- at the commit the call was to link its version, and its exchange found the tail unlinked
abbrev pub Links : CallerTurn → Stage → ℕ → Type 0
Links (Decided a) s n = (t : ℕ) × (s ≡ AtLink t) × (n ≡ unlinked t)
Links r s n = Unit {0}

-- what was under way, x, goes on to y where its access found this number, and fills the room by it
abbrev pub GoesOn : Underway → ValueBuf → ℕ → CallerTurn → Underway → ValueBuf → Type 0
GoesOn Nothing room n r y room1 = ⊥
GoesOn (Get g) room n r y room1 = (g1 : Getting) × GetGoesOn g room1.length n g1 × FillsFrom g.stage n room room1 × (y ≡ left_by r (Get g1)) × OnOver r (g1.stage ≡ GetOver)
GoesOn (Write c) room n r y room1 = (y ≡ left_by r (Write (put_on c n))) × (room1 ≡ room) × OnOver r ((put_on c n).stage ≡ PutOver) × Links r c.stage n

-- By the definition of what a call does: the step of this access is the one that is due of the call where it was, what it found leads the call to where it is, and the turn tells where that is.
pub record IsDueAt (x : Underway) (step : Step) (n : ℕ) (y : Underway) (room1 : ValueBuf) (r : CallerTurn) (call : Call) (own : ℕ) (c : Calling) : Type 0 where
  pub step_due : Step
  pub due : due call own c ≡ Some step_due
  pub acts : (k : ℕ) → act_of step k ≡ act_of step_due k
  pub leads : Mirrors y room1 call own (after call own c n)
  pub tells : Tells call own c (after call own c n) r

abbrev pub IsDue : Underway → ValueBuf → Step → ℕ → Underway → ValueBuf → CallerTurn → Type 0
IsDue x room step n y room1 r = (call : Call) (own : ℕ) (c : Calling) → Mirrors x room call own c → IsDueAt x step n y room1 r call own c

-- a step of a call that commits and ends nothing: of a walk, of content, or a last load or exchange that found another number than the tail's
abbrev pub IsQuiet : Step → ℕ → Type 0
IsQuiet (ReadShort s) n = Unit {0}
IsQuiet (ReadRoot s) n = Unit {0}
IsQuiet (LoadNext s t) n = Unit {0}
IsQuiet (RaiseNext l) n = Unit {0}
IsQuiet (LoadContent s t j) n = Unit {0}
IsQuiet (StoreContent t j w) n = Unit {0}
IsQuiet (FlushContent t j w) n = Unit {0}
IsQuiet (DecideNext s t c r) n = (n == unlinked t) ≡ false
IsQuiet (LinkNext s t u c) n = (n == unlinked t) ≡ false
IsQuiet a n = ⊥

-- what is under way is the same call, and has made an access
pub record IsSameCall (x : Underway) (v : View) (y : Underway) (w : View) : Type 0 where
  pub call : call_under y w ≡ call_under x v
  pub tag : new_tag y ≡ new_tag x
  pub later : is_first y ≡ false

-- the new tag leaves the client's stock at the commit, and nothing else does
abbrev pub Takes : CallerTurn → ℕ → View → View → Type 0
Takes (Decided a) t v w = v.pass.stock ≡ t ∷ w.pass.stock
Takes r t v w = w.pass.stock ≡ v.pass.stock

-- What an access leaves of the call x, and what its step was: where the call goes on it is the same; the step commits and ends nothing but at an answer; and a call that has committed is answered at the store of its slot's shortcut.
pub record Stays (x : Underway) (v : View) (step : Step) (n : ℕ) (y : Underway) (w : View) (r : CallerTurn) : Type 0 where
  pub same : OnGoing r (IsSameCall x v y w)
  pub quiet : OnNothing r (IsQuiet step n)
  pub stock : Takes r (new_tag x) v w
  pub shortens : IfDone r (λ a. HasCommitted x → step ≡ StoreShort (slot_of x) (new_tag x))

-- the turn says whether the call had committed and has
abbrev pub Turns : CallerTurn → Underway → Underway → Type 0
Turns More x y = (IsUncommitted x × IsUncommitted y) ⊎ (HasCommitted x × HasCommitted y)
Turns (Decided a) x y = IsUncommitted x × HasCommitted y
Turns (Done a) x y = (IsUncommitted x ⊎ HasCommitted x) × (y ≡ Nothing)
Turns (Refused Unreached) x y = IsUncommitted x × (y ≡ Nothing)
Turns (Refused (Behind turns)) x y = IsUncommitted x × (y ≡ Nothing)
Turns (Refused (Linked t)) x y = HasCommitted x × (tag_number t ≡ new_tag x) × (y ≡ Nothing)
Turns (Refused (TooLong length room)) x y = ⊥

-- the last of these acts was a load that showed the tag unlinked
abbrev pub ShowsLast : ℕ → List Act → Type 0
ShowsLast t acts = (before : List Act) × (acts ≡ before ++ Load (NextOf (buffer_at (home t))) (unlinked t) ∷ [])

-- The call ended with this answer at this tag, durable in its slot: at its own, where it had committed; else at a tail that its last load showed unlinked, where the accesses of the call decide the reply.
pub record EndsAt (p : Pool) (x : Underway) (room1 : ValueBuf) (v : View) (o : Option Open) (w : View) (o1 : Option Open) (a : Answer) (t : TagParts) : Type 0 where
  pub range : InRange p (tag_number t)
  pub durable : Within (slot_of x, tag_number t) w.pass.durable
  pub tag : IsTagOf a t
  pub flags : IsFlagged a (copied_flags x)
  pub own : HasCommitted x → (tag_number t ≡ new_tag x) × (reply_in a room1 ≡ reply_of (new_tag x) (call_under x v))
  pub tail : IsUncommitted x → Ended p (call_under x v) (reply_in a room1) v o w o1 × ShowsLast (tag_number t) w.pass.since × CommitsNothing a

-- What a step that came to this turn says of the call x under way before it and of y behind it, of the cursors k and k1, of the room behind it, and of what the client knew and knows. The answer to a commit is decided at its exchange; any other at the access that ends the call. A call that ends with an answer sets its slot's cursor to the tag at which it ended, and nothing else sets one.
pub record Went (p : Pool) (x y : Underway) (k k1 : Known) (room1 : ValueBuf) (v : View) (o : Option Open) (w : View) (o1 : Option Open) (r : CallerTurn) : Type 0 where
  pub turns : Turns r x y
  pub decided : IfDecided r (λ a. Commits p (call_under x v) (new_tag x) v o w o1 × (reply_in a room1 ≡ reply_of (new_tag x) (call_under x v)))
  pub done : IfDone r (λ a. (t : TagParts) × EndsAt p x room1 v o w o1 a t × IsSet (slot_of x) t k k1)
  pub cursors : UnlessDone r (k1 ≡ k)
  pub behind : IfBehind r (λ turns. (turns ≡ budget p) × (w.pass.turns ≡ budget p))
  pub ahead : OnAhead r (w.pass.turns < budget p)
  pub bound : OnMade r (length w.pass.since ≤ most_accesses p w.pass.turns)
  pub holds : CallHolds p y w room1

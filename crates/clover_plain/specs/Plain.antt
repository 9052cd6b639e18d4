-- What contracts see of a plain pool, and how an access changes it.
use Rattle.std.specs.Prelude.{◌≡◌, ℕ, ◌+◌, ◌-◌, ◌^◌, ◌≤◌, ◌<◌, ◌&&◌, ◌⊎◌, min, nat_lt, slice_index_or, slice_set, List, [], ◌∷◌, ◌++◌, length, Bool, true, false, if◌then◌else◌}
use Prim.Native.Nat.{zero, suc}
use Rattle.std.specs.FinMap as finite
use Rattle.atomic_table.specs.Seated.{TableId}
use Rattle.clover_words.specs.Place.{durable_words}
use Rattle.clover_words.specs.declared.pool.Pool.{Pool}
use Rattle.clover_words.specs.declared.setup.Setup.{Setup}
use Rattle.clover_map.specs.declared.call.Entry.{Entry}
use Rattle.clover_map.specs.Tagged.{Tagged}
use Rattle.clover_rule.specs.Accesses.{Replays, done, words_after_act}
use Rattle.clover_rule.specs.Cut.{Rests, image_of}
use Rattle.clover_rule.specs.Lists.{nth, IsPrefix}
use Rattle.clover_rule.specs.Restart.{plan, rested_words, words_after_stores}
use Rattle.clover_rule.specs.Rule.{Rule, longest}
use Rattle.clover_rule.specs.Learned.{words_after_step, next_view, found}
use Rattle.clover_rule.specs.Steps.{Step, act_of}
use Rattle.clover_rule.specs.Moves.{nobody}
use Rattle.clover_rule.specs.Told.{Facts}
use Rattle.clover_rule.specs.Views.{alone, no_server, start_pass}
use Rattle.clover_rule.specs.declared.access.Access.{Access}
use Rattle.clover_rule.specs.declared.access.Act.{Act}
use Rattle.clover_rule.specs.declared.access.Actor.{Actor}
use Rattle.clover_rule.specs.declared.access.Actor.TheVariants.{Client, Server, Restart}
use Rattle.clover_rule.specs.declared.view.RestartStore.{RestartStore}
use Rattle.clover_rule.specs.declared.view.Role.{Role}
use Rattle.clover_rule.specs.declared.view.Role.TheVariants.{Client as ClientRole, Restarting, Serving}
use Rattle.clover_rule.specs.declared.view.View.{View}
use Rattle.std.specs.Prelude.{Some}
use Rattle.clover_words.specs.declared.word.Word.{Word}
use Rattle.clover_words.specs.declared.word.Side.{Side}
use Rattle.clover_words.specs.declared.word.Side.TheVariants.{Current, Flushed}
use Rattle.clover_port.specs.Told.{Open}
use Rattle.clover_port.specs.declared.op.Op.{Op}
use Rattle.clover_port.specs.declared.op.Op.TheVariants.{Load as ToLoad, Store as ToStore, Exchange as ToExchange, Raise as ToRaise}

-- what contracts see of a plain pool
pub record Plain : Type 0 where
  pub setup : Setup
  -- the map and the used tags with which the run began, or with which the next one begins
  pub first : Tagged
  pub used : List ℕ
  -- the words with which it began or that the last cut left, and the present words
  pub start : List ℕ
  pub words : List ℕ
  -- what each actor knows, by its seat, and the views that no actor's seat holds
  pub views : List View
  pub absent : List View
  -- the entries of the history that were entered
  pub entries : List Entry
  -- whether accesses are listed, and those that are
  pub traced : Bool
  pub accesses : List Access
  -- the accesses that were not refused
  pub made : ℕ
  -- whether the pool runs, and whether no port made a second access
  pub opened : Bool
  pub whole : Bool
  -- for how many accesses and entries there is room
  pub access_room : ℕ
  pub entry_room : ℕ

-- the map with which the run of these views began; each view has it
abbrev pub first_of : List View → Tagged
first_of [] = finite.empty
first_of (v ∷ vs) = v.pass.map

-- the used tags with which it began
abbrev pub used_of : List View → List ℕ
used_of [] = []
used_of (v ∷ vs) = v.pass.used

-- what the actor of a seat knows
abbrev pub view_at : Plain → ℕ → View
view_at p i = slice_index_or p.views i nobody

-- the history, which is the longest that a view holds
abbrev pub history : Plain → List Entry
history p = longest (p.views ++ p.absent)

-- the words and the history of the moment
abbrev pub open_of : Plain → Open
open_of p = record { words = p.words; history = history p }

-- the word that an access is on
abbrev pub op_word : Op → Word
op_word (ToLoad w) = w
op_word (ToStore w side y) = w
op_word (ToExchange w expected new) = w
op_word (ToRaise w y) = w

-- the copy of the word that an access is on
abbrev pub op_side : Op → Side
op_side (ToLoad w) = Current
op_side (ToStore w side y) = side
op_side (ToExchange w expected new) = Current
op_side (ToRaise w y) = Flushed

-- the words after these acts
abbrev pub after_acts : Pool → List ℕ → List Act → List ℕ
after_acts p ws [] = ws
after_acts p ws (a ∷ as1) = after_acts p (words_after_act p ws a) as1

-- a count that stands still at its type's end
abbrev pub counted : ℕ → ℕ
counted n = min n (2 ^ 64 - 1)

-- The later accesses replay from the first words and lead to the other ones, and so many of all were not refused.
pub record Leads (p : Pool) (start words : List ℕ) (made : ℕ) (earlier since : List Access) : Type 0 where
  pub replays : Replays p start since
  pub ends : after_acts p start (done since) ≡ words
  pub count : made ≡ counted (length (done (earlier ++ since)))

-- The seat of an actor: the clients come first, in the order of their numbers, and behind them the server, which a preset pool has not. Restart's is the last one, while the pool is down.
abbrev pub HasSeat : Plain → Actor → ℕ → Type 0
HasSeat p (Client n) seat = (1 ≤ n) × (n ≤ p.setup.clients) × (suc seat ≡ n)
HasSeat p Server seat = (seat ≡ p.setup.clients) × (seat < length p.views)
HasSeat p Restart seat = (seat ≡ suc p.setup.clients) × (seat < length p.views)

-- Restart steps while the pool is down, and every other actor while it runs.
abbrev pub HasTurn : Plain → Actor → Type 0
HasTurn p (Client n) = p.opened ≡ true
HasTurn p Server = p.opened ≡ true
HasTurn p Restart = p.opened ≡ false

-- the same of the actor of a seat
abbrev pub IsTurn : Plain → ℕ → Type 0
IsTurn p seat = p.opened ≡ false → seat ≡ suc p.setup.clients

-- the actor has a seat
abbrev pub IsActor : Plain → Actor → Type 0
IsActor p a = (seat : ℕ) × HasSeat p a seat

-- the actor of a seat
abbrev pub actor_at : Setup → ℕ → Actor
actor_at s seat = if nat_lt seat s.clients then Client (suc seat) else if nat_lt s.clients seat then Restart else Server

-- the role of what the actor of a seat knows, a client or the server
abbrev pub role_at : Setup → ℕ → Role
role_at s seat = if nat_lt seat s.clients then ClientRole (suc seat) else Serving

-- what this actor knows has its role
abbrev pub HasRole : Actor → View → Type 0
HasRole (Client n) v = v.pass.role ≡ ClientRole n
HasRole Server v = v.pass.role ≡ Serving
HasRole Restart v = v.pass.role ≡ Restarting

-- There is a list of all accesses, before the last cut and since, and it is the listed one where each port made one access at most.
abbrev pub HasStory : Plain → Type 0
HasStory p = (earlier since : List Access) × Leads p.setup.pool p.start p.words p.made earlier since × (p.traced ≡ true → p.whole ≡ true → earlier ++ since ≡ p.accesses)

-- Between any two steps of a pool that runs.
pub record Running (p : Plain) : Type 0 where
  pub rule : Rule p.setup.pool p.first p.used p.words (p.views ++ p.absent) (history p)
  -- the entries that were entered begin the history
  pub entered : IsPrefix p.entries (history p)
  pub story : HasStory p
  -- without a trace nothing is listed
  pub untraced : p.traced ≡ false → p.accesses ≡ []
  -- each seat has its actor's role
  pub roles : (i : ℕ) (v : View) → nth p.views i ≡ Some v → v.pass.role ≡ role_at p.setup i

-- what a client or the server knows while the pool is down: how the next run begins, and nothing else
abbrev pub resting_view : Plain → ℕ → View
resting_view p seat = alone (start_pass p.setup.pool p.first p.used (role_at p.setup seat))

-- what restart knows
abbrev pub restart_view : Plain → View
restart_view p = view_at p (suc p.setup.clients)

-- Between any two stores of restart, once the pool has lost its power.
pub record IsDown (p : Plain) : Type 0 where
  -- the image that the cut left rests, with the map and the used tags of the next run
  pub image : List ℕ
  pub sized : length image ≡ durable_words p.setup.pool
  pub rests : Rests p.setup.pool image p.first p.used
  pub start : p.start ≡ rested_words p.setup.pool image
  -- these stores of the image's plan were made, and restart has the others still to make
  pub stored : List RestartStore
  pub plan : plan p.setup.pool (image_of p.setup.pool image) rests.sound.reads ≡ stored ++ (restart_view p).plan
  pub words : p.words ≡ words_after_stores p.setup.pool p.start stored
  -- each actor has a seat, and nobody knows more than how the next run begins
  pub seats : length p.views ≡ p.setup.clients + 2
  pub renewed : (i : ℕ) → i ≤ p.setup.clients → view_at p i ≡ resting_view p i
  pub restart : (restart_view p).pass.role ≡ Restarting
  pub facts : Facts p.setup.pool (restart_view p) []
  pub absent : p.absent ≡ []
  pub entries : p.entries ≡ []
  pub story : HasStory p
  pub untraced : p.traced ≡ false → p.accesses ≡ []

-- what holds of a pool that runs, or is down
abbrev pub Stands : Bool → Plain → Type 0
Stands true p = Running p
Stands false p = IsDown p

-- A run that has begun from a map with nothing and no used tag, and in which nothing has happened.
pub record IsFresh (p : Plain) : Type 0 where
  pub opened : p.opened ≡ true
  pub first : p.first ≡ finite.empty
  pub used : p.used ≡ []
  pub start : p.start ≡ p.words
  pub absent : p.absent ≡ []
  pub history : history p ≡ []
  pub entries : p.entries ≡ []
  pub accesses : p.accesses ≡ []
  pub made : p.made ≡ 0
  pub whole : p.whole ≡ true

-- the numbers of so many clients
abbrev pub numbers : ℕ → List ℕ
numbers zero = []
numbers (suc n) = suc n ∷ numbers n

-- what the actor of a seat knows as a run begins from words of 0
abbrev pub first_view : Setup → ℕ → View
first_view s seat = record (alone (start_pass s.pool finite.empty [] (role_at s seat))) { server = record no_server { clients = if nat_lt seat s.clients then [] else numbers s.clients } }

-- there is room for one access and one entry
pub record HasRoom (p : Plain) : Type 0 where
  pub access : p.traced ≡ true → 1 ≤ p.access_room
  pub entry : 1 ≤ p.entry_room

-- an access of the actor of a seat, refused or not
abbrev pub access : Setup → ℕ → Act → Bool → Access
access s seat a refused = record { actor = actor_at s seat; act = a; refused = refused }

-- a list with one more access, where it is listed
abbrev pub grown : Bool → List Access → Access → List Access
grown true xs x = xs ++ x ∷ []
grown false xs x = xs

-- what no access changes
pub record Same (p q : Plain) : Type 0 where
  pub setup : q.setup ≡ p.setup
  pub first : q.first ≡ p.first
  pub used : q.used ≡ p.used
  pub start : q.start ≡ p.start
  pub absent : q.absent ≡ p.absent
  pub entries : q.entries ≡ p.entries
  pub traced : q.traced ≡ p.traced
  pub opened : q.opened ≡ p.opened
  pub entry_room : q.entry_room ≡ p.entry_room

-- The actor of a seat made this step, the first of its call or a later one, and found the number x; the access is listed or not.
pub record Stepped (a : Step) (b : Bool) (list : Bool) (seat x : ℕ) (p q : Plain) : Type 0 where
  pub found : x ≡ found p.setup.pool a p.words
  pub words : q.words ≡ words_after_step p.setup.pool a p.words
  pub views : q.views ≡ slice_set p.views seat (next_view b a (history p) (view_at p seat) x)
  pub accesses : q.accesses ≡ grown (p.traced && list) p.accesses (access p.setup seat (act_of a x) false)
  pub made : q.made ≡ counted (p.made + 1)
  pub whole : q.whole ≡ (p.whole && list)
  pub same : Same p q

-- The actor of a seat made this access, which was refused.
pub record Refused (a : Act) (seat : ℕ) (p q : Plain) : Type 0 where
  pub words : q.words ≡ p.words
  pub views : q.views ≡ p.views
  pub accesses : q.accesses ≡ grown p.traced p.accesses (access p.setup seat a true)
  pub made : q.made ≡ p.made
  pub whole : q.whole ≡ p.whole
  pub same : Same p q

-- The actor of a seat made one access, some step, or one was refused.
abbrev pub Accessed : ℕ → Bool → Plain → Plain → Type 0
Accessed seat list p q = ((a : Step) × (b : Bool) × (x : ℕ) × Stepped a b list seat x p q) ⊎ ((a : Step) × Refused (act_of a 0) seat p q)

-- the same but for the room
pub record Kept (p q : Plain) : Type 0 where
  pub words : q.words ≡ p.words
  pub views : q.views ≡ p.views
  pub accesses : q.accesses ≡ p.accesses
  pub made : q.made ≡ p.made
  pub whole : q.whole ≡ p.whole
  pub setup : q.setup ≡ p.setup
  pub first : q.first ≡ p.first
  pub used : q.used ≡ p.used
  pub start : q.start ≡ p.start
  pub absent : q.absent ≡ p.absent
  pub entries : q.entries ≡ p.entries
  pub traced : q.traced ≡ p.traced
  pub opened : q.opened ≡ p.opened

-- the same but for the entries and their room
pub record KeptButEntries (p q : Plain) : Type 0 where
  pub words : q.words ≡ p.words
  pub views : q.views ≡ p.views
  pub accesses : q.accesses ≡ p.accesses
  pub made : q.made ≡ p.made
  pub whole : q.whole ≡ p.whole
  pub setup : q.setup ≡ p.setup
  pub first : q.first ≡ p.first
  pub used : q.used ≡ p.used
  pub start : q.start ≡ p.start
  pub absent : q.absent ≡ p.absent
  pub traced : q.traced ≡ p.traced
  pub opened : q.opened ≡ p.opened
  pub access_room : q.access_room ≡ p.access_room

-- the name of no table
abbrev pub no_table : TableId
no_table = record { words = 0; slots = 0; views_name = 0; atom = 0; block = 0; offset = 0; slot_names = [] }

-- What is due of a step call, and what the call makes of the server and answers: exactly this, and nothing else.
use Rattle.std.specs.Prelude.{◌≡◌, ℕ, nat_lt, nat_eq, ◌&&◌, Bool, true, false, not, if◌then◌else◌, List, length, Option, Some, None}
use Rattle.clover_words.specs.Tag.{TagParts}
use Rattle.clover_alloc.specs.Ledger.{count_of}
use Rattle.clover_alloc.specs.Taking.{IsBalanced, with_out}
use Rattle.clover_alloc.specs.declared.line.Place.TheVariants.{Bound, Worn, Out}
use Rattle.clover_dir.specs.Directory.{root_of}
use Rattle.clover_dir.specs.Task.{made_bind}
use Rattle.clover_recycle.specs.Recycling.{made_task}
use Rattle.clover_recycle.specs.Sweeping.{after_turn}
use Rattle.clover_recycle.specs.declared.turn.RecycleTurn.TheVariants.{Unlinked as WasUnlinked}
use Rattle.clover_rule.specs.Steps.{Step}
use Rattle.clover_server.specs.Going.{server_step, went, answer_of, refused}
use Rattle.clover_server.specs.Looking.{position, free_in, room_of}
use Rattle.clover_server.specs.Server.{ServerState}
use Rattle.clover_server.specs.declared.due.Room.{Room}
use Rattle.clover_server.specs.declared.due.Room.TheVariants.{Swept, Full as IsFull, Free as HasFree}
use Rattle.clover_server.specs.declared.turn.ServerTurn.{ServerTurn}
use Rattle.clover_server.specs.declared.turn.ServerTurn.TheVariants.{More, Ready, Unlinked, Full, NoSlot, Unreached}
use Rattle.clover_server.specs.declared.work.Unfinished.{Unfinished}
use Rattle.clover_server.specs.declared.work.Work.{Work}
use Rattle.clover_server.specs.declared.work.Work.TheVariants.{Binding, Recycling}

-- what is due: the next access of the unfinished task; one that begins the recycling of a slot, for the sweep of a want or for itself; one that begins a binding; or an answer without an access
pub data Due : Type 0 where
  Finishes : Due
  Sweeps : (slot : ℕ) → Due
  Recycles : (slot : ℕ) → Due
  Binds : (slot : ℕ) (key : List ℕ) → Due
  Answers : ServerTurn → Due

-- the answer that no buffer is free, with the counts of the books
abbrev pub full_turn : ServerState → ServerTurn
full_turn s = Full (count_of Bound s.books) (count_of Worn s.books) (count_of Out s.books)

-- an unfinished task comes first
abbrev pub or_finish : Option Unfinished → Due → Due
or_finish None due = due
or_finish (Some u) due = Finishes

-- what is due where a buffer must be free: the sweep, the answer that none is, or what the buffer is wanted for
abbrev pub by_room : ServerState → Room → Due → Due
by_room s (Swept slot) due = Sweeps slot
by_room s IsFull due = Answers (full_turn s)
by_room s HasFree due = due

-- what is due of a want of stock, with so many buffers to a batch
abbrev pub stock_due : ServerState → Due
stock_due s = or_finish s.task (by_room s (room_of s s.setup.batch) (Answers Ready))

-- what is due of a want of a key's binding, where no task is unfinished, this is its slot, and this the lowest unbound slot
abbrev pub unbound_due : ServerState → List ℕ → Option ℕ → Due
unbound_due s key None = Answers NoSlot
unbound_due s key (Some slot) = by_room s (room_of s 1) (Binds slot key)

abbrev pub named_due : ServerState → List ℕ → Option ℕ → Option ℕ → Due
named_due s key None free = unbound_due s key free
named_due s key (Some slot) free = Answers Ready

-- what is due of a recycling of a slot
abbrev pub recycle_due : ServerState → ℕ → Due
recycle_due s slot = or_finish s.task (Recycles slot)

-- a task that is begun
abbrev pub begun : Work → Option Unfinished
begun work = Some (record { work = work; left = false })

-- the recycling of a slot with this root version is begun
abbrev pub recycling : ServerState → ℕ → TagParts → ServerState
recycling s slot root = record s { task = begun (Recycling slot (made_task slot root)) }

-- the sweep of a want is under way
abbrev pub sweeping : ServerState → ServerState
sweeping s = record s { sweep = Some (position s.sweep) }

-- a binding of the key to the slot is begun, with this tag's buffer, which is taken
abbrev pub binding : ServerState → ℕ → List ℕ → TagParts → ServerState
binding s slot key own = record s { task = begun (Binding own (made_bind slot key own)); books = with_out s.books own }

-- the server that has begun what is due
abbrev pub Begins : ServerState → Due → ServerState → Type 0
Begins s Finishes b = b ≡ s
Begins s (Sweeps slot) b = (root : TagParts) × (root_of s.directory slot ≡ Some root) × (b ≡ sweeping (recycling s slot root))
Begins s (Recycles slot) b = (root : TagParts) × (root_of s.directory slot ≡ Some root) × (b ≡ recycling s slot root)
Begins s (Binds slot key) b = (own : TagParts) × IsBalanced s.books own × (b ≡ binding s slot key own)
Begins s (Answers turn) b = ⊥

-- a want has ended: the next one's sweep begins at the first binding
abbrev pub ended : ServerState → ServerState
ended s = record s { sweep = None }

-- the sweep has left a binding more behind; the count of them stands still at its type's end
abbrev pub swept_on : ServerState → ServerState
swept_on s = record s { sweep = Some (after_turn (position s.sweep) WasUnlinked) }

-- the sweep has left the last binding behind, and no buffer is free
abbrev pub all_swept : ServerState → Bool
all_swept s = not (nat_lt (position s.sweep) (length s.directory.list)) && nat_eq (free_in s) 0

-- the server and the answer where the sweep's own access came to this: only a root version that was read unlinked is told, and behind the last one it may be full
abbrev pub ended_if : Bool → ServerState → ServerState
ended_if full s = if full then ended s else s

abbrev pub full_if : Bool → ServerState → ServerTurn
full_if full s = if full then full_turn s else More

abbrev pub swept : ServerState → ServerTurn → ServerState
swept s Unlinked = ended_if (all_swept (swept_on s)) (swept_on s)
swept s turn = s

abbrev pub swept_turn : ServerState → ServerTurn → ServerTurn
swept_turn s Unlinked = full_if (all_swept (swept_on s)) (swept_on s)
swept_turn s turn = More

-- where an access was made, and where it was refused
abbrev pub OnAccess : ServerTurn → (ℕ → Type 0) → Type 0 → Type 0
OnAccess Unreached made failed = failed
OnAccess turn made failed = (x : ℕ) × made x

-- the server and the answer of a want behind the access of what was due
abbrev pub want_after : Due → ServerState → ServerTurn → ServerState
want_after (Sweeps slot) s turn = swept s turn
want_after due s turn = s

abbrev pub want_turn : Due → ServerState → ServerTurn → ServerTurn
want_turn (Sweeps slot) s turn = swept_turn s turn
want_turn due s turn = More

-- a step of a want: what was due was begun, and its access made; a refused one ends the want and leaves the task. An answer without an access ends the want, too.
abbrev pub WantStep : Due → (s n : ServerState) → ServerTurn → (Step → ℕ → Type 0) → Type 0 → Type 0 → Type 0
WantStep (Answers turn) s n r made failed still = still × (r ≡ turn) × (n ≡ ended s)
WantStep due s n r made failed still = (b : ServerState) × Begins s due b × OnAccess r
    (λ x. made (server_step b) x × (n ≡ want_after due (went b x) (answer_of b x)) × (r ≡ want_turn due (went b x) (answer_of b x)))
    (failed × (n ≡ ended (refused b)))

-- whether the unfinished task was left to a later call
abbrev pub is_left : Option Unfinished → Bool
is_left None = false
is_left (Some u) = u.left

-- what an access for another call's task tells
abbrev pub own_turn : Bool → ServerTurn → ServerTurn
own_turn true Unreached = Unreached
own_turn true turn = More
own_turn false turn = turn

-- a step of a recycling: a task that was left is finished without a word of how it ended
abbrev pub RecycleStep : Due → (s n : ServerState) → ServerTurn → (Step → ℕ → Type 0) → Type 0 → Type 0
RecycleStep due s n r made failed = (b : ServerState) × Begins s due b × OnAccess r
    (λ x. made (server_step b) x × (n ≡ went b x) × (r ≡ own_turn (is_left s.task) (answer_of b x)))
    (failed × (n ≡ refused b))

-- a step that finishes a task and begins nothing
abbrev pub FinishStep : (s n : ServerState) → ServerTurn → (Step → ℕ → Type 0) → Type 0 → Type 0
FinishStep s n r made failed = OnAccess r
    (λ x. made (server_step s) x × (n ≡ went s x) × (r ≡ More))
    (failed × (n ≡ refused s))

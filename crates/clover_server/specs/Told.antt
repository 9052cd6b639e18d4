-- What the answers of a step tell in the field's own terms, and what the server's helpers ask.
use Rattle.std.specs.Prelude.{◌≡◌, ℕ, ◌+◌, Option, Some, None}
use Rattle.clover_words.specs.declared.pool.Pool.{Pool}
use Rattle.clover_words.specs.Tag.{IsTag, tag_number}
use Rattle.clover_alloc.specs.Ledger.{book, total_of, buffer_of_tag}
use Rattle.clover_alloc.specs.Lines.{line}
use Rattle.clover_alloc.specs.declared.line.Place.TheVariants.{Bound, Out}
use Rattle.clover_dir.specs.Directory.{IsBound}
use Rattle.clover_dir.specs.Going.{Binds}
use Rattle.clover_dir.specs.Task.{binding_of}
use Rattle.clover_dir.specs.declared.stage.Stage.{Stage as BindStage}
use Rattle.clover_dir.specs.declared.stage.Stage.TheVariants.{Count}
use Rattle.clover_port.specs.Told.{Open}
use Rattle.clover_recycle.specs.Answering.{GivesBack}
use Rattle.clover_recycle.specs.declared.stage.Stage.{Stage as RecycleStage}
use Rattle.clover_recycle.specs.declared.stage.Stage.TheVariants.{AtFree}
use Rattle.clover_rule.specs.Lists.{Within}
use Rattle.clover_rule.specs.declared.view.View.{View}
use Rattle.clover_server.specs.Going.{books_bound}
use Rattle.clover_server.specs.Looking.{free_in}
use Rattle.clover_server.specs.Server.{ServerState}
use Rattle.clover_server.specs.declared.outcome.Outcome.{Outcome}
use Rattle.clover_server.specs.declared.outcome.Outcome.TheVariants.{Recycled, Bound as WasBound}
use Rattle.clover_server.specs.declared.turn.ServerTurn.{ServerTurn}
use Rattle.clover_server.specs.declared.turn.ServerTurn.TheVariants.{Ready, Unlinked, Recycled as TurnRecycled, Full, NoSlot, Unreached}
use Rattle.clover_server.specs.declared.work.Unfinished.{Unfinished}
use Rattle.clover_server.specs.declared.work.Work.{Work}
use Rattle.clover_server.specs.declared.work.Work.TheVariants.{Binding, Recycling}

-- where the answer is that no buffer is free
abbrev pub IfFull : ServerTurn → (ℕ → ℕ → ℕ → Type 0) → Type 0
IfFull (Full bound worn out) P = P bound worn out
IfFull turn P = Unit {0}

-- no buffer is free, these numbers are all of them, and the view holds each bound slot as read unlinked
pub record IsFull (s : ServerState) (v : View) (bound worn out : ℕ) : Type 0 where
  pub none : free_in s ≡ 0
  pub all : bound + worn + out ≡ total_of s.books
  pub read : (slot : ℕ) → IsBound slot s.directory → Within slot v.server.unlinked

-- the tags of an outcome are tags
abbrev pub AreTags : Outcome → Type 0
AreTags (Recycled slot old root) = IsTag old × IsTag root
AreTags (WasBound own) = IsTag own
AreTags outcome = Unit {0}

-- the books have the buffers of an outcome where they were before the access
abbrev pub CanTake : ServerState → Outcome → Type 0
CanTake s (Recycled slot old root) =
    (book s.books (buffer_of_tag root) ≡ line root.generation Out)
    × (book (books_bound s.books root) (buffer_of_tag old) ≡ line old.generation Bound)
    × IsBound slot s.directory
CanTake s (WasBound own) = book s.books (buffer_of_tag own) ≡ line own.generation Out
CanTake s outcome = Unit {0}

-- where the next access is a binding's last one, and a recycling's
abbrev pub AtLast : BindStage → Type 0 → Type 0
AtLast Count A = A
AtLast at A = Unit {0}

abbrev pub AtLastRaise : RecycleStage → Type 0 → Type 0
AtLastRaise (AtFree t) A = A
AtLastRaise at A = Unit {0}

-- What an access tells where it was its task's last one, of the words that it left: behind a binding the slot's key words, its root and its tombstone are flushed; behind a recycling the old version's next word is flushed at the next generation, unlinked, and its buffer stands on no chain of any image.
abbrev pub Ends : Pool → Work → ℕ → View → Option Open → View → Option Open → Type 0
Ends p (Binding own c) count v o w o1 = AtLast c.stage (Binds p (binding_of c) count v o w o1)
Ends p (Recycling slot c) count v o w o1 = AtLastRaise c.stage (GivesBack p o1 (tag_number c.root))

abbrev pub EndsTask : Pool → Option Unfinished → ℕ → View → Option Open → View → Option Open → Type 0
EndsTask p None count v o w o1 = Unit {0}
EndsTask p (Some u) count v o w o1 = Ends p u.work count v o w o1

-- where no access was refused
abbrev pub IfReached : ServerTurn → Type 0 → Type 0
IfReached Unreached A = Unit {0}
IfReached turn A = A

-- where an access was refused
abbrev pub IfUnreached : ServerTurn → Type 0 → Type 0
IfUnreached Unreached A = A
IfUnreached turn A = Unit {0}

-- what a want's step may answer, and a step of a task
abbrev pub IsWantTurn : ServerTurn → Type 0
IsWantTurn Unlinked = ⊥
IsWantTurn (TurnRecycled old) = ⊥
IsWantTurn turn = Unit {0}

abbrev pub IsOwnTurn : ServerTurn → Type 0
IsOwnTurn Ready = ⊥
IsOwnTurn (Full bound worn out) = ⊥
IsOwnTurn NoSlot = ⊥
IsOwnTurn turn = Unit {0}

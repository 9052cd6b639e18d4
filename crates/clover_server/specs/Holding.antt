-- What every call of the server stands on: that its port's view is this server's books, directory and unfinished task.
use Rattle.std.specs.Prelude.{◌≡◌, ◌≢◌, ℕ, ◌<◌, ◌≤◌, true, List, [], ◌∷◌, ◌++◌, length, map, slice_get, Option, Some, None}
use Rattle.clover_words.specs.declared.pool.Pool.{Pool}
use Rattle.clover_words.specs.Tag.{TagParts, IsTag, tag_number, home}
use Rattle.clover_words.specs.Version.{buffer_at}
use Rattle.clover_rule.specs.Asks.{IsAt}
use Rattle.clover_rule.specs.Content.{inside, InRange}
use Rattle.clover_rule.specs.Lists.{Each, Within}
use Rattle.clover_rule.specs.Moves.{IsFreeBatch}
use Rattle.clover_rule.specs.Views.{Book, book, book_at}
use Rattle.clover_rule.specs.declared.view.BufferState.{BufferState}
use Rattle.clover_rule.specs.declared.view.BufferState.TheVariants.{Free as ViewFree, Worn as ViewWorn, Bound as ViewBound, Out as ViewOut}
use Rattle.clover_rule.specs.declared.view.ServerTask.TheVariants.{Idle}
use Rattle.clover_rule.specs.declared.view.View.{View}
use Rattle.clover_alloc.specs.Ledger.{Ledger, IsLedger, buffer_of_tag, book as line_of}
use Rattle.clover_alloc.specs.Lines.{line}
use Rattle.clover_alloc.specs.declared.line.Line.{Line}
use Rattle.clover_alloc.specs.declared.line.Place.{Place}
use Rattle.clover_alloc.specs.declared.line.Place.TheVariants.{Free, Worn, Bound, Out}
use Rattle.clover_dir.specs.Directory.{Bindings, IsBound, root_of}
use Rattle.clover_dir.specs.Holding.{BindHolds, IsDirectoryOf}
use Rattle.clover_dir.specs.declared.stage.Stage.{Stage}
use Rattle.clover_dir.specs.declared.stage.Stage.TheVariants.{Tombstone, Over}
use Rattle.clover_recycle.specs.Holding.{RecycleHolds}
use Rattle.clover_server.specs.Server.{ServerState}
use Rattle.clover_server.specs.declared.outcome.Outcome.{Outcome}
use Rattle.clover_server.specs.declared.outcome.Outcome.TheVariants.{Going, Unlinked, Recycled, Bound as WasBound, Unreached}
use Rattle.clover_server.specs.declared.work.Unfinished.{Unfinished}
use Rattle.clover_server.specs.declared.work.Work.{Work}
use Rattle.clover_server.specs.declared.work.Work.TheVariants.{Binding, Recycling}

-- the view's task is this one, or none before the task's first access, and the view holds what the task stands on
abbrev pub WorkHolds : Pool → Bindings → View → Work → Type 0
WorkHolds p d v (Binding own c) = BindHolds p c d v × (c.stage ≢ Over) × (c.own ≡ own)
WorkHolds p d v (Recycling slot c) = RecycleHolds p c v × (c.slot ≡ slot) × (root_of d slot ≡ Some c.root) × IsBound slot d

abbrev pub TaskHolds : Pool → Bindings → View → Option Unfinished → Type 0
TaskHolds p d v None = IsAt v Idle
TaskHolds p d v (Some u) = WorkHolds p d v u.work

-- the own tag of a binding none of whose accesses was made
abbrev pub if_before : Stage → TagParts → List TagParts
if_before Tombstone t = t ∷ []
if_before at t = []

abbrev pub own_of : Work → List TagParts
own_of (Binding own c) = if_before c.stage c.own
own_of (Recycling slot c) = []

abbrev pub reserved : Option Unfinished → List TagParts
reserved None = []
reserved (Some u) = own_of u.work

-- a line of the books as a view has it
abbrev pub state_of : Place → BufferState
state_of Free = ViewFree
state_of Worn = ViewWorn
state_of Bound = ViewBound
state_of Out = ViewOut

abbrev pub seen_book : Line → Book
seen_book l = book l.generation (state_of l.place)

-- The books are those of the view, but for buffers that were taken and that the view does not know of yet: these are out in the books, and in the view still free at the same generation.
pub record AreBooksOf (p : Pool) (taken : List TagParts) (books : Ledger) (v : View) : Type 0 where
  pub whole : IsLedger books
  pub pool : books.pool ≡ p
  pub same : (b : ℕ) → inside p b ≡ true → Each (λ (t : TagParts). home (tag_number t) ≢ b) taken → book_at v.server b ≡ seen_book (line_of books (buffer_at b))
  pub tags : Each IsTag taken
  pub free : IsFreeBatch p v (map tag_number taken)
  pub out : Each (λ (t : TagParts). line_of books (buffer_of_tag t) ≡ line t.generation Out) taken

-- the buffer of a binding's own tag is out in the books
abbrev pub HasOut : Ledger → Work → Type 0
HasOut books (Binding own c) = IsTag own × (line_of books (buffer_of_tag own) ≡ line own.generation Out)
HasOut books (Recycling slot c) = Unit {0}

abbrev pub TaskHasOut : Ledger → Option Unfinished → Type 0
TaskHasOut books None = Unit {0}
TaskHasOut books (Some u) = HasOut books u.work

-- each slot that the sweep of a want has left behind is one that the view holds as read unlinked
abbrev pub IsSweptBy : View → List (ℕ × List ℕ) → Option ℕ → Type 0
IsSweptBy v list None = Unit {0}
IsSweptBy v list (Some n) = (n ≤ length list) × ((i : ℕ) (q : ℕ × List ℕ) → i < n → slice_get list i ≡ Some q → Within q.0 v.server.unlinked)

-- The port's view is this server's: its books, but for the tags of a batch that was taken and is not handed over yet and for a binding none of whose accesses was made; its directory, but for a binding that waits for its last store; its unfinished task; and what the sweep under way has read.
pub record Agrees (p : Pool) (ahead : List TagParts) (s : ServerState) (v : View) : Type 0 where
  pub pool : s.setup.pool ≡ p
  pub task : TaskHolds p s.directory v s.task
  pub directory : IsDirectoryOf p s.directory v
  pub ranged : (slot : ℕ) (t : TagParts) → root_of s.directory slot ≡ Some t → InRange p (tag_number t)
  pub books : AreBooksOf p (ahead ++ reserved s.task) s.books v
  pub held : TaskHasOut s.books s.task
  pub sweep : IsSweptBy v s.directory.list s.sweep

-- what holds of the view where a task's access came to this, and left this directory
abbrev pub WorkLeaves : Pool → Bindings → View → Work → Outcome → Type 0
WorkLeaves p d w n Going = WorkHolds p d w n
WorkLeaves p d w n Unlinked = IsAt w Idle
WorkLeaves p d w n (Recycled slot old root) = IsAt w Idle
WorkLeaves p d w n (WasBound own) = IsAt w Idle × IsDirectoryOf p d w
WorkLeaves p d w n Unreached = Unit {0}

-- The books as contracts see them: of each buffer one line, which is its generation and its place.
use Rattle.std.specs.Prelude.{◌≡◌, ℕ, ◌*◌, ◌<◌, ◌≤◌, ◌≢◌, ◌↔◌, Bool, true, List, [], length, slice_index_or, slice_set, replicate}
use Rattle.std.specs.List.{sum_by}
use Rattle.clover_words.specs.declared.pool.Pool.{Pool}
use Rattle.clover_words.specs.declared.word.Buffer.{Buffer}
use Rattle.clover_words.specs.Place.{IsBuffer}
use Rattle.clover_words.specs.Tag.{TagParts}
use Rattle.clover_alloc.specs.declared.line.Place.{Place}
use Rattle.clover_alloc.specs.declared.line.Place.TheVariants.{Free, Worn}
use Rattle.clover_alloc.specs.declared.line.Line.{Line}
use Rattle.clover_alloc.specs.Lines.{line, count_in}

-- the pool's shape, for each memory node the lines of its buffers in order, and whether nothing was taken yet
pub record Ledger : Type 0 where
  pub pool : Pool
  pub nodes : List (List Line)
  pub fresh : Bool

-- what the books say of a buffer; one that no pool has is worn
abbrev pub book : Ledger → Buffer → Line
book books b = slice_index_or (slice_index_or books.nodes b.node []) b.index (line 0 Worn)

-- the books in which one buffer has another line
abbrev pub with_line : Ledger → Buffer → Line → Ledger
with_line books b l = record books { nodes = slice_set books.nodes b.node (slice_set (slice_index_or books.nodes b.node []) b.index l) }

-- one buffer has another line, and each other one the line that it had
pub record Moves (before : Ledger) (b : Buffer) (l : Line) (after : Ledger) : Type 0 where
  pub value : after ≡ with_line before b l
  pub line : book after b ≡ l
  pub others : (c : Buffer) → c ≢ b → book after c ≡ book before c

-- how many buffers are in a place
abbrev pub count_of : Place → Ledger → ℕ
count_of p books = sum_by (count_in p) books.nodes

-- how many buffers there are
abbrev pub total_of : Ledger → ℕ
total_of books = books.pool.nodes * books.pool.buffers

-- the books of a pool whose buffers are all free at generation 0
abbrev pub new_ledger : Pool → Ledger
new_ledger pool = record { pool = pool; nodes = replicate pool.nodes (replicate pool.buffers (line 0 Free)); fresh = true }

-- the buffer of a tag
abbrev pub buffer_of_tag : TagParts → Buffer
buffer_of_tag t = record { node = t.node; index = t.index }

-- the tag's buffer is in the place at the tag's generation
abbrev pub IsAt : Place → Ledger → TagParts → Type 0
IsAt p books t = book books (buffer_of_tag t) ≡ line t.generation p

-- a tag that can be given no more: below the books' generation of its buffer, or at it and not free
pub record Spent (books : Ledger) (t : TagParts) : Type 0 where
  pub passed : t.generation ≤ (book books (buffer_of_tag t)).generation
  pub gone : t.generation ≡ (book books (buffer_of_tag t)).generation → (book books (buffer_of_tag t)).place ≢ Free

-- no spent tag can be given again
abbrev pub KeepsSpent : Ledger → Ledger → Type 0
KeepsSpent before after = (t : TagParts) → Spent before t → Spent after t

-- there is a line for each buffer of the pool
pub record HasLines (books : Ledger) : Type 0 where
  pub nodes : length books.nodes ≡ books.pool.nodes
  pub buffers : (n : ℕ) → n < books.pool.nodes → length (slice_index_or books.nodes n []) ≡ books.pool.buffers

-- a line that a buffer may have: its generation is at most the wear, and it is worn exactly there
pub record MayHave (wear : ℕ) (l : Line) : Type 0 where
  pub most : l.generation ≤ wear
  pub worn : (l.place ≡ Worn) ↔ (l.generation ≡ wear)

-- books that are whole: a line for each buffer of the pool, and each of them one that a buffer may have
pub record IsLedger (books : Ledger) : Type 0 where
  pub lines : HasLines books
  pub each : (b : Buffer) → IsBuffer books.pool b → MayHave books.pool.wear (book books b)

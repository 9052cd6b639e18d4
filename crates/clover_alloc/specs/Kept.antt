-- What the code keeps beside the lines: bits that say which buffers of a memory node are free, and counts.
use Rattle.std.specs.Prelude.{◌≡◌, ℕ, ◌*◌, ◌/◌, ◌%◌, ◌<◌, ◌≤◌, ◌≢◌, List, length, slice_index, slice_index_or, if◌then◌else◌}
use Rattle.std.specs.Int.{bit_at}
use Rattle.clover_alloc.specs.declared.line.Place.{Place}
use Rattle.clover_alloc.specs.declared.line.Place.TheVariants.{Free, Worn}
use Rattle.clover_alloc.specs.declared.line.Line.{Line}
use Rattle.clover_alloc.specs.declared.line.Counts.{Counts}
use Rattle.clover_alloc.specs.Lines.{line, same_place, count_in, number_of, sum_of}
use Rattle.clover_alloc.specs.Ledger.{Ledger, IsLedger, count_of, total_of}

-- the line of an index; behind the last one there are worn ones
abbrev pub line_at : List Line → ℕ → Line
line_at lines i = slice_index_or lines i (line 0 Worn)

-- bit k of words of 64 bits, the lowest bit of the first word being bit 0
abbrev pub bit_in : List ℕ → ℕ → ℕ
bit_in words k = bit_at (slice_index words (k / 64)) (k % 64)

-- 1 where the line has the place, else 0
abbrev pub one_at : Place → Line → ℕ
one_at p l = if same_place p l.place then 1 else 0

-- A memory node's bits, the number of its free buffers and its first word that may have a bit, beside its lines.
pub record IsIndexed (lines : List Line) (words : List ℕ) (free low : ℕ) : Type 0 where
  pub few : length lines ≤ 65536
  pub room : length lines ≤ 64 * length words
  pub bits : (k : ℕ) → bit_in words k ≡ one_at Free (line_at lines k)
  pub count : free ≡ count_in Free lines
  pub none_below : (k : ℕ) → k < 64 * low → (line_at lines k).place ≢ Free

-- the counts are those of the books, and they sum to the number of buffers
pub record IsCounted (books : Ledger) (counts : Counts) : Type 0 where
  pub each : (p : Place) → number_of p counts ≡ count_of p books
  pub adds_up : sum_of counts ≡ total_of books

-- whole books, counted
pub record AreKept (books : Ledger) (counts : Counts) : Type 0 where
  pub whole : IsLedger books
  pub counted : IsCounted books counts

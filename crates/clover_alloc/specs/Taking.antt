-- The rule by which buffers are taken, one after the other.
use Rattle.std.specs.Prelude.{◌≡◌, ℕ, ◌<◌, ◌≢◌, min, List, [], ◌∷◌, length, false, All, AllPairs}
use Rattle.std.specs.List.{IsFirstMaxByKey}
use Rattle.clover_words.specs.declared.word.Buffer.{Buffer}
use Rattle.clover_words.specs.Place.{IsBuffer}
use Rattle.clover_words.specs.Tag.{TagParts}
use Rattle.clover_alloc.specs.declared.line.Place.TheVariants.{Free, Out}
use Rattle.clover_alloc.specs.Lines.{line, count_in}
use Rattle.clover_alloc.specs.Ledger.{Ledger, book, with_line, count_of, buffer_of_tag, IsAt, Spent}

-- the tag that is due: of the memory node with the most free buffers, the first such one, its first free buffer, at its generation
pub record IsBalanced (books : Ledger) (t : TagParts) : Type 0 where
  pub node : IsFirstMaxByKey (count_in Free) books.nodes (length books.nodes) t.node
  pub free : IsAt Free books t
  pub first : (i : ℕ) → i < t.index → (book books (record { node = t.node; index = i })).place ≢ Free

-- the books once the tag was taken: its buffer is out
abbrev pub with_out : Ledger → TagParts → Ledger
with_out books t = record (with_line books (buffer_of_tag t) (line t.generation Out)) { fresh = false }

-- the tags were taken one after the other, each as it was due in the books that the ones before it left
abbrev pub Given : Ledger → List TagParts → Ledger → Type 0
Given before [] after = after ≡ before
Given before (t ∷ ts) after = IsBalanced before t × Given (with_out before t) ts after

-- so many tags were taken, or all that were free
pub record Takes (before : Ledger) (count : ℕ) (tags : List TagParts) (after : Ledger) : Type 0 where
  pub each : Given before tags after
  pub many : length tags ≡ min count (count_of Free before)

-- the tags' buffers were free at the tags' generations and are out there; each other buffer has the line that it had
pub record AreTaken (before : Ledger) (tags : List TagParts) (after : Ledger) : Type 0 where
  pub free : All (IsAt Free before) tags
  pub out : All (IsAt Out after) tags
  pub others : (b : Buffer) → All (λ t. b ≢ buffer_of_tag t) tags → book after b ≡ book before b

-- the tags are new ones: of buffers of the pool that differ, below the wear, not spent before and spent after
pub record AreNew (before : Ledger) (tags : List TagParts) (after : Ledger) : Type 0 where
  pub within : All (λ t. IsBuffer before.pool (buffer_of_tag t)) tags
  pub differ : AllPairs (λ t u. buffer_of_tag t ≢ buffer_of_tag u) tags
  pub serving : All (λ t. t.generation < before.pool.wear) tags
  pub unspent : All (λ t. Spent before t → ⊥) tags
  pub spent : All (Spent after) tags

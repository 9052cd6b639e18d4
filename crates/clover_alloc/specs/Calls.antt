-- What a sequence of calls may make of books, and that no tag is given twice.
use Rattle.std.specs.Prelude.{◌≡◌, ℕ, ◌+◌, ◌<◌, ◌≤◌, ◌≢◌, true, List, [], ◌∷◌, ◌++◌, All, AllPairs, nat_eq, if◌then◌else◌}
use Rattle.clover_words.specs.declared.pool.Pool.{Pool}
use Rattle.clover_words.specs.declared.word.Buffer.{Buffer}
use Rattle.clover_words.specs.Place.{IsBuffer}
use Rattle.clover_words.specs.Tag.{TagParts}
use Rattle.clover_alloc.specs.declared.line.Place.TheVariants.{Free, Worn, Bound, Out}
use Rattle.clover_alloc.specs.declared.line.Line.{Line}
use Rattle.clover_alloc.specs.Lines.{line}
use Rattle.clover_alloc.specs.Ledger.{Ledger, Moves, new_ledger, buffer_of_tag, IsAt, MayHave}
use Rattle.clover_alloc.specs.Taking.{Takes}

-- the line of a buffer that comes back: at the next generation, free, or worn at the wear
abbrev pub next_line : ℕ → ℕ → Line
next_line wear g = line (g + 1) (if nat_eq (g + 1) wear then Worn else Free)

-- a call that changes books, a taking with the tags that it gave
pub data BookCall : Type 0 where
  Taking : ℕ → List TagParts → BookCall
  Binding : TagParts → BookCall
  GivingBack : TagParts → BookCall
  Restoring : Buffer → Line → BookCall

-- the call may be made of the books, and leaves those
abbrev pub Makes : BookCall → Ledger → Ledger → Type 0
Makes (Taking count tags) before after = (count ≤ 64) × Takes before count tags after
Makes (Binding t) before after =
    IsAt Out before t
    × Moves before (buffer_of_tag t) (line t.generation Bound) after
Makes (GivingBack t) before after =
    IsAt Bound before t
    × Moves before (buffer_of_tag t) (next_line before.pool.wear t.generation) after
Makes (Restoring b l) before after =
    IsBuffer before.pool b × MayHave before.pool.wear l × (before.fresh ≡ true) × Moves before b l after

-- the calls, one after the other, lead from the one books to the other
abbrev pub Leads : Ledger → List BookCall → Ledger → Type 0
Leads before [] after = after ≡ before
Leads before (call ∷ calls) after = (between : Ledger) × Makes call before between × Leads between calls after

-- the tags that the calls gave, in order
abbrev pub given_by : List BookCall → List TagParts
given_by [] = []
given_by (Taking count tags ∷ calls) = tags ++ given_by calls
given_by (call ∷ calls) = given_by calls

-- Whatever calls are made of the books of a pool, no tag is given twice, and none at the wear.
abbrev pub NoTagTwiceLaw : Type 0
NoTagTwiceLaw =
    (pool : Pool) (calls : List BookCall) (after : Ledger) → Leads (new_ledger pool) calls after
    → AllPairs (λ t u. t ≢ u) (given_by calls) × All (λ t. t.generation < pool.wear) (given_by calls)

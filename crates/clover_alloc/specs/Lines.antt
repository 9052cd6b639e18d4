-- what the books say of a buffer, and how many lines of a list have a place
use Rattle.std.specs.Prelude.{ℕ, ◌+◌, Bool, true, false, List, count_by}
use Rattle.clover_alloc.specs.declared.line.Place.{Place}
use Rattle.clover_alloc.specs.declared.line.Place.TheVariants.{Free, Worn, Bound, Out}
use Rattle.clover_alloc.specs.declared.line.Line.{Line}
use Rattle.clover_alloc.specs.declared.line.Counts.{Counts}

-- a buffer's line: its generation and its place
abbrev pub line : ℕ → Place → Line
line g p = record { generation = g; place = p }

-- the two places are one
abbrev pub same_place : Place → Place → Bool
same_place Free Free = true
same_place Worn Worn = true
same_place Bound Bound = true
same_place Out Out = true
same_place p q = false

-- how many of the lines have the place
abbrev pub count_in : Place → List Line → ℕ
count_in p lines = count_by (λ l. same_place p l.place) lines

-- the number that is counted for the place
abbrev pub number_of : Place → Counts → ℕ
number_of Free counts = counts.free
number_of Worn counts = counts.worn
number_of Bound counts = counts.bound
number_of Out counts = counts.out

-- the sum of the counts
abbrev pub sum_of : Counts → ℕ
sum_of counts = counts.free + counts.worn + counts.bound + counts.out

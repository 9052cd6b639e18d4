-- For which items the lines of a script stand.
use Rattle.std.specs.Prelude.{◌≡◌, List, [], ◌∷◌, ◌++◌, ℕ, map}
use Rattle.clover_script.specs.declared.line.Line.{Line}
use Rattle.clover_script.specs.declared.line.Line.TheVariants as line
use Rattle.clover_run.specs.Lines.{CoversLine}
use Rattle.clover_run.specs.Record.{Record}
use Rattle.clover_sched.specs.Items.{Item, Happened, Loses, Shows, Loss, Present, present_after}

-- a line of an actor stands for the records for which it stands in its run, a cut for one loss, and a line that shows an image for one image
abbrev pub Means : Line → Present → List Item → Type 0
Means (line.Cut choice more) at items = (l : Loss) × (items ≡ Loses choice more l ∷ [])
Means (line.Image choice) at items = (image : List ℕ) × (items ≡ Shows choice image ∷ [])
Means asked at items = (rs : List Record) × (items ≡ map Happened rs) × CoversLine asked at.records rs

-- the lines, in order, stand for these items
abbrev pub CoversAll : List Line → Present → List Item → Type 0
CoversAll [] at items = items ≡ []
CoversAll (l ∷ ls) at items = (mine rest : List Item) × (items ≡ mine ++ rest) × Means l at mine × CoversAll ls (present_after at mine) rest

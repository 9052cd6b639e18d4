-- the refusals of a command: the status and the line of each, and what shows its cause
use Rattle.std.specs.Prelude.{◌≡◌, ℕ, List, ◌++◌, decimal, codes, Option}
use Rattle.clover_main.specs.declared.refusal.Refusal.{Refusal}
use Rattle.clover_main.specs.declared.refusal.Refusal.TheVariants.{BadLine, TooMuchInput, ReadFault, OutOfMemory, BadWords}
use Rattle.clover_port.specs.Told.{Rose}
use Rattle.clover_main.specs.Cuts.{IsTurnedDown}
use Rattle.clover_main.specs.Reading.{Reads, TakesMore}

abbrev pub status_of : Refusal → ℕ
status_of (BadLine n) = 1
status_of TooMuchInput = 1
status_of ReadFault = 2
status_of OutOfMemory = 4
status_of BadWords = 6

abbrev pub line_of : Refusal → List ℕ
line_of (BadLine n) = codes "error badline " ++ decimal n ++ codes " unbuilt\n"
line_of TooMuchInput = codes "error toomuch\n"
line_of ReadFault = codes "error read\n"
line_of OutOfMemory = codes "error memory\n"
line_of BadWords = codes "error badwords\n"

-- What a source left before and after, and its count of faults, show why its script was refused.
-- Want of memory shows only that no read failed. The words are tested before there is a script.
abbrev pub HasShown : Option (List ℕ) → Option (List ℕ) → ℕ → ℕ → Refusal → Type 0
HasShown left after faults now (BadLine n) = (text : List ℕ) × Reads left after text × IsTurnedDown text n
HasShown left after faults now TooMuchInput = TakesMore left after
HasShown left after faults now ReadFault = Rose faults now
HasShown left after faults now OutOfMemory = now ≡ faults
HasShown left after faults now BadWords = ⊥

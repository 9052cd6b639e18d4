-- what holds of every text: it is one line at most; and it is a script in one way at most, or refused at one line at most, and never both
use Rattle.std.specs.Prelude.{◌≡◌, ℕ, List, All}
use Rattle.clover_words.specs.declared.setup.Setup.{Setup}
use Rattle.clover_words.specs.declared.word.Word.{Word}
use Rattle.clover_words.specs.declared.word.Side.{Side}
use Rattle.clover_script.specs.declared.line.Line.{Line}
use Rattle.clover_script.specs.declared.choice.Choice.{Choice}
use Rattle.clover_script.specs.Text.{IsNumbered, copy_text}
use Rattle.clover_script.specs.Choice.{IsChoice, IsFurtherCut, cut_text}
use Rattle.clover_script.specs.Line.{numbers_of, IsPoolLine, Spoken, IsSpoken, line_text, IsLineOf, IsIgnored}
use Rattle.clover_script.specs.Lines.{IsLinesOf, IsRefusedLine}

-- Two lines with one text are one line.
abbrev pub OneLine : Type 0
OneLine = (a b : Spoken) → IsSpoken a → IsSpoken b → line_text a ≡ line_text b → a ≡ b

-- A text is kept as one line.
abbrev pub OneKept : Type 0
OneKept = (text : List ℕ) (line other : Line) → IsLineOf text line → IsLineOf text other → line ≡ other

-- A line behind the pool line is no pool line and is not passed over, and neither is a pool line.
abbrev pub LinesAreApart : Type 0
LinesAreApart = (text : List ℕ) → ((line : Line) → IsLineOf text line → (IsPoolLine text → ⊥) × (IsIgnored text → ⊥)) × (IsPoolLine text → IsIgnored text → ⊥)

-- A script has one setup and says one thing.
abbrev pub OneSaying : Type 0
OneSaying = (text : List ℕ) (s t : Setup) (said other : List Spoken) → IsLinesOf text s said → IsLinesOf text t other → (numbers_of s ≡ numbers_of t) × (said ≡ other)

-- No script is refused.
abbrev pub NoLinesAreRefused : Type 0
NoLinesAreRefused = (text : List ℕ) (s : Setup) (said : List Spoken) (n : ℕ) → IsLinesOf text s said → IsRefusedLine text n → ⊥

-- A text that is refused is refused at one line.
abbrev pub OneRefusedLine : Type 0
OneRefusedLine = (text : List ℕ) (n m : ℕ) → IsRefusedLine text n → IsRefusedLine text m → n ≡ m

-- A text is the name of one copy of one word.
abbrev pub OneName : Type 0
OneName = (v w : Word) (s t : Side) → IsNumbered v → IsNumbered w → copy_text v s ≡ copy_text w t → (v ≡ w) × (s ≡ t)

-- A text is one choice with one list of further cuts.
abbrev pub OneCut : Type 0
OneCut =
    (first other : Choice) (more others : List (ℕ × Choice)) → IsChoice first → IsChoice other → All IsFurtherCut more → All IsFurtherCut others
    → cut_text first more ≡ cut_text other others → (first ≡ other) × (more ≡ others)

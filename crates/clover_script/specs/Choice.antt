-- choices of copies at a power cut: which a line may make, and how they are written
use Rattle.std.specs.Prelude.{◌≡◌, ◌≢◌, ℕ, ◌^◌, ◌<◌, List, [], ◌∷◌, ◌++◌, decimal, codes, flat_map, All}
use Rattle.clover_words.specs.Place.{HasSide}
use Rattle.clover_words.specs.declared.word.Word.{Word}
use Rattle.clover_words.specs.declared.word.Side.TheVariants.{Flushed}
use Rattle.clover_script.specs.declared.choice.Choice.{Choice}
use Rattle.clover_script.specs.declared.choice.Choice.TheVariants.{Old, New, Mix, Pick}
use Rattle.clover_script.specs.declared.spelled_choice.ChoiceText.{ChoiceText}
use Rattle.clover_script.specs.declared.spelled_choice.ChoiceText.TheVariants as spelled
use Rattle.clover_script.specs.declared.spelled_choice.CutText.{CutText}
use Rattle.clover_script.specs.Text.{IsNumbered, word_text}

-- a durable word as a line may name it, whether or not a pool has it: one with a flushed copy
abbrev pub IsNamed : Word → Type 0
IsNamed w = HasSide w Flushed × IsNumbered w

-- one or more words that a line may name
abbrev pub AreNamed : List Word → Type 0
AreNamed words = (words ≢ []) × All IsNamed words

-- the name of a word that is not the first of several
abbrev pub further_name : Word → List ℕ
further_name w = codes "," ++ word_text w

-- the names of words, with a comma between each two
abbrev pub names_text : List Word → List ℕ
names_text [] = []
names_text (w ∷ more) = word_text w ++ flat_map further_name more

-- a choice that a line may make
abbrev pub IsChoice : Choice → Type 0
IsChoice Old = Unit {0}
IsChoice New = Unit {0}
IsChoice (Mix seed) = seed < 2 ^ 64
IsChoice (Pick words) = AreNamed words

-- the text of a choice
abbrev pub choice_text : Choice → List ℕ
choice_text Old = codes "old"
choice_text New = codes "new"
choice_text (Mix seed) = codes "mix:" ++ decimal seed
choice_text (Pick words) = codes "pick:" ++ names_text words

-- a further cut that a line may ask for: after this many stores, with this choice
abbrev pub IsFurtherCut : ℕ × Choice → Type 0
IsFurtherCut cut = (cut.0 < 2 ^ 64) × IsChoice cut.1

-- the text of a further cut
abbrev pub further_cut : ℕ × Choice → List ℕ
further_cut cut = codes " at " ++ (decimal cut.0 ++ (codes " " ++ choice_text cut.1))

-- the text of a choice and any number of further cuts
abbrev pub cut_text : Choice → List (ℕ × Choice) → List ℕ
cut_text first more = choice_text first ++ flat_map further_cut more

-- the parts are those of the choice
abbrev pub HasChoice : ChoiceText → Choice → Type 0
HasChoice spelled.Old choice = choice ≡ Old
HasChoice spelled.New choice = choice ≡ New
HasChoice (spelled.Mix seed) choice = choice ≡ Mix seed
HasChoice (spelled.Pick names) choice = (words : List Word) × (choice ≡ Pick words) × (names.now ≡ names_text words)

-- the parts are those of the choice and the further cuts
abbrev pub HasCuts : CutText → Choice → List (ℕ × Choice) → Type 0
HasCuts parts first more = HasChoice parts.first first × (parts.more.now ≡ flat_map further_cut more)

-- the text spells a choice, which has these parts
abbrev pub SpellsChoice : List ℕ → ChoiceText → Type 0
SpellsChoice text parts = (choice : Choice) × IsChoice choice × HasChoice parts choice × (text ≡ choice_text choice)

-- the text spells no choice
abbrev pub SpellsNoChoice : List ℕ → Type 0
SpellsNoChoice text = (choice : Choice) → IsChoice choice → text ≡ choice_text choice → ⊥

-- the text spells a choice and further cuts, which have these parts
abbrev pub SpellsCut : List ℕ → CutText → Type 0
SpellsCut text parts =
    (first : Choice) × (more : List (ℕ × Choice)) × IsChoice first × All IsFurtherCut more × HasCuts parts first more × (text ≡ cut_text first more)

-- the text spells no choice with further cuts
abbrev pub SpellsNoCut : List ℕ → Type 0
SpellsNoCut text = (first : Choice) (more : List (ℕ × Choice)) → IsChoice first → All IsFurtherCut more → text ≡ cut_text first more → ⊥

-- That an access is a step: on its word, with its operands.
use Rattle.std.specs.Prelude.{◌≡◌, ℕ}
use Rattle.clover_words.specs.declared.word.Word.{Word}
use Rattle.clover_words.specs.declared.word.Side.{Side}
use Rattle.clover_rule.specs.Steps.{Step, act_of}
use Rattle.clover_rule.specs.declared.access.Act.TheVariants.{Load, Store, Exchange, Raise}

-- the step loads this word
abbrev pub IsLoad : Step → Word → Type 0
IsLoad a w = (x : ℕ) → act_of a x ≡ Load w x

-- the step stores this number to this copy
abbrev pub IsStore : Step → Word → Side → ℕ → Type 0
IsStore a w side value = (x : ℕ) → act_of a x ≡ Store w side value

-- the step is this exchange, whatever it found
abbrev pub IsExchange : Step → Word → ℕ → ℕ → Type 0
IsExchange a w expected new = (x : ℕ) → act_of a x ≡ Exchange w expected new x

-- the step is this raise, whatever it found
abbrev pub IsRaise : Step → Word → ℕ → Type 0
IsRaise a w value = (x : ℕ) → act_of a x ≡ Raise w value x

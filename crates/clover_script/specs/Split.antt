-- how a text is cut: at a byte, and behind a number
use Rattle.std.specs.Prelude.{◌≡◌, ◌≢◌, ℕ, ◌≤◌, List, [], ◌∷◌}
use Rattle.std.specs.List.{AllByRecursion}

-- the byte stands nowhere in the text
abbrev pub Lacks : ℕ → List ℕ → Type 0
Lacks b text = AllByRecursion (λ x. x ≢ b) text

-- the byte is a decimal digit
abbrev pub IsDigit : ℕ → Type 0
IsDigit b = (48 ≤ b) × (b ≤ 57)

-- every byte is a decimal digit
abbrev pub AreDigits : List ℕ → Type 0
AreDigits text = AllByRecursion IsDigit text

-- no digit stands at the front
abbrev pub EndsNumber : List ℕ → Type 0
EndsNumber [] = Unit {0}
EndsNumber (b ∷ bs) = IsDigit b → ⊥

-- nothing of the word goes on: the text is empty, or begins with a space
abbrev pub EndsWord : List ℕ → Type 0
EndsWord [] = Unit {0}
EndsWord (b ∷ bs) = b ≡ 32

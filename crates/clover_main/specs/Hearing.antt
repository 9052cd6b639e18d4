-- the lines that a text says
use Rattle.std.specs.Prelude.{◌≡◌, ◌⊎◌, ℕ, List, [], ◌∷◌}
use Rattle.clover_script.specs.Line.{IsLineOf, IsNoLine}
use Rattle.clover_script.specs.declared.line.Line.{Line}

-- the texts say these lines, where those that say nothing are passed over
abbrev pub Heard : List (List ℕ) → List Line → Type 0
Heard [] lines = lines ≡ []
Heard (text ∷ texts) lines =
    (IsNoLine text × Heard texts lines)
    ⊎ ((first : Line) × (rest : List Line) × IsLineOf text first × (lines ≡ first ∷ rest) × Heard texts rest)

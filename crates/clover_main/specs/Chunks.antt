-- Texts that are put piece by piece.
use Rattle.std.specs.Prelude.{ℕ, List, ◌++◌, flat_map, decimal, codes}
use Rattle.std.specs.Borrow.{Bor}

-- the pieces, one behind the other
abbrev pub joined : List (Bor (List ℕ)) → List ℕ
joined pieces = flat_map (λ p. p.now) pieces

-- the numbers of a line of power cuts
abbrev pub numbers_line : ℕ → ℕ → ℕ → ℕ → List ℕ
numbers_line keys free worn missing = codes "cut keys " ++ (decimal keys ++ (codes " free " ++ (decimal free ++ (codes " worn " ++ (decimal worn ++ (codes " missing " ++ (decimal missing ++ codes "\n")))))))

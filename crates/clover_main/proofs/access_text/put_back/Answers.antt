use Rattle.std.proofs.Common.{List, ℕ, ◌++◌, codes, ap}
use Rattle.clover_main.proofs.Printing.{same_said, same_fails}
use Rattle.clover_main.proofs.access_text.put_back.Goals as goal

pub returns-clause-ok : goal.returns-clause-ok
returns-clause-ok g c =
    same_said c.add_all.result _ _ _ _ _ _ (ap (λ (h : List ℕ). codes " = " ++ (h ++ codes "\n")) c.hex_digits.ensures) c.add_all.ensures.ok

pub returns-clause-err : goal.returns-clause-err
returns-clause-err g c =
    same_fails c.add_all.result _ _ _ _ _ (ap (λ (h : List ℕ). codes " = " ++ (h ++ codes "\n")) c.hex_digits.ensures) c.add_all.ensures.err

use Rattle.std.proofs.Common.{◌++◌, codes, ◌∙◌}
use Rattle.clover_main.proofs.Printing.{same_said, same_fails}
use Rattle.clover_main.proofs.access_text.put_numbers_line.Goals as goal

pub returns-clause-ok : goal.returns-clause-ok
returns-clause-ok g c =
    let keys = c.as_bytes.ensures.value ∙ c.format.ensures.text in
    let free = c.as_bytes-2.ensures.value ∙ c.format-2.ensures.text in
    let worn = c.as_bytes-3.ensures.value ∙ c.format-3.ensures.text in
    let missing = c.as_bytes-4.ensures.value ∙ c.format-4.ensures.text in
    same_said c.add_all.result _ _ _ _ _ _ (λ k. codes "cut keys " ++ (keys k ++ (codes " free " ++ (free k ++ (codes " worn " ++ (worn k ++ (codes " missing " ++ (missing k ++ codes "\n")))))))) c.add_all.ensures.ok

pub returns-clause-err : goal.returns-clause-err
returns-clause-err g c =
    let keys = c.as_bytes.ensures.value ∙ c.format.ensures.text in
    let free = c.as_bytes-2.ensures.value ∙ c.format-2.ensures.text in
    let worn = c.as_bytes-3.ensures.value ∙ c.format-3.ensures.text in
    let missing = c.as_bytes-4.ensures.value ∙ c.format-4.ensures.text in
    same_fails c.add_all.result _ _ _ _ _ (λ k. codes "cut keys " ++ (keys k ++ (codes " free " ++ (free k ++ (codes " worn " ++ (worn k ++ (codes " missing " ++ (missing k ++ codes "\n")))))))) c.add_all.ensures.err

use Rattle.std.proofs.Common.{◌++◌, codes, ◌∙◌}
use Rattle.clover_main.proofs.Printing.{same_said, same_fails}
use Rattle.clover_main.proofs.image_text.put_head.Goals as goal

pub returns-clause-ok : goal.returns-clause-ok
returns-clause-ok g c =
    let nodes = c.as_bytes.ensures.value ∙ c.format.ensures.text in
    let buffers = c.as_bytes-2.ensures.value ∙ c.format-2.ensures.text in
    let slots = c.as_bytes-3.ensures.value ∙ c.format-3.ensures.text in
    let words = c.as_bytes-4.ensures.value ∙ c.format-4.ensures.text in
    let wear = c.as_bytes-5.ensures.value ∙ c.format-5.ensures.text in
    same_said c.add_all.result _ _ _ _ _ _ (λ k. codes "clover image 1\npool nodes=" ++ (nodes k ++ (codes " buffers=" ++ (buffers k ++ (codes " slots=" ++ (slots k ++ (codes " words=" ++ (words k ++ (codes " wear=" ++ (wear k ++ codes "\n")))))))))) c.add_all.ensures.ok

pub returns-clause-err : goal.returns-clause-err
returns-clause-err g c =
    let nodes = c.as_bytes.ensures.value ∙ c.format.ensures.text in
    let buffers = c.as_bytes-2.ensures.value ∙ c.format-2.ensures.text in
    let slots = c.as_bytes-3.ensures.value ∙ c.format-3.ensures.text in
    let words = c.as_bytes-4.ensures.value ∙ c.format-4.ensures.text in
    let wear = c.as_bytes-5.ensures.value ∙ c.format-5.ensures.text in
    same_fails c.add_all.result _ _ _ _ _ (λ k. codes "clover image 1\npool nodes=" ++ (nodes k ++ (codes " buffers=" ++ (buffers k ++ (codes " slots=" ++ (slots k ++ (codes " words=" ++ (words k ++ (codes " wear=" ++ (wear k ++ codes "\n")))))))))) c.add_all.ensures.err

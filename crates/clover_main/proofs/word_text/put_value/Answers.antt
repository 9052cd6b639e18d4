use Rattle.std.proofs.Common.{List, ℕ, [], ◌++◌, ◌≡◌, codes, ap, sym, ◌∙◌, append-nil, append_assoc}
use Rattle.clover_main.proofs.Printing.{same_said, same_fails}
use Rattle.clover_main.proofs.word_text.put_value.Goals as goal

-- the pieces are the name
value_pieces : (front side node index number : List ℕ) → front ++ (side ++ (codes "V" ++ (node ++ (codes "." ++ (index ++ (codes "." ++ (number ++ []))))))) ≡ front ++ (side ++ (codes "V" ++ ((node ++ (codes "." ++ index)) ++ (codes "." ++ number))))
value_pieces front side node index number =
    ap (λ l. front ++ (side ++ (codes "V" ++ l))) (ap (λ l. node ++ (codes "." ++ (index ++ (codes "." ++ l)))) (append-nil number) ∙ sym (append_assoc node (codes "." ++ index) (codes "." ++ number)))

pub returns-clause-ok : goal.returns-clause-ok
returns-clause-ok g c =
    let node = c.as_bytes-node.ensures.value ∙ c.format.ensures.text in
    let index = c.as_bytes-index.ensures.value ∙ c.format-2.ensures.text in
    let number = c.as_bytes-digits.ensures.value ∙ c.format-3.ensures.text in
    same_said c.add_all.result _ _ _ _ _ _ (value_pieces c.args.front.now c.args.side.now _ _ _ ∙ (λ k. c.args.front.now ++ (c.args.side.now ++ (codes "V" ++ ((node k ++ (codes "." ++ index k)) ++ (codes "." ++ number k)))))) c.add_all.ensures.ok

pub returns-clause-err : goal.returns-clause-err
returns-clause-err g c =
    let node = c.as_bytes-node.ensures.value ∙ c.format.ensures.text in
    let index = c.as_bytes-index.ensures.value ∙ c.format-2.ensures.text in
    let number = c.as_bytes-digits.ensures.value ∙ c.format-3.ensures.text in
    same_fails c.add_all.result _ _ _ _ _ (value_pieces c.args.front.now c.args.side.now _ _ _ ∙ (λ k. c.args.front.now ++ (c.args.side.now ++ (codes "V" ++ ((node k ++ (codes "." ++ index k)) ++ (codes "." ++ number k)))))) c.add_all.ensures.err

use Rattle.std.proofs.Common.{List, ℕ, ◌++◌, codes, refl, ◌∙◌, append-nil}
use Rattle.std.proofs.lemmas.Result.{err_from_is_err_and}
use Rattle.clover_words.specs.declared.word.Side.TheVariants.{Current}
use Rattle.clover_script.specs.Text.{copy_text, hex_text}
use Rattle.clover_event.specs.Text.{operand_text}
use Rattle.clover_main.proofs.Printing.{same_said, same_fails, first_fails, then_said, then_fails}
use Rattle.clover_main.proofs.access_text.put_exchange.Goals as goal

pub returns-in_err-put_word-clause-err : goal.returns-in_err-put_word-clause-err
returns-in_err-put_word-clause-err g c =
    let x : List ℕ = codes "exchange " ++ copy_text c.args.word Current in
    let y : List ℕ = operand_text c.args.expected ++ operand_text c.args.new in
    let p = err_from_is_err_and c.from_residual.result c.from_residual.ensures.1 in
    rw p.1 (first_fails _ _ _ x y _ (refl {a = codes "exchange " ++ (copy_text c.args.word Current ++ (operand_text c.args.expected ++ operand_text c.args.new))}) c.in_err-put_word.ensures.err)

pub returns-clause-ok : goal.returns-clause-ok
returns-clause-ok g c =
    let x : List ℕ = codes "exchange " ++ copy_text c.args.word Current in
    let y : List ℕ = operand_text c.args.expected ++ operand_text c.args.new in
    then_said c.add_all.result _ _ _ _ _ _ x y _ (refl {a = codes "exchange " ++ (copy_text c.args.word Current ++ (operand_text c.args.expected ++ operand_text c.args.new))}) c.in_ok-put_word.ensures.ok (same_said c.add_all.result _ _ _ _ _ _ ((λ k. codes " " ++ (c.hex_digits.ensures k ++ (codes " " ++ append-nil (c.hex_digits-2.result) k))) ∙ (λ k. codes " " ++ (hex_text c.args.expected ++ (codes " " ++ c.hex_digits-2.ensures k)))) c.add_all.ensures.ok)

pub returns-clause-err : goal.returns-clause-err
returns-clause-err g c =
    let x : List ℕ = codes "exchange " ++ copy_text c.args.word Current in
    let y : List ℕ = operand_text c.args.expected ++ operand_text c.args.new in
    then_fails c.add_all.result _ _ _ _ _ x y _ (refl {a = codes "exchange " ++ (copy_text c.args.word Current ++ (operand_text c.args.expected ++ operand_text c.args.new))}) c.in_ok-put_word.ensures.ok (same_fails c.add_all.result _ _ _ _ _ ((λ k. codes " " ++ (c.hex_digits.ensures k ++ (codes " " ++ append-nil (c.hex_digits-2.result) k))) ∙ (λ k. codes " " ++ (hex_text c.args.expected ++ (codes " " ++ c.hex_digits-2.ensures k)))) c.add_all.ensures.err)

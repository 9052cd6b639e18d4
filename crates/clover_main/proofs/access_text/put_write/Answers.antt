use Rattle.std.proofs.Common.{List, ℕ, ◌++◌, codes, ap, sym, ◌∙◌, append-nil, append_assoc}
use Rattle.std.proofs.lemmas.Result.{err_from_is_err_and}
use Rattle.clover_script.specs.Text.{copy_text}
use Rattle.clover_event.specs.Text.{operand_text}
use Rattle.clover_main.proofs.Printing.{same_said, same_fails, first_fails, then_said, then_fails}
use Rattle.clover_main.proofs.access_text.put_write.Goals as goal

pub returns-in_err-put_word-clause-err : goal.returns-in_err-put_word-clause-err
returns-in_err-put_word-clause-err g c =
    let x : List ℕ = c.args.front.now ++ copy_text c.args.word c.args.side in
    let y : List ℕ = operand_text c.args.value in
    let p = err_from_is_err_and c.from_residual.result c.from_residual.ensures.1 in
    rw p.1 (first_fails _ _ _ x y _ (sym (append_assoc c.args.front.now (copy_text c.args.word c.args.side) (operand_text c.args.value))) c.in_err-put_word.ensures.err)

pub returns-clause-ok : goal.returns-clause-ok
returns-clause-ok g c =
    let x : List ℕ = c.args.front.now ++ copy_text c.args.word c.args.side in
    let y : List ℕ = operand_text c.args.value in
    then_said c.add_all.result _ _ _ _ _ _ x y _ (sym (append_assoc c.args.front.now (copy_text c.args.word c.args.side) (operand_text c.args.value))) c.in_ok-put_word.ensures.ok (same_said c.add_all.result _ _ _ _ _ _ (ap (λ (h : List ℕ). codes " " ++ h) (append-nil _ ∙ c.hex_digits.ensures)) c.add_all.ensures.ok)

pub returns-clause-err : goal.returns-clause-err
returns-clause-err g c =
    let x : List ℕ = c.args.front.now ++ copy_text c.args.word c.args.side in
    let y : List ℕ = operand_text c.args.value in
    then_fails c.add_all.result _ _ _ _ _ x y _ (sym (append_assoc c.args.front.now (copy_text c.args.word c.args.side) (operand_text c.args.value))) c.in_ok-put_word.ensures.ok (same_fails c.add_all.result _ _ _ _ _ (ap (λ (h : List ℕ). codes " " ++ h) (append-nil _ ∙ c.hex_digits.ensures)) c.add_all.ensures.err)

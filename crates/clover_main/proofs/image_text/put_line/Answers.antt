use Rattle.std.proofs.Common.{List, ℕ, ◌++◌, codes, ap}
use Rattle.std.proofs.lemmas.Result.{err_from_is_err_and}
use Rattle.clover_script.specs.Text.{word_text, hex_text}
use Rattle.clover_main.proofs.ImageLines.{line_is}
use Rattle.clover_main.proofs.Printing.{same_said, same_fails, first_fails, then_said, then_fails}
use Rattle.clover_main.proofs.image_text.put_line.Goals as goal

pub returns-in_err-put_word-clause-err : goal.returns-in_err-put_word-clause-err
returns-in_err-put_word-clause-err g c =
    let x : List ℕ = word_text c.args.word in
    let y : List ℕ = codes " " ++ (hex_text c.args.number ++ codes "\n") in
    let p = err_from_is_err_and c.from_residual.result c.from_residual.ensures.1 in
    rw p.1 (first_fails _ _ _ x y _ (line_is c.args.word c.args.number c.requires) c.in_err-put_word.ensures.err)

pub returns-clause-ok : goal.returns-clause-ok
returns-clause-ok g c =
    let x : List ℕ = word_text c.args.word in
    let y : List ℕ = codes " " ++ (hex_text c.args.number ++ codes "\n") in
    then_said c.add_all.result _ _ _ _ _ _ x y _ (line_is c.args.word c.args.number c.requires) c.in_ok-put_word.ensures.ok (same_said c.add_all.result _ _ _ _ _ _ (ap (λ (h : List ℕ). codes " " ++ (h ++ codes "\n")) c.hex_digits.ensures) c.add_all.ensures.ok)

pub returns-clause-err : goal.returns-clause-err
returns-clause-err g c =
    let x : List ℕ = word_text c.args.word in
    let y : List ℕ = codes " " ++ (hex_text c.args.number ++ codes "\n") in
    then_fails c.add_all.result _ _ _ _ _ x y _ (line_is c.args.word c.args.number c.requires) c.in_ok-put_word.ensures.ok (same_fails c.add_all.result _ _ _ _ _ (ap (λ (h : List ℕ). codes " " ++ (h ++ codes "\n")) c.hex_digits.ensures) c.add_all.ensures.err)

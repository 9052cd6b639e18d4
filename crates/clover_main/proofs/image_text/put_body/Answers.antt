use Rattle.std.proofs.Common.{List, ℕ, codes, refl}
use Rattle.std.proofs.lemmas.Result.{err_from_is_err_and}
use Rattle.clover_image.specs.Text.{word_lines}
use Rattle.clover_main.proofs.Printing.{first_fails, then_said, then_fails}
use Rattle.clover_main.proofs.image_text.put_body.Goals as goal

pub returns-in_err-put_words-clause-err : goal.returns-in_err-put_words-clause-err
returns-in_err-put_words-clause-err g c =
    let x : List ℕ = word_lines c.args.image.now.pool 0 c.args.image.now.words in
    let y : List ℕ = codes "end\n" in
    let p = err_from_is_err_and c.from_residual.result c.from_residual.ensures.1 in
    rw p.1 (first_fails _ _ _ x y _ (refl) c.in_err-put_words.ensures.err)

pub returns-clause-ok : goal.returns-clause-ok
returns-clause-ok g c =
    let x : List ℕ = word_lines c.args.image.now.pool 0 c.args.image.now.words in
    let y : List ℕ = codes "end\n" in
    then_said c.add.result _ _ _ _ _ _ x y _ (refl) c.in_ok-put_words.ensures.ok c.add.ensures.ok

pub returns-clause-err : goal.returns-clause-err
returns-clause-err g c =
    let x : List ℕ = word_lines c.args.image.now.pool 0 c.args.image.now.words in
    let y : List ℕ = codes "end\n" in
    then_fails c.add.result _ _ _ _ _ x y _ (refl) c.in_ok-put_words.ensures.ok c.add.ensures.err

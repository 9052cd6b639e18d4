use Rattle.std.proofs.Common.{List, ℕ, ◌++◌, codes, ap, sym}
use Rattle.std.proofs.lemmas.Result.{err_from_is_err_and}
use Rattle.clover_words.specs.declared.pool.Pool.{Pool}
use Rattle.clover_image.specs.Text.{pool_text, word_lines}
use Rattle.clover_main.proofs.Printing.{first_fails, then_said, then_fails}
use Rattle.clover_main.proofs.image_text.put_image_text.Goals as goal

pub returns-in_err-put_head-clause-err : goal.returns-in_err-put_head-clause-err
returns-in_err-put_head-clause-err g c =
    let x : List ℕ = codes "clover image 1\n" ++ pool_text c.pool.result in
    let y : List ℕ = word_lines c.args.image.now.pool 0 c.args.image.now.words ++ codes "end\n" in
    let p = err_from_is_err_and c.from_residual.result c.from_residual.ensures.1 in
    rw p.1 (first_fails _ _ _ x y _ (ap (λ (p : Pool). codes "clover image 1\n" ++ (pool_text p ++ (word_lines c.args.image.now.pool 0 c.args.image.now.words ++ codes "end\n"))) (sym c.pool.ensures)) c.in_err-put_head.ensures.err)

pub returns-clause-ok : goal.returns-clause-ok
returns-clause-ok g c =
    let x : List ℕ = codes "clover image 1\n" ++ pool_text c.pool.result in
    let y : List ℕ = word_lines c.args.image.now.pool 0 c.args.image.now.words ++ codes "end\n" in
    then_said c.put_body.result _ _ _ _ _ _ x y _ (ap (λ (p : Pool). codes "clover image 1\n" ++ (pool_text p ++ (word_lines c.args.image.now.pool 0 c.args.image.now.words ++ codes "end\n"))) (sym c.pool.ensures)) c.in_ok-put_head.ensures.ok c.put_body.ensures.ok

pub returns-clause-err : goal.returns-clause-err
returns-clause-err g c =
    let x : List ℕ = codes "clover image 1\n" ++ pool_text c.pool.result in
    let y : List ℕ = word_lines c.args.image.now.pool 0 c.args.image.now.words ++ codes "end\n" in
    then_fails c.put_body.result _ _ _ _ _ x y _ (ap (λ (p : Pool). codes "clover image 1\n" ++ (pool_text p ++ (word_lines c.args.image.now.pool 0 c.args.image.now.words ++ codes "end\n"))) (sym c.pool.ensures)) c.in_ok-put_head.ensures.ok c.put_body.ensures.err

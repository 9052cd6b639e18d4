use Rattle.std.proofs.Common.{◌≡◌, ◌+◌, ◌<◌, ◌++◌, List, ℕ, length, get_or, take, drop, ap, sym, subst, ◌∙◌}
use Rattle.std.proofs.lemmas.Result.{err_from_is_err_and}
use Rattle.clover_image.specs.Text.{word_there, word_line, word_lines}
use Rattle.clover_main.proofs.Printing.{both_said, between_fails}
use Rattle.clover_main.proofs.ImageLines.{lines_more, lines_around}
use Rattle.clover_main.proofs.image_text.put_words.Goals as goal

pub loop-number-preserved : goal.loop-number-preserved
loop-number-preserved g c =
    let p = c.args.image.now.pool in
    let ws = c.args.image.now.words in
    let i = c.loop-number.number-index in
    let inside : i < length ws = subst (λ (l : List ℕ). i < length l) c.words-number-items.ensures.value c.loop-number-test.true in
    let line : word_line (word_there c.pool-pool.result c.loop-number.address) (get_or c.words-number-items.result.now i 0) ≡ word_line (word_there p i) (get_or ws i 0) =
    (λ k. word_line (word_there (c.pool-pool.ensures k) (c.loop-number.invariant.at k)) (get_or (c.words-number-items.ensures.value k) i 0)) in
    record {
      at = ap (λ (n : ℕ). n + 1) c.loop-number.invariant.at;
      says = both_said _ _ _ _ _ _ _ _ _ (lines_more p ws i inside ∙ ap (λ l. word_lines p 0 (take i ws) ++ l) (sym line)) c.loop-number.invariant.says c.in_ok-put_number.ensures.ok;
      quiet = c.in_ok-put_number.ensures.cause.kept ∙ c.loop-number.invariant.quiet;
    }

pub returns-in_err-put_number-clause-err : goal.returns-in_err-put_number-clause-err
returns-in_err-put_number-clause-err g c =
    let p = c.args.image.now.pool in
    let ws = c.args.image.now.words in
    let i = c.loop-number.number-index in
    let inside : i < length ws = subst (λ (l : List ℕ). i < length l) c.words-number-items.ensures.value c.loop-number-test.true in
    let line : word_line (word_there c.pool-pool.result c.loop-number.address) (get_or c.words-number-items.result.now i 0) ≡ word_line (word_there p i) (get_or ws i 0) =
    (λ k. word_line (word_there (c.pool-pool.ensures k) (c.loop-number.invariant.at k)) (get_or (c.words-number-items.ensures.value k) i 0)) in
    let e = err_from_is_err_and c.from_residual.result c.from_residual.ensures.1 in
    rw e.1 (between_fails _ _ _ _ _ _ _ _ _ (lines_around p ws i inside ∙ ap (λ l. (word_lines p 0 (take i ws) ++ l) ++ word_lines p (0 + length (take (i + 1) ws)) (drop (i + 1) ws)) (sym line)) c.loop-number.invariant.says c.in_err-put_number.ensures.err)

use Rattle.std.proofs.Common.{Bor, List, ℕ, ◌∙◌}
use Rattle.std.proofs.lemmas.Result.{err_from_is_err_and}
use Rattle.clover_main.proofs.Printing.{both_said, between_fails, flat_map-more, flat_map-around}
use Rattle.clover_main.proofs.chunk.Chunk.add_all.Goals as goal

pub loop-piece-preserved : goal.loop-piece-preserved
loop-piece-preserved g c =
    let more = flat_map-more (λ (p : Bor (List ℕ)). p.now) c.args.pieces.now c.loop-piece.piece-index _ c.loop-piece-test.true in record {
      says = both_said _ _ _ _ _ _ _ _ _ more c.loop-piece.invariant.says c.in_ok-add.ensures.ok;
      quiet = c.in_ok-add.ensures.cause.kept ∙ c.loop-piece.invariant.quiet;
    }

pub returns-in_err-add-clause-err : goal.returns-in_err-add-clause-err
returns-in_err-add-clause-err g c =
    let around = flat_map-around (λ (p : Bor (List ℕ)). p.now) c.args.pieces.now c.loop-piece.piece-index _ c.loop-piece-test.true in
    let p = err_from_is_err_and c.from_residual.result c.from_residual.ensures.1 in
    rw p.1 (between_fails _ _ _ _ _ _ _ _ _ around c.loop-piece.invariant.says c.in_err-add.ensures.err)

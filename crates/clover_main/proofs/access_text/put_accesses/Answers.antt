use Rattle.std.proofs.Common.{◌∙◌}
use Rattle.std.proofs.lemmas.Result.{err_from_is_err_and}
use Rattle.clover_event.specs.Text.{access_line}
use Rattle.clover_main.proofs.Printing.{both_said, between_fails, flat_map-more, flat_map-around}
use Rattle.clover_main.proofs.access_text.put_accesses.Goals as goal

pub loop-access-preserved : goal.loop-access-preserved
loop-access-preserved g c =
    let more = flat_map-more access_line c.args.accesses.now c.loop-access.access-index _ c.loop-access-test.true in record {
      says = both_said _ _ _ _ _ _ _ _ _ more c.loop-access.invariant.says c.in_ok-put_access.ensures.ok;
      quiet = c.in_ok-put_access.ensures.cause.kept ∙ c.loop-access.invariant.quiet;
    }

pub returns-in_err-put_access-clause-err : goal.returns-in_err-put_access-clause-err
returns-in_err-put_access-clause-err g c =
    let around = flat_map-around access_line c.args.accesses.now c.loop-access.access-index _ c.loop-access-test.true in
    let p = err_from_is_err_and c.from_residual.result c.from_residual.ensures.1 in
    rw p.1 (between_fails _ _ _ _ _ _ _ _ _ around c.loop-access.invariant.says c.in_err-put_access.ensures.err)

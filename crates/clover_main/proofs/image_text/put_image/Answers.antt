use Rattle.std.proofs.lemmas.Result.{on_ok_weaker, on_err_weaker}
use Rattle.clover_main.proofs.Printing.{whole_said, whole_fails}
use Rattle.clover_main.proofs.image_text.put_image.Goals as goal

pub returns-clause-ok : goal.returns-clause-ok
returns-clause-ok g c = on_ok_weaker c.flush.result (whole_said _ _ _ _ _ _ c.new-chunk.ensures c.in_ok-put_image_text.ensures.ok) c.flush.ensures.ok

pub returns-clause-err : goal.returns-clause-err
returns-clause-err g c = on_err_weaker c.flush.result (whole_fails _ _ _ _ _ _ c.new-chunk.ensures c.in_ok-put_image_text.ensures.ok) c.flush.ensures.err

use Rattle.std.proofs.Common.{◌≡◌, [], ℕ, ap, ◌∙◌}
use Rattle.std.proofs.lemmas.Result.{on_ok_weaker, on_err_weaker, err_from_is_err_and}
use Rattle.arrayvec.specs.ArrayVec.{ArrayVec}
use Rattle.clover_main.proofs.Printing.{said_through}
use Rattle.clover_main.proofs.Puts.{front_of_first, front_of_second}
use Rattle.clover_main.proofs.chunk.Chunk.add_behind.Goals as goal

pub returns-in_err-flush-clause-err : goal.returns-in_err-flush-clause-err
returns-in_err-flush-clause-err g c =
    let p = err_from_is_err_and c.from_residual.result c.from_residual.ensures.1 in
    rw p.1 (front_of_first _ _ c.args.self.now c.args.piece.now c.in_err-flush.ensures.err)

pub returns-clause-ok : goal.returns-clause-ok
returns-clause-ok g c =
    let empty : c.try_extend_from_slice.new.self.items ≡ [] = ap (λ (v : ArrayVec ℕ). v.items) c.in_default.ensures.err ∙ c.self.view_is ∙ c.in_ok-flush.ensures.empty in
    rw empty (on_ok_weaker c.put.result (said_through _ _ _ c.args.self.now c.args.piece.now c.in_ok-flush.ensures.ok) c.put.ensures.ok)

pub returns-clause-err : goal.returns-clause-err
returns-clause-err g c =
    on_err_weaker c.put.result (front_of_second _ _ _ c.args.self.now c.args.piece.now c.in_ok-flush.ensures.ok) c.put.ensures.err

use Rattle.std.proofs.Common.{◌∙◌, sym, ap, arith, length}
use Rattle.std.proofs.lemmas.Grind.{common_steps}
use Rattle.clover_script.proofs.CodedLemmas.{one_text}
use Rattle.clover_script.proofs.task.key_of.Goals.{in_default-via-then-branch-lt1, in_default-via-else-branch-lt1+else-this-lt251}
use Rattle.clover_script.proofs.task.key_of.Goals as goal

pub returns-in_default-clause-none : goal.returns-in_default-clause-none
returns-in_default-clause-none c k is e =
    let spelled = c.in_ok-length.ensures.found in
    let same = one_text spelled.0 k spelled.1 is.2 (sym spelled.2 ∙ e) in
    let size = ap length same in
    elim c.in_default.branch [
      | in_default-via-then-branch-lt1 w ↦ grind (arith, common_steps)
      | in_default-via-else-branch-lt1+else-this-lt251 w ↦ grind (arith, common_steps)
    ]

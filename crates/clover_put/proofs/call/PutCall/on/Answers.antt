use Rattle.std.proofs.Common.{refl, sym, subst}
use Rattle.clover_put.specs.Finding.{AnswersFrom, PutAnswers}
use Rattle.clover_put.specs.Kept.{meaning}
use Rattle.clover_put.specs.Putting.{Putting}
use Rattle.clover_put.specs.Standing.{standing}
use Rattle.clover_put.specs.declared.stage.Stage.{Stage}
use Rattle.clover_put.proofs.call.PutCall.on.Goals as goal

pub returns-in-AtShort-clause-answers : goal.returns-in-AtShort-clause-answers
returns-in-AtShort-clause-answers c =
    let i = c.self.inside in
    subst (λ (n : Putting). PutAnswers n c.args.found c.done_turn.result) c.self.view_is
    (subst (λ (s : Stage). AnswersFrom (standing s) (meaning i) c.args.found c.done_turn.result) (sym c.in-AtShort.is) (i.own, refl, c.done_turn.ensures))

use Rattle.std.proofs.Common.{◌≡◌, ◌++◌, ◌∙◌, ℕ, List, ap, subst}
use Rattle.std.proofs.lemmas.Result.{err_from_is_err_and}
use Rattle.clover_event.specs.Text.{ending}
use Rattle.clover_run.specs.Folds.{entries_in, made_after}
use Rattle.clover_main.specs.Causes.{AppendsFront}
use Rattle.clover_main.proofs.Pieces.{puts_end}
use Rattle.clover_main.proofs.output.Output.close.Goals as goal

pub returns-in_err-put_both-in-Ok-clause-err : goal.returns-in_err-put_both-in-Ok-clause-err
returns-in_err-put_both-in-Ok-clause-err g c =
    let p = err_from_is_err_and c.from_residual.result c.from_residual.ensures.1 in
    rw (p.1, p.2) (λ o rs at.
    let end : c.deref-in-Ok.result.now ≡ ending (entries_in rs) (made_after o.made rs) = c.deref-in-Ok.ensures.value ∙ c.in-Ok.ensures.ok ∙ ap (λ (l : List ℕ). l ++ ending c.history.result.now c.made.result) c.clear.ensures.items ∙ ap (λ h. ending h c.made.result) (c.history.ensures o rs at) ∙ ap (ending (entries_in rs)) (c.made.ensures o rs at) in
    subst (λ (l : List ℕ). AppendsFront (g.K.Sink.taken c.args.sink.now) (g.K.Sink.taken c.put_both.new.sink) (c.args.self.waiting.items ++ l)) end
    (subst (λ (l : List ℕ). AppendsFront (g.K.Sink.taken c.args.sink.now) (g.K.Sink.taken c.put_both.new.sink) (l ++ c.deref-in-Ok.result.now)) c.deref.ensures.value c.in_err-put_both-in-Ok.ensures.err))

pub returns-clause-err : goal.returns-clause-err
returns-clause-err g c o rs at = puts_end c.give_up.result _ _ _ _ c.give_up.ensures.puts

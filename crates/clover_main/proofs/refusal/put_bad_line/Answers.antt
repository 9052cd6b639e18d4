use Rattle.std.proofs.Common.{List, ℕ, ◌++◌, subst, ap, codes, ◌∙◌}
use Rattle.std.proofs.KnownBytes.{Appends-trans}
use Rattle.std.proofs.lemmas.Result.{on_ok_weaker, on_err_weaker, err_from_is_err_and}
use Rattle.std.specs.Io.KnownBytes.{Appends}
use Rattle.clover_main.specs.Causes.{AppendsFront}
use Rattle.clover_main.proofs.Puts.{front_of_first, front_of_second}
use Rattle.clover_main.proofs.refusal.put_bad_line.Goals as goal

pub returns-clause-ok : goal.returns-clause-ok
returns-clause-ok g c =
    let digits = c.as_bytes.ensures.value ∙ c.format.ensures.text in
    let all = ap (λ (t : List ℕ). codes "error badline " ++ t ++ codes " unbuilt\n") digits in
    let P : List ℕ → Type 0 = λ line. Appends (g.K.Sink.taken c.args.sink.now) (g.K.Sink.taken c.put.new.self) line in
    on_ok_weaker c.put.result (λ put. subst P all (Appends-trans _ _ _ _ _ c.in_ok-put_both.ensures.ok put)) c.put.ensures.ok

pub returns-clause-err : goal.returns-clause-err
returns-clause-err g c =
    let digits = c.as_bytes.ensures.value ∙ c.format.ensures.text in
    let all = ap (λ (t : List ℕ). codes "error badline " ++ t ++ codes " unbuilt\n") digits in
    let P : List ℕ → Type 0 = λ line. AppendsFront (g.K.Sink.taken c.args.sink.now) (g.K.Sink.taken c.put.new.self) line in
    on_err_weaker c.put.result (λ front. subst P all (front_of_second _ _ _ _ _ c.in_ok-put_both.ensures.ok front)) c.put.ensures.err

pub returns-in_err-put_both-clause-err : goal.returns-in_err-put_both-clause-err
returns-in_err-put_both-clause-err g c =
    let digits = c.as_bytes.ensures.value ∙ c.format.ensures.text in
    let all = ap (λ (t : List ℕ). codes "error badline " ++ t ++ codes " unbuilt\n") digits in
    let P : List ℕ → Type 0 = λ line. AppendsFront (g.K.Sink.taken c.args.sink.now) (g.K.Sink.taken c.put_both.new.sink) line in
    let p = err_from_is_err_and c.from_residual.result c.from_residual.ensures.1 in
    rw p.1 (subst P all (front_of_first _ _ _ (codes " unbuilt\n") c.in_err-put_both.ensures.err))

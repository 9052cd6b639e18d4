use Rattle.std.proofs.Common.{◌++◌, ℕ, List, ◌∙◌, sym, ap}
use Rattle.std.proofs.lemmas.Fmt.{decimal_digit}
use Rattle.clover_script.proofs.text.push_number.Goals as goal

pub returns-then-number-lt10 : goal.returns-then-number-lt10
returns-then-number-lt10 c =
    let d = decimal_digit c.args.number c.if-number-lt10.true in
    record { ok = c.in_ok-push.ensures.items ∙ ap (λ (x : List ℕ). c.args.out.now.items ++ x) (sym d) }

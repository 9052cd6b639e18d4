use Rattle.std.proofs.Common.{sym, ◌∙◌}
use Rattle.std.specs.Fmt.{decimal}
use Rattle.clover_script.proofs.NumberLemmas.{decimal_digits, one_cut}
use Rattle.clover_script.proofs.number.number_front.Goals as goal

pub returns-in_err-number-clause-only : goal.returns-in_err-number-clause-only
returns-in_err-number-clause-only c n rest lt end e =
    let f = c.digits_front.ensures in
    let cut = one_cut c.digits_front.result.0.now (decimal n) c.digits_front.result.1.now rest f.digits (decimal_digits n lt) f.end end (sym f.whole ∙ e) in
    let read = c.in_err-number.ensures.only n lt cut.0 in
    absurd (cc)

pub returns-clause-only : goal.returns-clause-only
returns-clause-only c n rest lt end e =
    let f = c.digits_front.ensures in
    let cut = one_cut c.digits_front.result.0.now (decimal n) c.digits_front.result.1.now rest f.digits (decimal_digits n lt) f.end end (sym f.whole ∙ e) in
    let read = c.in_ok-number.ensures.only n lt cut.0 in
    (cc, cut.1)

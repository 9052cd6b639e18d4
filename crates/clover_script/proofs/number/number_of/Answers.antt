use Rattle.std.proofs.Common.{Some, ◌∙◌, sym, ap}
use Rattle.std.proofs.lemmas.Fmt.{decimal_injective}
use Rattle.clover_script.proofs.NumberLemmas.{one_digit}
use Rattle.clover_script.proofs.number.number_of.Goals as goal

pub returns-in-len1-clause-found : goal.returns-in-len1-clause-found
returns-in-len1-clause-found c =
    let digit = c.if-is_ascii_digit.ensures.cases in
    one_digit c.args.text.now c.from.result c.in-len1.len_at_least c.in-len1.len_below digit.0 digit.1 c.from.ensures

pub returns-in-len1-clause-only : goal.returns-in-len1-clause-only
returns-in-len1-clause-only c n small e =
    let digit = c.if-is_ascii_digit.ensures.cases in
    let read = one_digit c.args.text.now c.from.result c.in-len1.len_at_least c.in-len1.len_below digit.0 digit.1 c.from.ensures in
    ap Some (decimal_injective c.from.result n c.from.type_inv small (sym read ∙ e))

use Rattle.std.proofs.Common.{◌∙◌, ◌++◌, sym}
use Rattle.std.specs.Prelude.{decimal}
use Rattle.clover_script.proofs.SpellingLemmas.{after_same}
use Rattle.clover_script.proofs.number.field.Goals as goal

pub returns-clause-only : goal.returns-clause-only
returns-clause-only c n rest lt end e =
    c.number_front.ensures.only n rest lt end (after_same c.args.name.now c.in_ok-rest.rest.now (decimal n ++ rest) (sym c.in_ok-rest.ensures.found ∙ e))

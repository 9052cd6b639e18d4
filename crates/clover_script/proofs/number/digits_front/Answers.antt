use Rattle.clover_script.proofs.NumberLemmas.{digits_front_of, digits_all}
use Rattle.clover_script.proofs.number.digits_front.Goals as goal

pub returns-in-Some-clause-digits : goal.returns-in-Some-clause-digits
returns-in-Some-clause-digits c =
    rw c.split_at.ensures.front (digits_front_of c.args.text.now c.in-Some.at c.in-Some.ensures.first)

pub returns-in-None-clause-digits : goal.returns-in-None-clause-digits
returns-in-None-clause-digits c = digits_all c.args.text.now c.in-None.ensures.none

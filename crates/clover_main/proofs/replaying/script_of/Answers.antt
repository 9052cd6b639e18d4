use Rattle.std.proofs.Common.{ℕ, List, subst}
use Rattle.clover_script.specs.Line.{Spoken}
use Rattle.clover_script.specs.Lines.{IsLinesOf}
use Rattle.clover_main.specs.Cuts.{HasNoCuts, IsTurnedDown}
use Rattle.clover_main.proofs.replaying.script_of.Goals as goal

pub returns-in-Ok-clause-script : goal.returns-in-Ok-clause-script
returns-in-Ok-clause-script g c =
    let P : List ℕ → Type 0 = λ text. (said : List Spoken) × IsLinesOf text c.in-Ok.setup said × HasNoCuts text in
    subst P c.deref.ensures.value (c.in-Ok.ensures.script.0, c.in-Ok.ensures.script.1, c.in-Ok.ensures.uncut)

pub returns-in-Err-clause-err : goal.returns-in-Err-clause-err
returns-in-Err-clause-err g c =
    let P : List ℕ → Type 0 = λ text. IsTurnedDown text c.in-Err.line in
    (c.in_ok-text.text.items, c.in_ok-text.ensures.whole, subst P c.deref.ensures.value c.in-Err.ensures.bad)

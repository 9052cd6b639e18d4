use Rattle.std.proofs.Common.{ℕ, List, sym, subst}
use Rattle.clover_script.specs.Line.{Spoken}
use Rattle.clover_script.specs.Lines.{IsLinesOf}
use Rattle.clover_main.specs.Cuts.{HasNoCuts}
use Rattle.clover_main.specs.Reading.{Reads}
use Rattle.clover_main.proofs.Endings.{lacks_memory}
use Rattle.clover_main.proofs.replaying.attempt.Goals as goal

pub run_script-requires : goal.run_script-requires
run_script-requires g c =
    let P : List ℕ → Type 0 = λ text. (said : List Spoken) × IsLinesOf text c.in-Ok.script.setup said × HasNoCuts text in
    subst P (sym c.deref.ensures.value) c.in-Ok.ensures.script

pub returns-in-Ok-clause-memory : goal.returns-in-Ok-clause-memory
returns-in-Ok-clause-memory g c is =
    let P : List ℕ → Type 0 = λ text. Reads (g.S.Source.left c.args.source.now) (g.S.Source.left c.script_of.new.source) text in
    lacks_memory c.in-Err-Memory.field-0 c.args.trace c.deref.result.now _ _ _ _ _ _ _ _ c.in-Err-Memory.field-0-is (subst P (sym c.deref.ensures.value) c.in-Ok.ensures.read) c.run_script.ensures.cause.later c.in-Err-Memory.ensures.err c.refuse.ensures.line

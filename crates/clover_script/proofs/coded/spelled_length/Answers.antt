use Rattle.std.proofs.Common.{◌<◌, ◌++◌, ◌∷◌, [], ◌∙◌, sym, ap, rules, arith, length}
use Rattle.std.proofs.lemmas.Grind.{common_steps}
use Rattle.clover_script.specs.Coded.{coded}
use Rattle.clover_script.proofs.LineLemmas.{if_none}
use Rattle.clover_script.proofs.CodedLemmas.{one_front, nowhere, are_push}
use Rattle.clover_script.proofs.coded.spelled_length.Goals as goal

pub returns-in_err-after-clause-none : goal.returns-in_err-after-clause-none
returns-in_err-after-clause-none c = if_none c.from_residual.result (λ bytes are e.
    let m = c.loop-rest.invariant.no_other bytes are e in
    let none = nowhere c.loop-rest.rest.now m.0 m.1 m.2 c.in_err-after.ensures.none in
    let some : 0 < length c.loop-rest.rest.now = search rules in
    omega (arith, some, ap length (m.2 ∙ ap coded none)))

pub loop-rest-preserved : goal.loop-rest-preserved
loop-rest-preserved c =
    let h = c.loop-rest.invariant in
    let byte = c.in_ok-after.field-0-0 in
    let fits : byte < 256 = search rules in
    let found = c.in_ok-after.ensures.found in
    record {
      read = (h.read.0 ++ byte ∷ [], are_push h.read.0 byte h.read.1 fits, grind (arith, common_steps), grind (arith, common_steps));
      size = omega (arith, c.in_ok-after.ensures.shorter, h.size);
      no_other = λ all are e.
          let m = h.no_other all are e in
          let next = one_front byte c.in_ok-after.after.now m.0 fits m.1 (sym found ∙ m.2) in
          (next.0, next.1, next.2);
    }

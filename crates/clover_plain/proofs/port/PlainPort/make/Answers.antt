use Rattle.std.proofs.Common.{sym, ◌∙◌, subst}
use Rattle.clover_rule.specs.declared.access.Act.{Act}
use Rattle.clover_plain.specs.Plain.{Refused}
use Rattle.clover_plain.proofs.port.PlainPort.make.Goals as goal

pub returns-then-self : goal.returns-then-self
returns-then-self g c =
    let e = c.fail.ensures in let p = c.args.self.now in
    let refused = subst (λ (a : Act). Refused a p.seat p.pool.now c.fail.new.self.pool.now) (c.act_of.ensures ∙ sym (c.requires.step 0)) e.refused in
    record { ends = ((g.M.StepName.step, refused), e.next.0, e.count, e.lender, c.if-self.true, e.next.1, e.next.2, e.rises) }

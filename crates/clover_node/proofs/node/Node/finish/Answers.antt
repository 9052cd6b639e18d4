use Rattle.std.proofs.Common.{◌∙◌, sym}
use Rattle.clover_node.proofs.Finishing.{finished_done, finished_refused, goes_fewer, goes_on, made_on}
use Rattle.clover_node.proofs.node.Node.finish.Goals as goal

pub steps-smaller : goal.steps-smaller
steps-smaller g c =
    let P = g.P.Port in let p = c.steps.port in let q = c.step.new.port in let n = c.steps.self in let e = c.step.ensures in
    let m = made_on c.step.result c.in-More.is e.made in
    goes_fewer g.call (P.view c.args.port.now) n (P.view p) c.steps.into c.steps.invariant.under (P.told p) c.step.new.self (P.view q) (P.told q) c.step.new.into (P.pool p) _ m.0 c.step.result c.in-More.is (g.met.P.Port.made_tells p q _ _ m.0 m.1) e.went

pub steps-preserved : goal.steps-preserved
steps-preserved g c =
    let P = g.P.Port in let p = c.steps.port in let q = c.step.new.port in let n = c.steps.self in let e = c.step.ensures in let i = c.steps.invariant in
    let m = made_on c.step.result c.in-More.is e.made in
    let left = g.met.P.Port.made_leaves p q _ _ m.0 m.1 in
    record {
      under = goes_on g.call (P.view c.args.port.now) n (P.view p) c.steps.into i.under (P.told p) c.step.new.self (P.view q) (P.told q) c.step.new.into c.step.result c.in-More.is e.went e.holds;
      pool = left.0 ∙ i.pool ∙ sym e.went.pool;
      port = (left.0 ∙ i.port.0, left.1 ∙ i.port.1, left.2 ∙ i.port.2);
      faults = left.3 ∙ i.faults;
    }

pub returns-in-Done-clause-finished : goal.returns-in-Done-clause-finished
returns-in-Done-clause-finished g c =
    let P = g.P.Port in let p = c.steps.port in let q = c.step.new.port in
    finished_done g.call (P.view c.args.port.now) c.steps.self (P.view p) c.steps.into c.steps.invariant.under (P.told p) c.step.new.self (P.view q) (P.told q) c.step.new.into c.in-Done.answer c.in-Done.ensures.went

pub returns-in-Refused-clause-finished : goal.returns-in-Refused-clause-finished
returns-in-Refused-clause-finished g c =
    let P = g.P.Port in let p = c.steps.port in let q = c.step.new.port in
    finished_refused g.call (P.view c.args.port.now) c.steps.self (P.view p) c.steps.into c.steps.invariant.under (P.told p) c.step.new.self (P.view q) (P.told q) c.step.new.into c.in-Refused.refusal c.in-Refused.ensures.went

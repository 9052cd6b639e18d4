use Rattle.std.proofs.Common.{refl, sym, ap, ◌∙◌}
use Rattle.clover_put.specs.Putting.{put_step}
use Rattle.clover_call.specs.declared.under.Underway.TheVariants.{Write}
use Rattle.clover_call.specs.declared.answer.Answer.TheVariants.{Stored, Deleted, Absent, Differs}
use Rattle.clover_call.proofs.PutGoes.{linked_hit}
use Rattle.clover_call.proofs.PutStep.{put_more, put_decided, put_closes, put_behind, put_done, put_went, deciding_before}
use Rattle.clover_call.proofs.caller.access.write.Goals as goal

pub returns-in-More-clause-made : goal.returns-in-More-clause-made
returns-in-More-clause-made g c = λ room.
    let m = c.in-More.ensures.made in let w = c.in-More.ensures.went in
    (m.0, m.1, (ap (λ n. Write n) m.2, refl, tt, tt), (put_more c.args.call.now c.step.new.self (g.P.Port.view c.args.port.now) m.0 c.requires.holds m.2 room (g.P.Port.view c.step.new.port) w.answer w.stands).0)

pub returns-in-Decided-clause-made : goal.returns-in-Decided-clause-made
returns-in-Decided-clause-made g c = λ room.
    let m = c.in-Decided.ensures.made in let w = c.in-Decided.ensures.went in
    (m.0, m.1, (ap (λ n. Write n) m.2, refl, tt, (w.answer.0, w.answer.1, linked_hit c.args.call.now w.answer.0 m.0 w.answer.1 (sym w.answer.2 ∙ m.2))), put_decided c.args.call.now c.step.new.self (g.P.Port.view c.args.port.now) m.0 c.requires.holds m.2 room (g.P.Port.view c.step.new.port) c.in-Decided.tag c.committed.result w.answer w.stands)

pub returns-in-Stored-clause-made : goal.returns-in-Stored-clause-made
returns-in-Stored-clause-made g c = λ room.
    let m = c.in-Stored.ensures.made in let w = c.in-Stored.ensures.went in
    (m.0, m.1, (refl, refl, ap (λ z. z.stage) (sym m.2 ∙ w.answer.1), tt), put_closes c.args.call.now c.step.new.self (g.P.Port.view c.args.port.now) m.0 c.requires.holds m.2 room (Stored c.in-Stored.tag) w.answer.0)

pub returns-in-Deleted-clause-made : goal.returns-in-Deleted-clause-made
returns-in-Deleted-clause-made g c = λ room.
    let m = c.in-Deleted.ensures.made in let w = c.in-Deleted.ensures.went in
    (m.0, m.1, (refl, refl, ap (λ z. z.stage) (sym m.2 ∙ w.answer.1), tt), put_closes c.args.call.now c.step.new.self (g.P.Port.view c.args.port.now) m.0 c.requires.holds m.2 room (Deleted c.in-Deleted.tag) w.answer.0)

pub returns-in-Absent-clause-made : goal.returns-in-Absent-clause-made
returns-in-Absent-clause-made g c = λ room.
    let m = c.in-Absent.ensures.made in let w = c.in-Absent.ensures.went in
    (m.0, m.1, (refl, refl, ap (λ z. z.stage) (sym m.2 ∙ w.answer.1), tt), put_done c.args.call.now c.step.new.self (g.P.Port.view c.args.port.now) m.0 c.requires.holds m.2 room _ _ w.answer.0 w.answer.1 Absent)

pub returns-in-Differs-clause-made : goal.returns-in-Differs-clause-made
returns-in-Differs-clause-made g c = λ room.
    let m = c.in-Differs.ensures.made in let w = c.in-Differs.ensures.went in
    (m.0, m.1, (refl, refl, ap (λ z. z.stage) (sym m.2 ∙ w.answer.1), tt), put_done c.args.call.now c.step.new.self (g.P.Port.view c.args.port.now) m.0 c.requires.holds m.2 room _ _ w.answer.0 w.answer.1 (Differs c.in-Differs.tag))

pub returns-in-Behind-clause-made : goal.returns-in-Behind-clause-made
returns-in-Behind-clause-made g c = λ room.
    let m = c.in-Behind.ensures.made in let w = c.in-Behind.ensures.went in
    (m.0, m.1, (refl, refl, ap (λ z. z.stage) (sym m.2) ∙ w.answer.1, tt), put_behind c.args.call.now c.step.new.self (g.P.Port.view c.args.port.now) m.0 c.requires.holds m.2 room c.in-Behind.turns w.answer)

pub returns-in-Absent-clause-went : goal.returns-in-Absent-clause-went
returns-in-Absent-clause-went g c = λ room.
    let p = c.args.port.now in let q = c.step.new.port in let x = c.args.call.now in let P = g.P.Port in let m = c.in-Absent.ensures.made in let w = c.in-Absent.ensures.went in
    let made = g.met.P.Port.made_tells p q (put_step x (P.view p)) x.walk.first m.0 m.1 in
    put_went x c.step.new.self (P.view p) m.0 c.requires.holds m.2 room _ _ w.answer.0 w.answer.1 (P.pool p) (P.told p) (P.view q) (P.told q) Absent c.in-Absent.tail c.args.cursors.now c.set-in-Absent.new.self c.slot-in-Absent.result
    c.requires.pool (deciding_before x c.step.new.self (P.view p) m.0 c.requires.holds m.2 room _ _ w.answer.0 w.answer.1) made w.absent refl tt tt tt w.known c.slot-in-Absent.ensures c.set-in-Absent.ensures.value w.ahead w.bound

pub returns-in-Differs-clause-went : goal.returns-in-Differs-clause-went
returns-in-Differs-clause-went g c = λ room.
    let p = c.args.port.now in let q = c.step.new.port in let x = c.args.call.now in let P = g.P.Port in let m = c.in-Differs.ensures.made in let w = c.in-Differs.ensures.went in
    let made = g.met.P.Port.made_tells p q (put_step x (P.view p)) x.walk.first m.0 m.1 in
    put_went x c.step.new.self (P.view p) m.0 c.requires.holds m.2 room _ _ w.answer.0 w.answer.1 (P.pool p) (P.told p) (P.view q) (P.told q) (Differs c.in-Differs.tag) c.in-Differs.tag c.args.cursors.now c.set-in-Differs.new.self c.slot-in-Differs.result
    c.requires.pool (deciding_before x c.step.new.self (P.view p) m.0 c.requires.holds m.2 room _ _ w.answer.0 w.answer.1) made w.differs refl refl tt tt w.known c.slot-in-Differs.ensures c.set-in-Differs.ensures.value w.ahead w.bound

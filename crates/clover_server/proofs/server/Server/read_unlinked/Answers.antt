use Rattle.std.proofs.Common.{◌∙◌, sym}
use Rattle.clover_server.proofs.Steps.{passed_full, passed_full_turn, passed_more, passed_more_turn, full_sum}
use Rattle.clover_server.proofs.server.Server.read_unlinked.Goals as goal

pub returns-then-all_swept-clause-value : goal.returns-then-all_swept-clause-value
returns-then-all_swept-clause-value c = passed_full c.args.self.now c.pass_on.new.self c.pass_on.ensures.value (sym c.all_swept.ensures ∙ c.if-all_swept.true) c.answer_full.new.self c.answer_full.ensures.value

pub returns-then-all_swept-clause-answer : goal.returns-then-all_swept-clause-answer
returns-then-all_swept-clause-answer c = passed_full_turn c.args.self.now c.pass_on.new.self c.pass_on.ensures.value (sym c.all_swept.ensures ∙ c.if-all_swept.true) c.answer_full.result c.answer_full.ensures.answer

pub returns-then-all_swept-clause-adds_up : goal.returns-then-all_swept-clause-adds_up
returns-then-all_swept-clause-adds_up c = full_sum c.pass_on.new.self c.answer_full.new.self c.answer_full.result (sym c.all_swept.ensures ∙ c.if-all_swept.true) c.answer_full.ensures.value c.answer_full.ensures.answer c.answer_full.ensures.adds_up

pub returns-else-all_swept-clause-value : goal.returns-else-all_swept-clause-value
returns-else-all_swept-clause-value c = passed_more c.args.self.now c.pass_on.new.self c.pass_on.ensures.value (sym c.all_swept.ensures ∙ c.if-all_swept.false)

pub returns-else-all_swept-clause-answer : goal.returns-else-all_swept-clause-answer
returns-else-all_swept-clause-answer c = passed_more_turn c.args.self.now c.pass_on.new.self c.pass_on.ensures.value (sym c.all_swept.ensures ∙ c.if-all_swept.false)

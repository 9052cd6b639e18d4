use Rattle.std.proofs.Common.{sym, ap, ◌∙◌, subst}
use Rattle.std.specs.Prelude.{IfSome}
use Rattle.clover_words.specs.Tag.{tag_number}
use Rattle.clover_rule.specs.Content.{InRange}
use Rattle.clover_cache.specs.Node.{cursor_at}
use Rattle.clover_call.specs.Caller.{CallerState}
use Rattle.clover_call.proofs.Begins.{cursor_range}
use Rattle.clover_call.proofs.caller.Caller.walk.Goals as goal

pub make-requires-clause-cursor : goal.make-requires-clause-cursor
make-requires-clause-cursor c =
    let h = c.requires.cursors in let n = c.args.self.now in
    let e = c.find.ensures.answer ∙ ap (λ (z : CallerState). cursor_at c.args.slot z.cursors) c.self.view_is in
    let r = cursor_range n.pool h.0 c.args.slot n.cursors c.find.result e h.1 in
    subst (λ (z : CallerState). IfSome c.find.result (λ tag. InRange z.pool (tag_number tag))) (sym c.self.view_is) r

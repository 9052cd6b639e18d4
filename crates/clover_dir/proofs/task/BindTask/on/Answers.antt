use Rattle.std.proofs.Common.{List, ℕ, ap, sym, subst, ◌∙◌}
use Rattle.clover_dir.specs.Names.{IsNew}
use Rattle.clover_dir.specs.Task.{UnderWay, key_length}
use Rattle.clover_dir.proofs.Went.{over_count}
use Rattle.clover_dir.proofs.task.BindTask.on.Goals as goal

pub enter-requires-clause-new : goal.enter-requires-clause-new
enter-requires-clause-new c =
    let may = c.requires.enter (over_count (key_length c.args.self.now.key) c.args.self.now.stage c.requires.going (sym c.after-stage.ensures ∙ c.in-Over.is)) in
    subst (λ (key : List ℕ). IsNew key c.args.directory.now.list) (sym (c.copy.ensures ∙ ap (λ (u : UnderWay). u.key) c.self.view_is)) may.new

use Rattle.std.proofs.Common.{◌≡◌, ap, sym, subst}
use Rattle.clover_rule.specs.Lists.{Within}
use Rattle.clover_dir.specs.Directory.{Bindings}
use Rattle.clover_dir.proofs.directory.Directory.find.Goals as goal
use Rattle.clover_dir.proofs.directory.Directory.find.Goals.{After-find}

list_is : (c : After-find) → c.self.inside.names.list ≡ c.args.self.now.list
list_is c = ap (λ (d : Bindings). d.list) c.self.view_is

pub returns-clause-only : goal.returns-clause-only
returns-clause-only c slot w = c.find.ensures.only slot (subst (Within (slot, c.args.key.now)) (sym (list_is c)) w)

pub returns-clause-none : goal.returns-clause-none
returns-clause-none c = (
  λ e slot w. c.find.ensures.none.0 e slot (subst (Within (slot, c.args.key.now)) (sym (list_is c)) w),
  λ new. c.find.ensures.none.1 (λ slot w. new slot (subst (Within (slot, c.args.key.now)) (list_is c) w)),
)

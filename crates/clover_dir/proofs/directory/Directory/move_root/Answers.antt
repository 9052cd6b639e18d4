use Rattle.std.proofs.Common.{◌<◌, length, refl, rules, subst, sym}
use Rattle.clover_dir.specs.Directory.{IsBound}
use Rattle.clover_dir.proofs.Roots.{bound_inside, moved_kept}
use Rattle.clover_dir.proofs.directory.Directory.move_root.Goals as goal

pub index_mut-requires : goal.index_mut-requires
index_mut-requires c =
    let there : c.args.slot < length c.self.inside.roots.items = bound_inside c.self.inside c.self.invariant c.args.slot (subst (IsBound c.args.slot) (sym c.self.view_is) c.requires) in
    search (rules, there)

pub invariant_of-self : goal.invariant_of-self
invariant_of-self c = moved_kept c.self.inside c.self.invariant c.args.slot c.args.root _ refl refl (subst (IsBound c.args.slot) (sym c.self.view_is) c.requires) refl refl

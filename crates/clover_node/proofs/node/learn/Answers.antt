use Rattle.std.proofs.Common.{List, ℕ, ◌++◌, take, sym, subst}
use Rattle.clover_dir.specs.Bindings.{pairs_of}
use Rattle.clover_dir.specs.Names.{NameList, IsNew}
use Rattle.clover_node.proofs.Learning.{next_new}
use Rattle.clover_node.proofs.node.learn.Goals as goal

pub push-requires-clause-new : goal.push-requires-clause-new
push-requires-clause-new c =
    let i = c.loop-binding.binding-index in let bs = c.args.names.now in let xs = c.args.known.now.list in
    let key = subst (λ (k : List ℕ). IsNew k (xs ++ pairs_of (take i bs))) (sym c.copy.ensures) (next_new xs bs i c.binding-item.result c.requires.once c.loop-binding-test.true c.binding-item.is) in
    subst (λ (l : NameList). IsNew c.copy.result l.list) (sym c.loop-binding.invariant) key

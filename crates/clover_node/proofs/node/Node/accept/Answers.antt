use Rattle.std.proofs.Common.{◌≡◌, ◌++◌, List, map, ap, ◌∙◌, sym, subst}
use Rattle.clover_words.specs.Tag.{TagParts, tag_number}
use Rattle.clover_alloc.specs.Batch.{tags_of}
use Rattle.clover_dir.specs.Bindings.{pairs_of}
use Rattle.clover_dir.specs.Names.{NameList}
use Rattle.clover_rule.specs.Moves.{given}
use Rattle.clover_node.specs.Node.{NodeState, NodeHolds}
use Rattle.clover_node.proofs.Granted.{granted}
use Rattle.clover_node.proofs.node.Node.accept.Goals as goal

pub returns-clause-holds : goal.returns-clause-holds
returns-clause-holds c = λ call v room h may.
    let n = c.args.self.now in
    let batch = tags_of c.args.batch.now in let added = pairs_of c.args.names.now in
    let z : NodeState = record { client = c.self.inside.client; caller = c.self.inside.caller; counting = c.self.inside.counting; stock = c.self.inside.stock; names = c.self.inside.names.list } in
    let stock = c.add.ensures ∙ ap (λ (ts : List TagParts). z.stock ++ ts) c.items.ensures in
    let names = ap (λ (l : NameList). l.list) c.learn.ensures in
    let new : record z { stock = c.add.new.self; names = c.learn.new.known.list } ≡ record z { stock = z.stock ++ batch; names = z.names ++ added } = λ i. record z { stock = stock i; names = names i } in
    let is = new ∙ ap (λ (s : NodeState). record s { stock = s.stock ++ batch; names = s.names ++ added }) c.self.view_is in
    subst (λ (s : NodeState). NodeHolds s call (given (map tag_number batch) added v) room) (sym is) (granted n batch added call v room c.requires.idle h may)

use Rattle.std.proofs.Common.{◌∙◌, sym, subst}
use Rattle.clover_map.specs.declared.call.Call.{Call}
use Rattle.clover_node.specs.Node.{NodeHolds}
use Rattle.clover_node.proofs.node.Node.get.Goals as goal

pub finish-requires : goal.finish-requires
finish-requires g c κs within =
    let s = c.start_get.ensures in let v = g.P.Port.view c.args.port.now in let into = c.args.into.now in let old = c.requires.1.1.1.1 in
    let new = s.holds g.call v into old in
    (within, (s.busy, (s.first, (c.requires.1.1.1.0 ∙ sym old.caller.pool ∙ new.caller.pool, subst (λ (z : Call). NodeHolds c.start_get.new.self z v into) (sym c.requires.1.0) new))))

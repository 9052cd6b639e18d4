use Rattle.std.proofs.Common.{◌∙◌, sym, subst, inr}
use Rattle.clover_map.specs.declared.call.Call.{Call}
use Rattle.clover_node.specs.Node.{NodeHolds}
use Rattle.clover_node.proofs.Finishing.{any_room}
use Rattle.clover_node.proofs.node.Node.write.Goals as goal

pub finish-requires : goal.finish-requires
finish-requires g c κs within =
    let s = c.in-Ok.ensures.started in let v = g.P.Port.view c.args.port.now in let room = c.new-room.result in let held = c.requires.1.1.1.1.1 in
    let old = any_room c.args.self.now g.call v held.0 room c.requires.1.1.1.0 held.1 in
    let new = s.holds g.call v room old in
    (within, (s.busy, (s.first, (c.requires.1.1.1.1.0 ∙ sym old.caller.pool ∙ new.caller.pool, subst (λ (z : Call). NodeHolds c.start_write.new.self z v room) (sym c.requires.1.0) new))))

pub returns-clause-tried : goal.returns-clause-tried
returns-clause-tried g c = inr (c.finish.new.into, c.finish.ensures.finished)

use Rattle.std.proofs.Common.{◌≡◌}
use Rattle.std.specs.Prelude.{Some}
use Rattle.clover_walk.proofs.Codes.{short_tag}
use Rattle.clover_walk.proofs.walk.Walk.cut.Goals as goal

pub unreachable-requires : goal.unreachable-requires
unreachable-requires c =
    let o = short_tag c.args.self.now.pool c.args.self.now.slot c.args.word c.requires.number in
    let e : c.root_decode.result ≡ Some o.0 = c.root_decode.ensures.only o.0 o.1 o.2 in let q = c.in-None.is in absurd cc

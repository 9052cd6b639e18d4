use Rattle.std.proofs.Common.{inr, refl, arith}
use Rattle.clover_run.proofs.Beginning.{rests_starts}
use Rattle.clover_run.proofs.client.ClientState.begin.Goals as goal

pub start-requires : goal.start-requires
start-requires c =
    let (o, p, i, seat, setup, st) = c.requires.rests in
    let e = c.from-length.ensures in let f = c.from-room.ensures in let g = c.if-length-room.false in
    record { starts = rests_starts o p i c.args.self.now c.args.setup.now c.args.call c.args.written c.requires.task setup (omega arith) st }

pub returns : goal.returns
returns c =
    let e = c.from-length.ensures in let f = c.from-room.ensures in let g = c.if-length-room.false in
    inr (omega arith, refl, c.start.ensures c.args.call refl)

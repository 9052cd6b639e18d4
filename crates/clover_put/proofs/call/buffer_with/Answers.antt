use Rattle.std.proofs.Common.{◌≡◌, rules}
use Rattle.clover_words.specs.Pack.{AreBytes}
use Rattle.clover_put.proofs.Room.{room_zeros}
use Rattle.clover_put.proofs.call.buffer_with.Goals as goal

pub invariant_of-result : goal.invariant_of-result
invariant_of-result c =
    let spelled : c.copy_from_slice.new.self ≡ c.args.bytes.now = search rules in
    let bytes : AreBytes c.args.bytes.now = search rules in
    record { length_fits = c.requires; room = room_zeros c.copy_from_slice.new.self c.args.bytes.now spelled c.requires bytes }

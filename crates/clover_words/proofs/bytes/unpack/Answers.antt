use Rattle.std.proofs.Common.{◌≡◌, ◌+◌, ◌*◌, ◌-◌, arith, rules}
use Rattle.std.specs.Int.{w64, to_be_bytes}
use Rattle.clover_words.proofs.Packing.{packed_kept, packed_set, room_kept, put_mid-eight}
use Rattle.clover_words.proofs.bytes.unpack.Goals as goal

pub invariant_of-into : goal.invariant_of-into
invariant_of-into c =
    let k = c.args.k in
    let old = c.args.into.now.bytes in
    let spelled : c.copy_from_slice.new.self ≡ to_be_bytes w64 c.args.word = search rules in
    record {
      length_fits = c.args.into.now.length_fits;
      room = rw (spelled, put_mid-eight old (to_be_bytes w64 c.args.word) k (8 * k + 8 - 8 * k) (omega arith))
          (room_kept old k c.args.word c.requires c.args.into.now.room);
    }

pub returns-clause-packs : goal.returns-clause-packs
returns-clause-packs c =
    let k = c.args.k in
    let old = c.args.into.now.bytes in
    let spelled : c.copy_from_slice.new.self ≡ to_be_bytes w64 c.args.word = search rules in
    rw (spelled, put_mid-eight old (to_be_bytes w64 c.args.word) k (8 * k + 8 - 8 * k) (omega arith))
    (packed_set old k c.args.word (omega (arith, c.args.into.now.room.size)) (omega arith))

pub returns-clause-kept : goal.returns-clause-kept
returns-clause-kept c j other =
    let k = c.args.k in
    let old = c.args.into.now.bytes in
    let spelled : c.copy_from_slice.new.self ≡ to_be_bytes w64 c.args.word = search rules in
    rw (spelled, put_mid-eight old (to_be_bytes w64 c.args.word) k (8 * k + 8 - 8 * k) (omega arith))
    (packed_kept old k j c.args.word (omega (arith, c.args.into.now.room.size)) other)

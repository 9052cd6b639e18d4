use Rattle.std.proofs.Common.{◌≡◌, ℕ, length, take, sym, ap, ◌∙◌, arith}
use Rattle.std.proofs.lemmas.List.{take_all}
use Rattle.clover_words.proofs.Packing.{unpacked}
use Rattle.clover_image.proofs.content.value_bytes.Goals as goal

pub returns : goal.returns
returns c = λ value are sized words.
    let room = c.value_words-room.result in
    let most = c.args.image.now.pool.words_fit in
    let size = room.room.size in
    let front : take (length value) room.bytes ≡ value =
    unpacked value room.bytes are room.room.bytes (omega (arith, c.requires.fits)) (λ k l. c.value_words-room.ensures k (omega (arith, c.div_ceil.ensures)) ∙ words k l) in
    let items : c.in_ok-items.items.items ≡ take c.args.count room.bytes = c.in_ok-items.ensures.items_if_clones_equal (λ x y e. e) in
    let same : c.in_ok-items.items.items ≡ value = items ∙ ap (λ (n : ℕ). take n room.bytes) (sym sized) ∙ front in
    c.front_of.ensures ∙ ap (take 1024) same ∙ take_all 1024 value (omega (arith, c.requires.fits))

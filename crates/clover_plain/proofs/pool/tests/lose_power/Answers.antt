use Rattle.std.proofs.Common.{◌≡◌, ◌+◌, ◌*◌, ℕ, List, inl, length, replicate, ap, get_or, sym, ◌∙◌, arith}
use Rattle.clover_words.specs.declared.word.Side.TheVariants.{Current}
use Rattle.clover_words.specs.Place.{address_of, durable_words, place, pool_words}
use Rattle.clover_plain.proofs.Seating.{zero_replicate}
use Rattle.clover_plain.proofs.pool.tests.lose_power.Goals as goal

pub power_cut-requires : goal.power_cut-requires
power_cut-requires c =
    let p = c.args.pool.now.setup.pool in
    let small = c.requires.small in
    let many : durable_words p ≡ 39 = (λ i. small.0 i * small.1 i * (2 + small.3 i) + 33 * small.2 i) in
    record {
      cut = record {
        sized = sym many;
        copies = λ w within has. inl (zero_replicate 39 (place p w) ∙ sym (ap (λ (ws : List ℕ). get_or ws (address_of p w Current) 0) c.requires.blank ∙ zero_replicate (pool_words p) (address_of p w Current)));
      };
    }

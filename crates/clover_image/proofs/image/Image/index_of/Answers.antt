use Rattle.std.proofs.Common.{◌≡◌, ◌<◌, ◌-◌, length, subst, arith}
use Rattle.clover_words.specs.Place.{place}
use Rattle.clover_words.proofs.Places.{durable_below}
use Rattle.clover_image.specs.Image.{PoolImage, IsDurable}
use Rattle.clover_image.proofs.image.Image.index_of.Goals as goal

pub returns-clause-some : goal.returns-clause-some
returns-clause-some c =
    let at = c.in_ok-flushed.flushed - c.len.result in
    let f = c.in_ok-flushed.ensures.some in
    let below = durable_below c.self.inside.pool c.args.word f.0 f.1 in
    let sized = c.self.invariant in
    let P : PoolImage → Type 0 = λ m. IsDurable m.pool c.args.word × (at ≡ place m.pool c.args.word) × (at < length m.words) in
    subst P c.self.view_is ((f.0, f.1), omega (arith, f.2, c.len.ensures, sized), omega (arith, f.2, c.len.ensures, below, sized))

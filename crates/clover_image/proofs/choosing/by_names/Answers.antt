use Rattle.std.proofs.Common.{[], sym, ap, ◌∙◌, refl, subst, get_or, false}
use Rattle.clover_words.specs.Place.{durable_words}
use Rattle.clover_image.specs.Image.{PoolImage}
use Rattle.clover_image.proofs.Copies.{TakenSoFar, taken-from_first, taken_so_far-more, taken_so_far-all}
use Rattle.clover_image.proofs.choosing.by_names.Goals as goal

pub loop-name-init : goal.loop-name-init
loop-name-init g c =
    let p = c.args.pool in let ws = g.W.PoolWords.numbers c.args.words.now in
    let P : PoolImage → Type 0 = TakenSoFar p [] ws in
    subst P (sym c.of-image.ensures)
    (refl, c.in_ok-kept.ensures.sized, λ i h. ap (λ l. get_or l i 0) c.in_ok-kept.ensures.taken ∙ taken-from_first (λ _. false) p ws (durable_words p) i h)

pub loop-name-preserved : goal.loop-name-preserved
loop-name-preserved g c =
    taken_so_far-more c.args.pool c.args.names.now c.loop-name.name-index _ (g.W.PoolWords.numbers c.args.words.now) c.loop-name.image c.take_current.new.image
    c.loop-name-test.true c.loop-name.invariant c.take_current.ensures.pool c.take_current.ensures.sized c.take_current.ensures.picked

pub returns : goal.returns
returns g c = taken_so_far-all c.args.pool c.args.names.now c.loop-name.name-index (g.W.PoolWords.numbers c.args.words.now) c.loop-name.image c.loop-name-test.false c.loop-name.invariant

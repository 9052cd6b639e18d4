use Rattle.std.proofs.Common.{◌≡◌, ℕ, List, [], ◌∷◌, ap, length, ◌∙◌, sym, subst, arith}
use Rattle.clover_words.specs.declared.word.Side.TheVariants.{Current}
use Rattle.clover_words.specs.declared.word.Word.TheVariants.{Meta}
use Rattle.clover_words.specs.Version.{buffer_at}
use Rattle.clover_rule.specs.declared.access.Act.TheVariants.{Store}
use Rattle.clover_plain.specs.Handing.{Handed, numbers_of}
use Rattle.clover_plain.proofs.SmallPool.{IsSmall, client_writes, first_batch, home_first, kept_first, server_hands}
use Rattle.clover_plain.proofs.pool.tests.hand_and_write.Goals as goal

pub hand_over-requires-clause-may : goal.hand_over-requires-clause-may
hand_over-requires-clause-may c =
    let batch : numbers_of c.take.result ≡ 0 ∷ [] = first_batch c.args.pool.now.setup c.args.books.now c.take.new.self c.take.result c.requires.small c.requires.books c.take.ensures.taken in
    server_hands c.reserve.new.self (numbers_of c.take.result) batch (subst IsSmall (sym c.reserve.ensures.same.setup) c.requires.small)
    (kept_first c.args.pool.now c.reserve.new.self 0 c.reserve.ensures.same c.requires.views.1) (kept_first c.args.pool.now c.reserve.new.self 1 c.reserve.ensures.same c.requires.views.2)

pub store-requires-clause-step : goal.store-requires-clause-step
store-requires-clause-step c = λ x k. Store (Meta (buffer_at (home_first k))) Current 7

pub store-requires-clause-rule : goal.store-requires-clause-rule
store-requires-clause-rule c =
    let batch : numbers_of c.take.result ≡ 0 ∷ [] = first_batch c.args.pool.now.setup c.args.books.now c.take.new.self c.take.result c.requires.small c.requires.books c.take.ensures.taken in
    client_writes c.reserve.new.self c.hand_over.new.self c.port-port.result.pool.now c.port-port.result.seat (subst (λ (l : List ℕ). Handed 1 l [] c.reserve.new.self c.hand_over.new.self) batch c.hand_over.ensures.handed) c.port-port.ensures.pool.0
    (let z = c.port-port.ensures.seat.2 in omega arith) (ap length c.reserve.ensures.same.views ∙ c.requires.views.0) (subst IsSmall (sym c.reserve.ensures.same.setup) c.requires.small)
    (kept_first c.args.pool.now c.reserve.new.self 0 c.reserve.ensures.same c.requires.views.1)

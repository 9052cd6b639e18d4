use Rattle.std.proofs.Common.{sym, subst}
use Rattle.clover_words.specs.declared.word.Side.TheVariants.{Current}
use Rattle.clover_words.specs.declared.word.Word.TheVariants.{Meta}
use Rattle.clover_words.specs.Version.{buffer_at}
use Rattle.clover_rule.specs.declared.access.Act.TheVariants.{Store}
use Rattle.clover_plain.proofs.SmallPool.{IsSmall, home_next, kept_first, server_begins}
use Rattle.clover_plain.proofs.pool.tests.begin_binding.Goals as goal

pub store-requires-clause-step : goal.store-requires-clause-step
store-requires-clause-step c = λ x k. Store (Meta (buffer_at (home_next k))) Current 562949953421312

pub store-requires-clause-rule : goal.store-requires-clause-rule
store-requires-clause-rule c = server_begins c.reserve.new.self c.port-port.result.pool.now c.port-port.result.seat c.port-port.ensures.pool.0 c.port-port.ensures.seat.0
    (subst IsSmall (sym c.reserve.ensures.same.setup) c.requires.small) (kept_first c.args.pool.now c.reserve.new.self 1 c.reserve.ensures.same c.requires.views.2)

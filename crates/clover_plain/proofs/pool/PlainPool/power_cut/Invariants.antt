use Rattle.std.proofs.Common.{◌++◌}
use Rattle.clover_rule.specs.Rule.{longest}
use Rattle.clover_plain.specs.Kept.{views_of}
use Rattle.clover_plain.specs.Plain.{first_of, used_of}
use Rattle.clover_plain.proofs.pool.PlainPool.power_cut.Given as goal

abbrev pub ghosts-wake : goal.ghosts-wake
ghosts-wake a = record {
  opened = a.opened;
  pool = a.setup.now.pool;
  first = first_of (views_of a.seats.now.items);
  used = used_of (views_of a.seats.now.items);
  views = views_of a.seats.now.items ++ a.begun.now.me.0.views;
  history = longest (views_of a.seats.now.items ++ a.begun.now.me.0.views);
  image = a.kept.now;
}

abbrev pub ghosts-begin : goal.ghosts-begin
ghosts-begin a = record { words = a.words.now }

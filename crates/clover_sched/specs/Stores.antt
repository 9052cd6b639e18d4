-- Stores of a restart: what they stand on, and what they leave of the pool and of the restart.
use Rattle.std.specs.Prelude.{◌≡◌, ◌+◌, List, ◌++◌, length, map, false, if◌then◌else◌}
use Rattle.clover_rule.specs.Restart.{words_after_stores}
use Rattle.clover_rule.specs.declared.view.RestartStore.{RestartStore}
use Rattle.clover_plain.specs.Plain.{Plain, counted, restart_view}
use Rattle.clover_restart.specs.Restart.{RestartState}
use Rattle.clover_sched.specs.Outages.{store_access}

-- the pool is down, and what its restart has still to make is what is left here
pub record AreLeft (p : Plain) (r : RestartState) : Type 0 where
  pub down : p.opened ≡ false
  pub pool : r.pool ≡ p.setup.pool
  pub plan : (restart_view p).plan ≡ r.rest

-- Restart made these stores. They are the first of those that were left, and nothing else has changed: not the books and the directory of the next run, and not how it begins.
pub record Stores (p : Plain) (r : RestartState) (made : List RestartStore) (q : Plain) (n : RestartState) : Type 0 where
  pub front : r.rest ≡ made ++ n.rest
  pub restart : n ≡ record r { rest = n.rest }
  pub left : AreLeft q n
  pub words : q.words ≡ words_after_stores p.setup.pool p.words made
  pub accesses : q.accesses ≡ (if p.traced then p.accesses ++ map store_access made else p.accesses)
  pub count : q.made ≡ counted (p.made + length made)
  pub whole : q.whole ≡ p.whole
  pub setup : q.setup ≡ p.setup
  pub first : q.first ≡ p.first
  pub used : q.used ≡ p.used
  pub start : q.start ≡ p.start
  pub absent : q.absent ≡ p.absent
  pub entries : q.entries ≡ p.entries
  pub traced : q.traced ≡ p.traced

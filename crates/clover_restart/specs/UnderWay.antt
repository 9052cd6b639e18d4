-- How far the restart of a plain pool has come.
use Rattle.std.specs.Prelude.{◌≡◌, ℕ, List, ◌++◌, false}
use Rattle.clover_words.specs.declared.pool.Pool.{Pool}
use Rattle.clover_rule.specs.Cut.{IsSound, image_of}
use Rattle.clover_rule.specs.Restart.{plan, rested_words, restarted_words, words_after_stores}
use Rattle.clover_rule.specs.declared.view.RestartStore.{RestartStore}
use Rattle.clover_plain.specs.Plain.{Plain, restart_view}
use Rattle.clover_plain.specs.Reopening.{AreOfWords}
use Rattle.clover_restart.specs.Begun.{IsNextRun}
use Rattle.clover_restart.specs.Restart.{RestartState}

-- Of a sound image's plan some stores were made, and led to these words, and the others are left; and the books and the directory are those of a new run from the words behind all of them.
pub record IsUnderWay (p : Pool) (ws : List ℕ) (r : RestartState) : Type 0 where
  pub image : List ℕ
  pub sound : IsSound p image
  pub stored : List RestartStore
  pub plan : plan p (image_of p image) sound.reads ≡ stored ++ r.rest
  pub words : ws ≡ words_after_stores p (rested_words p image) stored
  pub next : IsNextRun p r.books r.directory
  pub agree : AreOfWords p (restarted_words p image sound.reads) r.books r.directory

-- the pool is down, and what its restart has left are the stores that are left here
pub record IsRestarting (p : Plain) (r : RestartState) : Type 0 where
  pub down : p.opened ≡ false
  pub pool : r.pool ≡ p.setup.pool
  pub rest : (restart_view p).plan ≡ r.rest
  pub way : IsUnderWay p.setup.pool p.words r

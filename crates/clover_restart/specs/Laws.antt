-- The laws, each a contract of a function with an empty body.
use Rattle.std.specs.Prelude.{◌≡◌, ℕ, List, length}
use Rattle.clover_words.specs.declared.pool.Pool.{Pool}
use Rattle.clover_words.specs.Place.{durable_words}
use Rattle.clover_rule.specs.Cut.{IsSound, image_of}
use Rattle.clover_rule.specs.Restart.{restarted_words}
use Rattle.clover_plain.specs.Reopening.{AreOfWords}
use Rattle.clover_restart.specs.Begun.{IsRestartOf}
use Rattle.clover_restart.specs.Restart.{RestartState}

-- The books and the directory of a restart are those of the words that all its stores leave.
abbrev pub NextRunLaw : Type 0
NextRunLaw = (p : Pool) (image : List ℕ) (a : IsSound p image) (r : RestartState) → length image ≡ durable_words p → IsRestartOf p (image_of p image) a.reads r → AreOfWords p (restarted_words p image a.reads) r.books r.directory

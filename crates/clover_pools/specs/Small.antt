-- The pool of the tests over a plain pool: one memory node of four buffers with two value words each, two slots, and one client.
use Rattle.std.specs.Prelude.{◌≡◌, true, length}
use Rattle.clover_words.specs.declared.setup.Setup.{Setup}
use Rattle.clover_plain.specs.Plain.{Plain, history}

-- it runs, and each entry of its history was entered
pub record IsReady (p : Plain) : Type 0 where
  pub opened : p.opened ≡ true
  pub entered : p.entries ≡ history p

-- its numbers
pub record HasSmallNumbers (s : Setup) : Type 0 where
  pub clients : s.clients ≡ 1
  pub nodes : s.pool.nodes ≡ 1
  pub buffers : s.pool.buffers ≡ 4
  pub slots : s.pool.slots ≡ 2
  pub words : s.pool.words ≡ 2

-- it has these numbers, and seats for the client and the server
pub record IsSmall (p : Plain) : Type 0 where
  pub numbers : HasSmallNumbers p.setup
  pub seats : length p.views ≡ 2

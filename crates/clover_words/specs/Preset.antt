-- the preset pool: which buffers hold the tombstones of the slots, and which are dealt to the clients
use Rattle.std.specs.Prelude.{ℕ, ◌+◌, ◌-◌, ◌*◌, ◌<◌, ◌≤◌}
use Rattle.clover_words.specs.declared.pool.Pool.{Pool}
use Rattle.clover_words.specs.declared.setup.Setup.{Setup}

-- how many buffers there are
abbrev pub buffers_total : Pool → ℕ
buffers_total p = p.nodes * p.buffers

-- the number of the buffer that holds the tombstone of a slot: that many before the last one
abbrev pub tombstone_number : Pool → ℕ → ℕ
tombstone_number p slot = buffers_total p - 1 - slot

-- The buffers before the tombstones are dealt to the clients in turn: the number of the buffer for
-- a put of client c, puts counted from 0 and clients from 1.
abbrev pub dealt_number : Setup → ℕ → ℕ → ℕ
dealt_number s c put = put * s.clients + (c - 1)

-- client c has a buffer for this put
pub record HasDealt (s : Setup) (c put : ℕ) : Type 0 where
  pub client : c ≤ s.clients
  pub number : dealt_number s c put + s.pool.slots < buffers_total s.pool

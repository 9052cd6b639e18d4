-- What a key is.
use Rattle.std.specs.Prelude.{◌≤◌, ℕ, List, length}
use Rattle.clover_words.specs.Pack.{AreBytes}

-- a key: 1 to 250 bytes
abbrev pub IsKey : List ℕ → Type 0
IsKey k = (1 ≤ length k) × (length k ≤ 250) × AreBytes k

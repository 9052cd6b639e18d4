-- The words of a pool as decoded values: by buffer, by buffer and place, by slot.
use Prim.Native.Nat.{suc}
use Rattle.std.specs.Prelude.{ℕ, ◌+◌, ltb, Option, Some, None, if◌then◌else◌}

-- a next word: its own generation and its link. A `data` type, since the tactics take a constructor apart and a record literal not
pub data Next : Type 0 where
  word : ℕ → Option ℕ → Next

-- the generation of a next word
abbrev pub gen : Next → ℕ
gen (word a l) = a

-- the link of a next word
abbrev pub link : Next → Option ℕ
link (word a l) = l

-- the copies of the words: by buffer, by buffer and place, by slot
pub record Mem : Type 0 where
  pub next : ℕ → Next
  pub fnext : ℕ → Next
  pub body : ℕ → ℕ → ℕ
  pub fbody : ℕ → ℕ → ℕ
  pub root : ℕ → Option ℕ
  pub froot : ℕ → Option ℕ
  pub short : ℕ → Option ℕ
  pub count : ℕ
  pub key : ℕ → ℕ → ℕ
  pub fkey : ℕ → ℕ → ℕ

-- the greater of two values of one next word
abbrev pub order : Next → ℕ
order (word a None) = a + a
order (word a (Some t)) = suc (a + a)

-- the one of two next words that a raise leaves
abbrev pub greater : Next → Next → Next
greater o n = if ltb (order o) (order n) then n else o

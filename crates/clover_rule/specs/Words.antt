-- The words of a pool as numbers, and what they decode to: by buffer, by buffer and place, by slot.
use Rattle.std.specs.Prelude.{ℕ, ◌+◌, ◌-◌, ◌*◌, ◌/◌, ◌%◌, ◌^◌, ◌&&◌, nat_lt, List, Bool, true, false, Option, Some, None, if◌then◌else◌}
use Rattle.clover_words.specs.declared.pool.Pool.{Pool}
use Rattle.clover_words.specs.declared.word.Word.TheVariants.{Next as NextOf, Root, Key, Short, Count}
use Rattle.clover_words.specs.declared.word.Side.TheVariants.{Current, Flushed}
use Rattle.clover_words.specs.Next.{root_code}
use Rattle.clover_words.specs.Place.{copy_in}
use Rattle.clover_words.specs.Version.{buffer_at, content_at}
use Rattle.clover_rule.specs.Content.{inside}
use Rattle.clover_rule.specs.Memory.{Next, word, Mem}

-- a next word as a number; a tag is its number
abbrev pub next_code : Next → ℕ
next_code (word a x) = a * 2 ^ 43 + root_code x

-- what a number says as a root
abbrev pub root_of : ℕ → Option ℕ
root_of n = if nat_lt n 4398046511104 then None else Some (n - 4398046511104)

-- what a number says as a next word
abbrev pub next_of : ℕ → Next
next_of n = word (n / 8796093022208) (root_of (n % 8796093022208))

-- what stands outside of the pool has a value of its own, so that it never changes
abbrev pub guarded : {A : Type 0} → Bool → A → A → A
guarded true x y = x
guarded false x y = y

-- the decoded words
abbrev pub mem_of : Pool → List ℕ → Mem
mem_of p ws = record {
  next = λ (b : ℕ). guarded (inside p b) (next_of (copy_in p ws (NextOf (buffer_at b)) Current)) (word 0 None);
  fnext = λ (b : ℕ). guarded (inside p b) (next_of (copy_in p ws (NextOf (buffer_at b)) Flushed)) (word 0 None);
  body = λ (b k : ℕ). guarded (inside p b && nat_lt k (1 + p.words)) (copy_in p ws (content_at b k) Current) 0;
  fbody = λ (b k : ℕ). guarded (inside p b && nat_lt k (1 + p.words)) (copy_in p ws (content_at b k) Flushed) 0;
  root = λ (s : ℕ). guarded (nat_lt s p.slots) (root_of (copy_in p ws (Root s) Current)) None;
  froot = λ (s : ℕ). guarded (nat_lt s p.slots) (root_of (copy_in p ws (Root s) Flushed)) None;
  short = λ (s : ℕ). guarded (nat_lt s p.slots) (root_of (copy_in p ws (Short s) Current)) None;
  count = copy_in p ws Count Current;
  key = λ (s k : ℕ). guarded (nat_lt s p.slots && nat_lt k 32) (copy_in p ws (Key s k) Current) 0;
  fkey = λ (s k : ℕ). guarded (nat_lt s p.slots && nat_lt k 32) (copy_in p ws (Key s k) Flushed) 0;
}

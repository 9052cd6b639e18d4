-- The image that a power cut leaves: of each durable word one of its two copies, by a choice.
use Prim.Native.Nat.{zero, suc}
use Rattle.std.specs.Prelude.{ℕ, ◌+◌, ◌%◌, List, [], ◌∷◌, Bool, true, false, nat_lt, nat_eq, ◌&&◌, ◌||◌, slice_index, if◌then◌else◌}
use Rattle.rand_pcg.specs.Lcg.{Lcg, started, increment_of}
use Rattle.rand_pcg.specs.Pcg.{multiplier_64, pcg32}
use Rattle.clover_words.specs.declared.pool.Pool.{Pool}
use Rattle.clover_words.specs.declared.word.Buffer.{Buffer}
use Rattle.clover_words.specs.declared.word.Word.{Word}
use Rattle.clover_words.specs.declared.word.Word.TheVariants.{Next, Meta, Value, Root, Key, Short, Count}
use Rattle.clover_words.specs.Place.{place, durable_words}
use Rattle.clover_script.specs.declared.choice.Choice.{Choice}
use Rattle.clover_script.specs.declared.choice.Choice.TheVariants.{Old, New, Mix, Pick}

-- the flushed copy of the durable word whose current copy stands at an address
abbrev pub flushed_at : Pool → List ℕ → ℕ → ℕ
flushed_at p ws a = slice_index ws (durable_words p + a)

-- one of the two copies
abbrev pub copy_at : Bool → Pool → List ℕ → ℕ → ℕ
copy_at true p ws a = slice_index ws a
copy_at false p ws a = flushed_at p ws a

-- n words from the address a on: the current copies of those that are taken, the flushed ones of the others
abbrev pub taken : (ℕ → Bool) → Pool → List ℕ → ℕ → ℕ → List ℕ
taken takes p ws a zero = []
taken takes p ws a (suc n) = copy_at (takes a) p ws a ∷ taken takes p ws (suc a) n

-- the same by a generator: it is drawn from for each word whose copies differ, and an odd number takes the current one
abbrev pub mixed : Lcg → Pool → List ℕ → ℕ → ℕ → List ℕ
mixed g p ws a zero = []
mixed g p ws a (suc n) =
    if nat_eq (slice_index ws a) (flushed_at p ws a)
    then slice_index ws a ∷ mixed g p ws (suc a) n
    else copy_at (nat_eq ((pcg32 g).0 % 2) 1) p ws a ∷ mixed (pcg32 g).1 p ws (suc a) n

-- the generator of a seed
abbrev pub seeded : ℕ → Lcg
seeded seed = started 64 multiplier_64 seed (increment_of 64 1)

-- the buffer is in the pool
abbrev pub has_buffer : Pool → Buffer → Bool
has_buffer p b = nat_lt b.node p.nodes && nat_lt b.index p.buffers

-- the word is a durable word of the pool
abbrev pub is_durable : Pool → Word → Bool
is_durable p (Next b) = has_buffer p b
is_durable p (Meta b) = has_buffer p b
is_durable p (Value b k) = has_buffer p b && nat_lt k p.words
is_durable p (Root s) = nat_lt s p.slots
is_durable p (Key s k) = nat_lt s p.slots && nat_lt k 32
is_durable p (Short s) = false
is_durable p Count = false

-- one of the names is that of the durable word whose current copy stands at an address
abbrev pub is_picked : Pool → List Word → ℕ → Bool
is_picked p [] a = false
is_picked p (w ∷ names) a = (is_durable p w && nat_eq (place p w) a) || is_picked p names a

-- the image that a power cut leaves of these words by the choice
abbrev pub chosen : Pool → Choice → List ℕ → List ℕ
chosen p Old ws = taken (λ _. false) p ws 0 (durable_words p)
chosen p New ws = taken (λ _. true) p ws 0 (durable_words p)
chosen p (Mix seed) ws = mixed (seeded seed) p ws 0 (durable_words p)
chosen p (Pick names) ws = taken (is_picked p names) p ws 0 (durable_words p)

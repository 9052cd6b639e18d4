-- Lists of accesses: what it means that they replay from given words, and that they decide an entry.
use prog.Atomic.{either}
use Rattle.std.specs.Prelude.{◌≡◌, ◌≢◌, ℕ, ◌<◌, ◌≤◌, ◌^◌, ◌⊎◌, ◌==◌, max, length, slice_set, List, [], ◌∷◌, ◌++◌, Option, Some, if◌then◌else◌}
use Rattle.clover_words.specs.declared.pool.Pool.{Pool}
use Rattle.clover_words.specs.declared.meta.Kind.TheVariants.{Value as IsValue}
use Rattle.clover_words.specs.declared.word.Word.TheVariants.{Next as NextOf, Meta, Value as ValueOf, Count}
use Rattle.clover_words.specs.declared.word.Side.TheVariants.{Current, Flushed}
use Rattle.clover_words.specs.Meta.{meta_word, tombstone}
use Rattle.clover_words.specs.Pack.{packed, words_of}
use Rattle.clover_words.specs.Place.{address_of, copy_in}
use Rattle.clover_words.specs.Tag.{home}
use Rattle.clover_words.specs.Version.{unlinked, linked, buffer_at, content_at}
use Rattle.clover_map.specs.declared.bytes.Value.{Value}
use Rattle.clover_map.specs.declared.call.Call.{Call}
use Rattle.clover_map.specs.declared.call.Call.TheVariants.{Get, Put, Delete, Swap}
use Rattle.clover_map.specs.declared.call.Reply.{Reply}
use Rattle.clover_map.specs.declared.call.Reply.TheVariants.{Stored, Found, Absent, Deleted, Differs}
use Rattle.clover_map.specs.History.{key_of}
use Rattle.clover_rule.specs.Content.{content, value_meta, Spells}
use Rattle.clover_rule.specs.Lists.{nth, Within}
use Rattle.clover_rule.specs.Memory.{Mem}
use Rattle.clover_rule.specs.Chains.{Walk}
use Rattle.clover_rule.specs.Steps.{value_of}
use Rattle.clover_rule.specs.Words.{mem_of}
use Rattle.clover_rule.specs.declared.access.Access.{Access}
use Rattle.clover_rule.specs.declared.access.Act.{Act}
use Rattle.clover_rule.specs.declared.access.Act.TheVariants.{Load, Store, Exchange, Raise}

-- what came back is what the words give
abbrev pub CameBack : Pool → List ℕ → Act → Type 0
CameBack p ws (Load w got) = got ≡ copy_in p ws w Current
CameBack p ws (Store w s value) = Unit {0}
CameBack p ws (Exchange w expected new old) = old ≡ copy_in p ws w Current
CameBack p ws (Raise w value old) = old ≡ copy_in p ws w Flushed

-- the words after: a load changes nothing, a store sets its word, an exchange sets it exactly where it was the expected one, a raise leaves the greater
abbrev pub words_after_act : Pool → List ℕ → Act → List ℕ
words_after_act p ws (Load w got) = ws
words_after_act p ws (Store w s value) = slice_set ws (address_of p w s) value
words_after_act p ws (Exchange w expected new old) = slice_set ws (address_of p w Current) (either (copy_in p ws w Current == expected) new (copy_in p ws w Current))
words_after_act p ws (Raise w value old) = slice_set ws (address_of p w Flushed) (max (copy_in p ws w Flushed) value)

-- The acts, in order, came back with what the words give, as changed by the acts before.
abbrev pub ActsReplay : Pool → List ℕ → List Act → Type 0
ActsReplay p ws [] = Unit {0}
ActsReplay p ws (a ∷ as1) = CameBack p ws a × ActsReplay p (words_after_act p ws a) as1

-- the acts of the accesses that were not refused
abbrev pub done : List Access → List Act
done [] = []
done (x ∷ xs) = if x.refused then done xs else x.act ∷ done xs

-- Each access that was not refused came back with what the words give; a refused one changed nothing.
abbrev pub Replays : Pool → List ℕ → List Access → Type 0
Replays p ws xs = ActsReplay p ws (done xs)

-- the tail of a key: the last tag that is reached in the current copies from the root of the slot whose key words spell it
abbrev pub IsTail : Mem → List ℕ → ℕ → Type 0
IsTail m k t = (s : ℕ) × (ts : List ℕ) × Spells (m.key s) k × Walk m (m.root s) (ts ++ t ∷ [])

-- a load of a tag's next word that gave its generation, unlinked
abbrev pub shows_tail : ℕ → Act
shows_tail t = Load (NextOf (buffer_at (home t))) (unlinked t)

-- an exchange that wrote t as the link of u
abbrev pub wrote_link : ℕ → ℕ → Act
wrote_link u t = Exchange (NextOf (buffer_at (home u))) (unlinked u) (linked u t) (unlinked u)

-- a load of a tag's meta word that gave kind value, or a tombstone
abbrev pub SawLive : ℕ → List Act → Type 0
SawLive t acts = (flags size : ℕ) × (flags < 2 ^ 32) × (size ≤ 1024) × Within (Load (Meta (buffer_at (home t))) (meta_word (record { kind = IsValue; flags = flags; length = size }))) acts

-- a load of a tag's meta word that gave a tombstone
abbrev pub SawDead : ℕ → List Act → Type 0
SawDead t acts = Within (Load (Meta (buffer_at (home t))) tombstone) acts

-- a load of the meta word that gave the value's, and behind it loads of all of its value words that gave its packing
abbrev pub SawWhole : ℕ → Value → List Act → Type 0
SawWhole t v acts = (before after : List Act) × (acts ≡ before ++ Load (Meta (buffer_at (home t))) (value_meta v) ∷ after)
    × ((k : ℕ) → k < words_of (length v.bytes) → Within (Load (ValueOf (buffer_at (home t)) k) (packed v.bytes k)) after)

-- stores of both copies of every word of the content
abbrev pub StoredBoth : ℕ → Option Value → List Act → Type 0
StoredBoth t o acts = (j x : ℕ) → nth (content o) j ≡ Some x → Within (Store (content_at (home t) j) Current x) acts × Within (Store (content_at (home t) j) Flushed x) acts

-- what a call must have seen of the tail behind which it commits
abbrev pub SawFor : ℕ → Call → List Act → Type 0
SawFor u (Put k v) acts = Unit {0}
SawFor u (Delete k) acts = SawLive u acts
SawFor u (Swap k e v) acts = (e ≡ u) × SawLive u acts
SawFor u (Get k) acts = ⊥

-- the exchange of a commit, with the words that stood before it
abbrev pub Committed : Pool → List ℕ → Call → ℕ → List Act → Type 0
Committed p ws c t acts = (u : ℕ) × (before after : List Act) × (acts ≡ before ++ wrote_link u t ∷ after) × StoredBoth t (value_of c) before × SawFor u c before × IsTail (mem_of p ws) (key_of c) u

-- a last load that showed the tail, with the words that stood then
abbrev pub AtTail : Pool → List ℕ → Call → ℕ → (List Act → Type 0) → List Act → Type 0
AtTail p ws c t seen acts = (before : List Act) × (acts ≡ before ++ shows_tail t ∷ []) × seen before × IsTail (mem_of p ws) (key_of c) t

-- a last load of the count that gave the length of the client's copy of the bindings, where the key is not in it
abbrev pub NoBinding : List (ℕ × List ℕ) → Call → List Act → Type 0
NoBinding names c acts = (before : List Act) × (acts ≡ before ++ Load Count (length names) ∷ []) × ((s : ℕ) → Within (s, key_of c) names → ⊥)

-- The acts of a call since its start decide its reply: ws are the words at the deciding access, names the client's copy of the bindings.
abbrev pub Decides : Pool → List ℕ → List (ℕ × List ℕ) → List Act → Call → Reply → Type 0
Decides p ws names acts (Get k) (Found t v) = AtTail p ws (Get k) t (SawWhole t v) acts
Decides p ws names acts (Put k v) (Stored t) = Committed p ws (Put k v) t acts
Decides p ws names acts (Swap k e v) (Stored t) = Committed p ws (Swap k e v) t acts
Decides p ws names acts (Delete k) (Deleted t) = Committed p ws (Delete k) t acts
Decides p ws names acts (Get k) Absent = ((u : ℕ) × AtTail p ws (Get k) u (SawDead u) acts) ⊎ NoBinding names (Get k) acts
Decides p ws names acts (Delete k) Absent = ((u : ℕ) × AtTail p ws (Delete k) u (SawDead u) acts) ⊎ NoBinding names (Delete k) acts
Decides p ws names acts (Swap k e v) Absent = ((u : ℕ) × AtTail p ws (Swap k e v) u (SawDead u) acts) ⊎ NoBinding names (Swap k e v) acts
Decides p ws names acts (Swap k e v) (Differs t) = (t ≢ e) × AtTail p ws (Swap k e v) t (SawLive t) acts
Decides p ws names acts c r = ⊥

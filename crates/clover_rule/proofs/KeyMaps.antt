-- The tagged map as a function of keys, and what commits make of it.
use Rattle.std.specs.Prelude.{ℕ, List, [], ◌∷◌, Option, Some, None, if◌then◌else◌}
use Rattle.std.specs.FinMap.{get}
use Rattle.std.specs.Str.{bytes_eq}
use Rattle.clover_map.specs.Tagged.{Tagged}
use Rattle.clover_map.specs.declared.bytes.Held.{Held}
use Rattle.clover_map.specs.declared.call.Entry.{Entry}
use Rattle.clover_rule.specs.History.{Version, pair_of, entry_key, commit_of}

-- what each key has: the tag and the value of its pair, or nothing
abbrev pub Map : Type 0
Map = List ℕ → Option Held

-- what the tagged map has at each key
abbrev pub shows : Tagged → Map
shows m = λ (k : List ℕ). get m k

-- a function of keys with another value at one key
abbrev pub at_key : {A : Type 0} → (List ℕ → A) → List ℕ → A → List ℕ → A
at_key f k a = λ (j : List ℕ). if bytes_eq k j then a else f j

-- the tag of a pair
abbrev pub tag_in : Option Held → Option ℕ
tag_in None = None
tag_in (Some p) = Some p.tag

-- the map after a commit at a key
abbrev pub changed : Map → List ℕ → Option Version → Map
changed m k None = m
changed m k (Some w) = at_key m k (pair_of w)

-- the map after an entry
abbrev pub after : Map → Entry → Map
after m e = changed m (entry_key e) (commit_of e)

-- the map to which a history leads
abbrev pub leads : Map → List Entry → Map
leads m [] = m
leads m (e ∷ h) = leads (after m e) h

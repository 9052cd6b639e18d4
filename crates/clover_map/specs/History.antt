-- Parts of a history: what one client did, and what was committed to one key.
use Rattle.std.specs.Prelude.{◌≡◌, ◌==◌, ◌&&◌, ◌+◌, ℕ, Bool, true, false, List, [], ◌∷◌, filter}
use Rattle.std.specs.Str.{bytes_eq}
use Rattle.clover_map.specs.declared.call.Call.{Call}
use Rattle.clover_map.specs.declared.call.Call.TheVariants.{Get, Put, Delete, Swap}
use Rattle.clover_map.specs.declared.call.Reply.{Reply}
use Rattle.clover_map.specs.declared.call.Reply.TheVariants.{Stored, Deleted}
use Rattle.clover_map.specs.declared.call.Entry.{Entry}

-- the entries of the client c, in order
abbrev pub own : List Entry → ℕ → List Entry
own h c = filter (λ e. e.client == c) h

-- The entries have the numbers n, n + 1, n + 2 and so on.
abbrev pub IsNumbered : ℕ → List Entry → Type 0
IsNumbered n [] = Unit {0}
IsNumbered n (e ∷ es) = (e.number ≡ n) × IsNumbered (n + 1) es

-- Each client's entries have the numbers 1, 2, 3 and so on.
abbrev pub IsNumberedByClient : List Entry → Type 0
IsNumberedByClient h = (c : ℕ) → IsNumbered 1 (own h c)

-- the key that a call names
abbrev pub key_of : Call → List ℕ
key_of (Get k) = k
key_of (Put k v) = k
key_of (Delete k) = k
key_of (Swap k e v) = k

-- whether a reply says that the call wrote
abbrev pub is_commit : Reply → Bool
is_commit (Stored t) = true
is_commit (Deleted t) = true
is_commit reply = false

-- whether an entry committed to the key k
abbrev pub commits_to : List ℕ → Entry → Bool
commits_to k e = is_commit e.reply && bytes_eq (key_of e.call) k

-- the entries that committed to the key k, in order
abbrev pub commits : List Entry → List ℕ → List Entry
commits h k = filter (commits_to k) h

-- Versions, those that a history commits, and what is left of a history that lost some.
use Rattle.std.specs.Prelude.{◌≡◌, ℕ, ◌≢◌, List, [], ◌∷◌, length, Bool, true, false, leb, Option, Some, None, if◌then◌else◌, filter_map}
use Rattle.clover_map.specs.declared.bytes.Value.{Value}
use Rattle.clover_map.specs.declared.bytes.Held.{Held}
use Rattle.clover_map.specs.declared.call.Call.{Call}
use Rattle.clover_map.specs.declared.call.Call.TheVariants.{Put, Delete, Swap}
use Rattle.clover_map.specs.declared.call.Reply.{Reply}
use Rattle.clover_map.specs.declared.call.Reply.TheVariants.{Stored, Deleted}
use Rattle.clover_map.specs.declared.call.Entry.{Entry}
use Rattle.clover_map.specs.Does.{held}
use Rattle.clover_map.specs.History.{key_of, commits}
use Rattle.clover_rule.specs.Lists.{Each}

-- a version: its tag, and its value, or none for a tombstone
pub record Version : Type 0 where
  pub tag : ℕ
  pub value : Option Value

-- the key that an entry's call names
abbrev pub entry_key : Entry → List ℕ
entry_key e = key_of e.call

-- the pair of a tag and a value, or none of a tombstone
abbrev pub paired : ℕ → Option Value → Option Held
paired t None = None
paired t (Some v) = Some (held t v)

-- the pair that a version stands for
abbrev pub pair_of : Version → Option Held
pair_of w = paired w.tag w.value

-- the version that a call with this reply commits
abbrev pub committed : Call → Reply → Option Version
committed (Put k v) (Stored t) = Some record { tag = t; value = Some v }
committed (Swap k e v) (Stored t) = Some record { tag = t; value = Some v }
committed (Delete k) (Deleted t) = Some record { tag = t; value = None }
committed _ _ = None

-- the version that an entry commits
abbrev pub commit_of : Entry → Option Version
commit_of e = committed e.call e.reply

-- the longer of two histories
abbrev pub longer : List Entry → List Entry → List Entry
longer a b = if leb (length a) (length b) then b else a

-- the versions that a history commits at a key, in order
abbrev pub commits_at : List ℕ → List Entry → List Version
commits_at k h = filter_map commit_of (commits h k)

-- what a key has once these versions were committed behind what it had
abbrev pub ends : Option Held → List Version → Option Held
ends x [] = x
ends x (w ∷ ws) = ends (pair_of w) ws

-- the committed version is one of the lost
abbrev pub lost_in : (ℕ → Bool) → Option Version → Bool
lost_in lost None = false
lost_in lost (Some w) = lost w.tag

-- the history without the commits of the lost tags
abbrev pub kept : (ℕ → Bool) → List Entry → List Entry
kept lost [] = []
kept lost (e ∷ h) = if lost_in lost (commit_of e) then kept lost h else e ∷ kept lost h

-- no entry names the key
abbrev pub Silent : List ℕ → List Entry → Type 0
Silent k h = Each (λ (e : Entry). entry_key e ≢ k) h

-- behind the commit of a lost tag no entry names its key
abbrev pub Unread : (ℕ → Bool) → List Entry → Type 0
Unread lost [] = Unit {0}
Unread lost (e ∷ h) = (lost_in lost (commit_of e) ≡ true → Silent (entry_key e) h) × Unread lost h

-- each lost commit is the last one of its key
abbrev pub Last : (ℕ → Bool) → List Entry → Type 0
Last lost [] = Unit {0}
Last lost (e ∷ h) = (lost_in lost (commit_of e) ≡ true → commits_at (entry_key e) h ≡ []) × Last lost h

-- At which tag each answered call of a client ended, in the order of the answers: what its cursors are.
use Rattle.std.specs.Prelude.{◌≡◌, ◌≢◌, ◌⊎◌, ℕ, ◌==◌, List, [], ◌∷◌, if◌then◌else◌, Option, Some, None}
use Rattle.clover_words.specs.declared.word.Word.TheVariants.{Next as NextOf}
use Rattle.clover_words.specs.Tag.{tag_number}
use Rattle.clover_map.specs.History.{key_of}
use Rattle.clover_map.specs.declared.call.Reply.{Reply}
use Rattle.clover_map.specs.declared.call.Reply.TheVariants.{Stored, Deleted, Found, Absent, Differs}
use Rattle.clover_script.specs.declared.line.Task.{Task}
use Rattle.clover_script.specs.declared.line.Task.TheVariants.{Client as ClientTask}
use Rattle.clover_rule.specs.Memory.{gen}
use Rattle.clover_rule.specs.Words.{next_of}
use Rattle.clover_rule.specs.declared.access.Access.{Access}
use Rattle.clover_rule.specs.declared.access.Act.{Act}
use Rattle.clover_rule.specs.declared.access.Act.TheVariants.{Load}

-- the tag whose next word the act loaded: that of its buffer at the generation that it showed
abbrev pub seen_tag : Act → ℕ
seen_tag (Load (NextOf b) x) = tag_number (record { node = b.node; index = b.index; generation = gen (next_of x) })
seen_tag act = 0

-- the latest call on this key ended at this tag
abbrev pub IsLatest : List ℕ → ℕ → List (List ℕ × ℕ) → Type 0
IsLatest k t [] = ⊥
IsLatest k t (q ∷ h) = (q ≡ (k, t)) ⊎ ((q.0 ≢ k) × IsLatest k t h)

-- the latest call of all was on another key, or there was none
abbrev pub IsElsewhere : List ℕ → List (List ℕ × ℕ) → Type 0
IsElsewhere k [] = Unit {0}
IsElsewhere k (q ∷ h) = q.0 ≢ k

-- where a call on the key may begin: at the tag at which the latest one on it ended; where that was not the latest of all, for the list of cursors may have lost it, also without a cursor
abbrev pub MayBegin : List (List ℕ × ℕ) → List ℕ → Option ℕ → Type 0
MayBegin h k (Some t) = IsLatest k t h
MayBegin h k None = IsElsewhere k h

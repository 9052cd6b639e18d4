-- At which tag each answered call of a client ended, in the order of the answers: what its cursors are.
use Rattle.std.specs.Prelude.{ℕ, ◌==◌, List, [], ◌∷◌, if◌then◌else◌, Option, Some}
use Rattle.clover_words.specs.declared.word.Word.TheVariants.{Next as NextOf}
use Rattle.clover_words.specs.Tag.{tag_number}
use Rattle.clover_map.specs.History.{key_of}
use Rattle.clover_map.specs.declared.call.Reply.{Reply}
use Rattle.clover_map.specs.declared.call.Reply.TheVariants.{Stored, Deleted, Found, Absent, Differs}
use Rattle.clover_script.specs.declared.line.Task.{Task}
use Rattle.clover_script.specs.declared.line.Task.TheVariants.{Client as ClientTask}
use Rattle.clover_rule.specs.Memory.{gen}
use Rattle.clover_rule.specs.Words.{next_of}
use Rattle.clover_rule.specs.declared.access.Access.{Access}
use Rattle.clover_rule.specs.declared.access.Act.{Act}
use Rattle.clover_rule.specs.declared.access.Act.TheVariants.{Load}
use Rattle.clover_run.specs.declared.event.Note.{Note}
use Rattle.clover_run.specs.declared.event.Note.TheVariants.{Answered}
use Rattle.clover_run.specs.Folds.{Doing, nothing, does_of}
use Rattle.clover_run.specs.Record.{Record}

-- the tag whose next word the act loaded: that of its buffer at the generation that it showed
abbrev pub seen_tags : Act → List ℕ
seen_tags (Load (NextOf b) x) = tag_number (record { node = b.node; index = b.index; generation = gen (next_of x) }) ∷ []
seen_tags act = []

-- the tag at which a call ended: its own where it committed, the tail where it did not; an absent key's tombstone is the tag of the last load, and a key that is absent by the count ended at none
abbrev pub end_tags : Reply → Act → List ℕ
end_tags (Stored t) act = t ∷ []
end_tags (Deleted t) act = t ∷ []
end_tags (Found t v) act = t ∷ []
end_tags (Differs t) act = t ∷ []
end_tags Absent act = seen_tags act

-- one answer more
abbrev pub with_end : List ℕ → List ℕ → List (List ℕ × ℕ) → List (List ℕ × ℕ)
with_end key [] h = h
with_end key (t ∷ ts) h = (key, t) ∷ h

abbrev pub ended_by : ℕ → Option Task → Note → Option Access → List (List ℕ × ℕ) → List (List ℕ × ℕ)
ended_by c (Some (ClientTask call written)) (Answered a reply) (Some x) h = if a == c then with_end (key_of call) (end_tags reply x.act) h else h
ended_by c task note access h = h

abbrev pub ended_from : ℕ → Doing → List (List ℕ × ℕ) → List Record → List (List ℕ × ℕ)
ended_from c d h [] = h
ended_from c d h (r ∷ rs) = ended_from c (does_of c d r) (ended_by c d.task r.note r.access h) rs

-- the keys of the client's answered calls with the tags at which they ended, the latest first
abbrev pub ended : ℕ → List Record → List (List ℕ × ℕ)
ended c rs = ended_from c nothing [] rs

-- How the words and the story change by a link, a raise and a recycling.
use Rattle.clover_words.specs.Tag.{home, age}
use Rattle.clover_rule.specs.History.{Version}
use Rattle.clover_rule.specs.Lists.{upd}
use Rattle.clover_rule.specs.Memory.{word, Mem, greater}
use Rattle.clover_rule.specs.Story.{Story, Chained, Taken}
use Prim.Native.Nat.{suc}
use Rattle.std.specs.Prelude.{ℕ, max, [], ◌∷◌, ◌++◌, length, Some, None}

-- a link of t behind u
abbrev pub linked_mem : Mem → ℕ → ℕ → Mem
linked_mem m u t = record m { next = upd m.next (home u) (word (age u) (Some t)) }

-- a version that is linked at the end of slot s
abbrev pub linked_story : Story → ℕ → Version → Story
linked_story st s w = record st {
  log = upd st.log s (st.log s ++ w ∷ []);
  slot_of = upd st.slot_of w.tag s;
  rank = upd st.rank w.tag (length (st.log s));
  place = upd st.place (home w.tag) (Chained s);
}

-- a raise to the link of the version u at place i of slot s
abbrev pub raised_mem : Mem → ℕ → ℕ → Mem
raised_mem m u t = record m { fnext = upd m.fnext (home u) (greater (m.fnext (home u)) (word (age u) (Some t))) }

-- the link to the version behind place i is flushed
abbrev pub raised_story : Story → ℕ → ℕ → Story
raised_story st s i = record st { sure = upd st.sure s (max (st.sure s) (suc (suc i))) }

-- the recycling exchange at the root version r of slot s
abbrev pub recycled_mem : Mem → ℕ → Mem
recycled_mem m r = record m { next = upd m.next (home r) (word (suc (age r)) None) }

-- the root version of slot s is recycled
abbrev pub recycled_story : Story → ℕ → ℕ → Story
recycled_story st s r = record st { gone = upd st.gone s (suc (st.gone s)); place = upd st.place (home r) Taken }

-- The story behind the words, which no code holds: the versions of each slot, and the core facts that hold of it and the words.
use Rattle.clover_words.specs.Tag.{home, age}
use Rattle.std.specs.FinMap.{get}
use Rattle.clover_map.specs.Legal.{Legal}
use Rattle.clover_map.specs.Tagged.{Tagged}
use Rattle.clover_rule.specs.History.{Version, commits_at, ends, Unread}
use Rattle.clover_rule.specs.Lists.{nth}
use Rattle.clover_rule.specs.Memory.{Next, word, gen, link, Mem}
use Rattle.clover_rule.specs.declared.view.ServerTask.{ServerTask}
use Prim.Native.Nat.{suc}
use Rattle.std.specs.Prelude.{◌≡◌, ℕ, ◌<◌, ◌≤◌, ◌≢◌, ◌⊎◌, List, [], ◌++◌, length, Bool, true, false, ltb, leb, Option, Some, None}
use Rattle.clover_map.specs.declared.call.Entry.{Entry}

-- where a buffer is: on a slot's chain, in the stock of a seat, free, worn, or held by the server's task
pub data Place : Type 0 where
  Chained : ℕ → Place
  Stocked : ℕ → Place
  Free : Place
  Worn : Place
  Taken : Place

-- off the chains and not held
abbrev pub Loose : Place → Type 0
Loose (Chained s) = ⊥
Loose Taken = ⊥
Loose _ = Unit {0}

-- the story: what happened to each slot, tag and buffer
pub record Story : Type 0 where
  -- the versions that a slot had since the run began, and how many of them were recycled
  pub log : ℕ → List Version
  pub gone : ℕ → ℕ
  -- how many versions have a flushed link to them or are the root: these are durable
  pub sure : ℕ → ℕ
  -- the slot and the place at which a tag stands
  pub slot_of : ℕ → ℕ
  pub rank : ℕ → ℕ
  -- where a buffer is
  pub place : ℕ → Place
  -- the places of a slot's root and of its flushed copy
  pub lead : ℕ → ℕ
  pub flead : ℕ → ℕ
  -- whether a slot's binding is among the names, and the key that a slot is bound to
  pub named : ℕ → Bool
  pub keys : ℕ → Option (List ℕ)
  -- the versions with which the run began
  pub first : ℕ → List Version
  -- the bindings, without one that waits for its last store, and the server's unfinished task
  pub bindings : List (ℕ × List ℕ)
  pub task : ServerTask
  -- the slot that has a key
  pub slot_named : List ℕ → ℕ

-- the tag of a version
abbrev pub tag_in_version : Option Version → Option ℕ
tag_in_version None = None
tag_in_version (Some w) = Some w.tag

-- the tag at a place of a slot
abbrev pub tag_at : Story → ℕ → ℕ → Option ℕ
tag_at st s i = tag_in_version (nth (st.log s) i)

-- a tag where the test holds
abbrev pub only : Bool → Option ℕ → Option ℕ
only true x = x
only false x = None

-- what a version at place i of slot s has as its next word
abbrev pub now_at : Story → ℕ → ℕ → ℕ → Next
now_at st s i t = word (age t) (tag_at st s (suc i))

-- what it has as the flushed copy of its next word: the link where the next version is sure
abbrev pub safe_at : Story → ℕ → ℕ → ℕ → Next
safe_at st s i t = word (age t) (only (ltb (suc i) (st.sure s)) (tag_at st s (suc i)))

-- a version that was not recycled: where its buffer is, and both copies of its next word
pub record Standing (m : Mem) (st : Story) (s i t : ℕ) : Type 0 where
  pub placed : st.place (home t) ≡ Chained s
  pub now : m.next (home t) ≡ now_at st s i t
  pub safe : m.fnext (home t) ≡ safe_at st s i t

-- a version that was recycled: its buffer went on, and the flushed copy of its next word is no older than its link
pub record Passed (m : Mem) (st : Story) (s i t : ℕ) : Type 0 where
  pub later : age t < gen (m.next (home t))
  pub safe : (age t < gen (m.fnext (home t))) ⊎ (m.fnext (home t) ≡ now_at st s i t)

-- while a binding waits for its last stores
pub record Waits (m : Mem) (st : Story) (s : ℕ) : Type 0 where
  pub empty : m.froot s ≡ None
  pub unnamed : st.named s ≡ false
  pub alone : length (st.log s) ≡ 1
  pub dead : (i : ℕ) (w : Version) → nth (st.log s) i ≡ Some w → w.value ≡ None

-- the core facts: what the decoded words have to do with the story
pub record Core (m : Mem) (st : Story) : Type 0 where
  -- a tag stands at one place of one slot
  pub spotted : (s i t : ℕ) → tag_at st s i ≡ Some t → (st.slot_of t ≡ s) × (st.rank t ≡ i)
  -- what was recycled has been passed, and what was not stands
  pub passed : (s i t : ℕ) → tag_at st s i ≡ Some t → i < st.gone s → Passed m st s i t
  pub standing : (s i t : ℕ) → tag_at st s i ≡ Some t → st.gone s ≤ i → Standing m st s i t
  -- all versions but the last are sure, and so is the root
  pub sure_most : (s : ℕ) → st.sure s ≤ length (st.log s)
  pub sure_all : (s : ℕ) → length (st.log s) ≤ suc (st.sure s)
  pub rooted : (s : ℕ) → 0 < length (st.log s) → st.lead s < st.sure s
  -- a slot without versions has its root at place 0
  pub bare : (s : ℕ) → length (st.log s) ≡ 0 → st.lead s ≡ 0
  -- the root is the first version that stands or the next one, and its flushed copy no later
  pub led : (s : ℕ) → (st.gone s ≤ st.flead s) × (st.flead s ≤ st.lead s) × (st.lead s ≤ suc (st.gone s))
  -- both copies of a root say so, but for a binding that waits
  pub root : (s : ℕ) → m.root s ≡ tag_at st s (st.lead s)
  pub froot : (s : ℕ) → (m.froot s ≡ tag_at st s (st.flead s)) ⊎ Waits m st s
  -- a buffer in a stock, free or worn is unlinked in both copies, and one that is held in the current one
  pub loose : (b : ℕ) → Loose (st.place b) → (link (m.next b) ≡ None) × (m.fnext b ≡ m.next b)
  pub held : (b : ℕ) → st.place b ≡ Taken → link (m.next b) ≡ None
  -- a buffer on a chain is that of a version that stands
  pub chained : (b s : ℕ) → st.place b ≡ Chained s → (i : ℕ) × (t : ℕ) × (tag_at st s i ≡ Some t) × (st.gone s ≤ i) × (home t ≡ b)

-- the tag stands at no durable place
abbrev pub unsure : Story → ℕ → Bool
unsure st t = leb (st.sure (st.slot_of t)) (st.rank t)

-- the history of the run, and the map and used tags with which it began
pub record Tale (st : Story) (m0 : Tagged) (used : List ℕ) (h : List Entry) : Type 0 where
  pub legal : Legal m0 used h
  pub told : (s : ℕ) (k : List ℕ) → st.keys s ≡ Some k → st.log s ≡ st.first s ++ commits_at k h
  pub began : (s : ℕ) (k : List ℕ) → st.keys s ≡ Some k → ends None (st.first s) ≡ get m0 k
  pub unread : Unread (unsure st) h
  pub settled : (s i : ℕ) (w : Version) → nth (st.first s) i ≡ Some w → i < st.sure s
  pub unbound : (k : List ℕ) → ((s : ℕ) → st.keys s ≢ Some k) → (get m0 k ≡ None) × (commits_at k h ≡ [])

-- the version at place i of slot s is durable
abbrev pub Durable : Story → ℕ → ℕ → Type 0
Durable st s t = (i : ℕ) × (tag_at st s i ≡ Some t) × (i < st.sure s)

-- The helping facts beside the core: ranges, keys, stages, names, and what the view of the server says.
use Prim.Native.Nat.{suc}
use Rattle.std.specs.Prelude.{◌≡◌, ℕ, ◌+◌, ◌<◌, ◌≤◌, ◌≢◌, ◌⊎◌, List, [], ◌∷◌, ◌++◌, length, Bool, true, false, Option, Some, None, if◌then◌else◌, ◌==◌}
use Rattle.clover_words.specs.Meta.{tombstone}
use Rattle.clover_words.specs.Tag.{home, age}
use Rattle.clover_map.specs.declared.call.Entry.{Entry}
use Rattle.clover_map.specs.Key.{IsKey}
use Rattle.clover_map.specs.Tagged.{Tagged}
use Rattle.clover_rule.specs.Content.{inside, spelling, InRange, Spells, Fits}
use Rattle.clover_map.specs.Legal.{used_by}
use Rattle.clover_rule.specs.History.{Version}
use Rattle.clover_rule.specs.Lists.{Each, nth, Within}
use Rattle.clover_rule.specs.Memory.{Mem, word, gen}
use Rattle.clover_rule.specs.Story.{Place, Chained, Stocked, Free, Worn, Taken, Story, tag_at, Durable}
use Rattle.clover_rule.specs.Views.{book_at, root_at, Book, book, Basis, Holds, Naming}
use Rattle.clover_rule.specs.declared.view.BufferState.TheVariants.{Free as IsFree, Worn as IsWorn, Bound as IsBound, Out as IsOut}
use Rattle.clover_rule.specs.declared.view.NewBinding.{NewBinding}
use Rattle.clover_rule.specs.declared.view.Recycling.{Recycling}
use Rattle.clover_rule.specs.declared.view.Role.TheVariants.{Client, Serving}
use Rattle.clover_rule.specs.declared.view.Server.{Server}
use Rattle.clover_rule.specs.declared.view.ServerTask.{ServerTask}
use Rattle.clover_rule.specs.declared.view.ServerTask.TheVariants.{Idle, Storing, Rooted, Waiting, Loaded, Raised, Led, Both, Exchanged}
use Rattle.clover_rule.specs.declared.view.View.{View}
use Rattle.clover_words.specs.declared.pool.Pool.{Pool}

-- a place from which a buffer may come on a chain
abbrev pub Ready : Place → Type 0
Ready Free = Unit {0}
Ready (Stocked i) = Unit {0}
Ready _ = ⊥

-- tags, generations and contents are in their ranges
pub record Ranged (l : Pool) (m : Mem) (st : Story) : Type 0 where
  pub tags : (s i t : ℕ) → tag_at st s i ≡ Some t → InRange l t
  pub own : (b : ℕ) → gen (m.next b) ≤ l.wear
  pub below : (b : ℕ) → gen (m.fnext b) ≤ gen (m.next b)
  pub ready : (b : ℕ) → Ready (st.place b) → (inside l b ≡ true) × (gen (m.next b) < l.wear)
  pub worn : (b : ℕ) → inside l b ≡ true → st.place b ≡ Worn → gen (m.next b) ≡ l.wear
  pub fits : (s i : ℕ) (w : Version) → nth (st.log s) i ≡ Some w → Fits l w.value

-- bound slots have their keys' words in both copies, and an unbound slot has nothing
pub record Keyed (l : Pool) (m : Mem) (st : Story) : Type 0 where
  pub current : (s : ℕ) (k : List ℕ) → st.keys s ≡ Some k → Spells (m.key s) k
  pub flushed : (s : ℕ) (k : List ℕ) → st.keys s ≡ Some k → Spells (m.fkey s) k
  pub bare : (s : ℕ) → st.keys s ≡ None → length (st.log s) ≡ 0
  pub nameless : (s : ℕ) → st.keys s ≡ None → st.named s ≡ false
  pub valid : (s : ℕ) (k : List ℕ) → st.keys s ≡ Some k → IsKey k
  pub filled : (s : ℕ) (k : List ℕ) → st.keys s ≡ Some k → 0 < length (st.log s)
  pub slots : (s : ℕ) (k : List ℕ) → st.keys s ≡ Some k → s < l.slots

-- the root and its flushed copy are the first version that stands
abbrev pub Settled : Story → ℕ → Type 0
Settled st s = (st.lead s ≡ st.gone s) × (st.flead s ≡ st.gone s)

-- the slot whose two root copies are on their way
abbrev pub moving : ServerTask → Option ℕ
moving (Led c) = Some c.slot
moving (Both c) = Some c.slot
moving _ = None

-- the slot that waits for its count
abbrev pub unnamed : ServerTask → Option ℕ
unnamed (Rooted b) = Some b.slot
unnamed (Waiting b) = Some b.slot
unnamed _ = None

-- the buffer that the task holds
abbrev pub holding : ServerTask → Option ℕ
holding (Storing b n) = Some (home b.tag)
holding (Exchanged c) = Some (home c.root)
holding _ = None

-- a binding of which n stores were made, none of them the root's
pub record IsStoring (l : Pool) (m : Mem) (st : Story) (b : NewBinding) (n : ℕ) : Type 0 where
  pub place : st.place (home b.tag) ≡ Taken
  pub now : m.next (home b.tag) ≡ word (age b.tag) None
  pub safe : m.fnext (home b.tag) ≡ word (age b.tag) None
  pub range : InRange l b.tag
  pub slot : b.slot < l.slots
  pub bare : st.keys b.slot ≡ None
  pub unnamed : st.named b.slot ≡ false
  pub absent : (s : ℕ) → st.keys s ≢ Some b.key
  pub valid : IsKey b.key
  pub body : 1 ≤ n → m.body (home b.tag) 0 ≡ tombstone
  pub fbody : 2 ≤ n → m.fbody (home b.tag) 0 ≡ tombstone
  pub key : (j x : ℕ) → nth (spelling b.key) j ≡ Some x → 3 + j ≤ n → m.key b.slot j ≡ x
  pub fkey : (j x : ℕ) → nth (spelling b.key) j ≡ Some x → 3 + j + length (spelling b.key) ≤ n → m.fkey b.slot j ≡ x

-- a binding whose root is stored: its slot has the tombstone alone, and no name yet
pub record IsWaiting (m : Mem) (st : Story) (b : NewBinding) : Type 0 where
  pub key : st.keys b.slot ≡ Some b.key
  pub unnamed : st.named b.slot ≡ false
  pub alone : length (st.log b.slot) ≡ 1
  pub tag : tag_at st b.slot 0 ≡ Some b.tag
  pub gone : st.gone b.slot ≡ 0

-- a recycling whose old root still stands: the next version is the one behind it
pub record IsRecycling (st : Story) (c : Recycling) : Type 0 where
  pub root : tag_at st c.slot (st.gone c.slot) ≡ Some c.root
  pub next : tag_at st c.slot (suc (st.gone c.slot)) ≡ Some c.next

-- a recycling whose old root is gone: only the flushed copy of its next word is still its link
pub record IsExchanged (l : Pool) (m : Mem) (st : Story) (c : Recycling) : Type 0 where
  pub place : st.place (home c.root) ≡ Taken
  pub now : m.next (home c.root) ≡ word (suc (age c.root)) None
  pub safe : m.fnext (home c.root) ≡ word (age c.root) (Some c.next)
  pub old : (i : ℕ) × (suc i ≡ st.gone c.slot) × (tag_at st c.slot i ≡ Some c.root)
  pub root : tag_at st c.slot (st.gone c.slot) ≡ Some c.next
  -- both copies of its content stand still
  pub body : (w : Version) × (nth (st.log c.slot) old.0 ≡ Some w) × Holds m w
  pub inside : inside l (home c.root) ≡ true
  pub young : age c.root < l.wear

-- what words and story say of an unfinished task
abbrev pub AtStage : Pool → Mem → Story → ServerTask → Type 0
AtStage l m st Idle = Unit {0}
AtStage l m st (Storing b n) = IsStoring l m st b n
AtStage l m st (Rooted b) = IsWaiting m st b × (m.froot b.slot ≡ None)
AtStage l m st (Waiting b) = IsWaiting m st b × (m.froot b.slot ≡ Some b.tag)
AtStage l m st (Loaded c) = IsRecycling st c
AtStage l m st (Raised c) = IsRecycling st c × (suc (st.gone c.slot) < st.sure c.slot)
AtStage l m st (Led c) = IsRecycling st c × (suc (st.gone c.slot) < st.sure c.slot) × (st.lead c.slot ≡ suc (st.gone c.slot)) × (st.flead c.slot ≡ st.gone c.slot)
AtStage l m st (Both c) = IsRecycling st c × (suc (st.gone c.slot) < st.sure c.slot) × (st.lead c.slot ≡ suc (st.gone c.slot)) × (st.flead c.slot ≡ suc (st.gone c.slot))
AtStage l m st (Exchanged c) = IsExchanged l m st c

-- no other slot's root is on its way, no other buffer is held, and no other slot waits for its name
pub record Stage (l : Pool) (m : Mem) (st : Story) (task : ServerTask) : Type 0 where
  pub settled : (s : ℕ) → moving task ≢ Some s → Settled st s
  pub holds : (b : ℕ) → st.place b ≡ Taken → holding task ≡ Some b
  pub names : (s : ℕ) (k : List ℕ) → st.keys s ≡ Some k → (st.named s ≡ true) ⊎ (unnamed task ≡ Some s)
  pub here : AtStage l m st task

-- the helping facts of the words and the story
pub record Help (l : Pool) (m : Mem) (st : Story) : Type 0 where
  pub ranged : Ranged l m st
  pub keyed : Keyed l m st
  pub naming : Naming m st st.slot_named
  pub stage : Stage l m st st.task
  pub short : (s t : ℕ) → m.short s ≡ Some t → Durable st s t

-- where the server's directory lags behind the story, which root it has: none of a slot that is being bound, the old one of a recycling
abbrev pub lagging : ServerTask → ℕ → Option (Option ℕ)
lagging (Rooted b) s = if b.slot == s then Some None else None
lagging (Waiting b) s = if b.slot == s then Some None else None
lagging (Exchanged c) s = if c.slot == s then Some (Some c.root) else None
lagging _ s = None

-- what is there, or else the other
abbrev pub or_else : {A : Type 0} → Option A → A → A
or_else None x = x
or_else (Some y) x = y

-- the root of a slot in the server's directory
abbrev pub root_in : ServerTask → Story → ℕ → Option ℕ
root_in task st s = or_else (lagging task s) (tag_at st s (st.gone s))

-- the tag is one of the buffer
abbrev pub is_home : Option ℕ → ℕ → Bool
is_home None b = false
is_home (Some t) b = home t == b

-- what the books say of the buffer that the task holds
abbrev pub held_book : ServerTask → ℕ → Book
held_book (Exchanged c) g = book (age c.root) IsBound
held_book _ g = book g IsOut

-- what the books say of a buffer at a place
abbrev pub book_of : ServerTask → Story → Place → ℕ → ℕ → Book
book_of task st (Chained s) g b = book g (if is_home (root_in task st s) b then IsBound else IsOut)
book_of task st (Stocked i) g b = book g IsOut
book_of task st Free g b = book g IsFree
book_of task st Worn g b = book g IsWorn
book_of task st Taken g b = held_book task g

-- the binding that the directory has and the names have not
abbrev pub waiting_name : ServerTask → List (ℕ × List ℕ)
waiting_name (Rooted b) = (b.slot, b.key) ∷ []
waiting_name (Waiting b) = (b.slot, b.key) ∷ []
waiting_name _ = []

-- the server's view is what the story says
pub record Serves (l : Pool) (m : Mem) (st : Story) (task : ServerTask) (sv : Server) : Type 0 where
  pub task_is : sv.task ≡ task
  pub directory : sv.directory ≡ st.bindings ++ waiting_name task
  pub roots : (s : ℕ) → root_at sv s ≡ root_in task st s
  pub books : (b : ℕ) → inside l b ≡ true → book_at sv b ≡ book_of task st (st.place b) (gen (m.next b)) b

-- the helping facts of words, views, story and history
pub record Whole (l : Pool) (m0 : Tagged) (used : List ℕ) (m : Mem) (vs : List View) (st : Story) (h : List Entry) : Type 0 where
  pub basis : Basis m0 used m vs st h
  pub help : Help l m st
  pub serves : (i : ℕ) (v : View) → nth vs i ≡ Some v → v.pass.role ≡ Serving → Serves l m st st.task v.server
  pub one : (i j : ℕ) (v w : View) → nth vs i ≡ Some v → nth vs j ≡ Some w → v.pass.role ≡ Serving → w.pass.role ≡ Serving → i ≡ j
  -- no used tag is above the flushed copy's generation
  pub safe : Each (λ (t : ℕ). (age t < l.wear) × (age t ≤ gen (m.fnext (home t)))) (used_by used h)
  -- each client is one of those that the server made
  pub made : (i j n : ℕ) (v w : View) → nth vs i ≡ Some v → nth vs j ≡ Some w → v.pass.role ≡ Serving → w.pass.role ≡ Client n → Within n v.server.clients
  pub entered : (i : ℕ) (v : View) → nth vs i ≡ Some v → v.pass.role ≡ Serving → Each (λ (e : Entry). Within e.client v.server.clients) h

-- What each seat's view holds, and the rule over words, views and one history.
use Prim.Native.Nat.{suc}
use Rattle.std.specs.Prelude.{◌≡◌, ℕ, ◌<◌, ◌≤◌, ◌≢◌, ◌⊎◌, List, [], ◌∷◌, length, set, true, false, Option, Some, None, if◌then◌else◌, ◌==◌}
use Rattle.clover_words.specs.Tag.{home, age}
use Rattle.clover_map.specs.declared.call.Entry.{Entry}
use Rattle.clover_map.specs.History.{own}
use Rattle.clover_rule.specs.Content.{content}
use Rattle.clover_map.specs.Legal.{used_by}
use Rattle.clover_rule.specs.History.{Version}
use Rattle.clover_rule.specs.Lists.{Within, IsPrefix, IsPart, Each, nth, upd}
use Rattle.clover_rule.specs.Memory.{Mem, Next, word, gen, link}
use Rattle.clover_rule.specs.Story.{Place, Chained, Stocked, Story, tag_at, Core, Tale, Durable}
use Rattle.clover_rule.specs.declared.view.BookLine.{BookLine}
use Rattle.clover_rule.specs.declared.view.BufferState.{BufferState}
use Rattle.clover_rule.specs.declared.view.BufferState.TheVariants.{Free as IsFree, Worn as IsWorn}
use Rattle.clover_rule.specs.declared.view.Content.{Content}
use Rattle.clover_rule.specs.declared.view.Link.{Link}
use Rattle.clover_rule.specs.declared.view.Pass.{Pass}
use Rattle.clover_rule.specs.declared.view.Role.{Role}
use Rattle.clover_rule.specs.declared.view.Role.TheVariants.{Client}
use Rattle.clover_rule.specs.declared.view.Server.{Server}
use Rattle.clover_rule.specs.declared.view.Shown.{Shown}
use Rattle.clover_rule.specs.declared.view.ServerTask.TheVariants.{Idle}
use Rattle.clover_rule.specs.declared.view.View.{View}
use Rattle.clover_words.specs.declared.pool.Pool.{Pool}
use Rattle.clover_map.specs.Tagged.{Tagged}

-- what the books say of a buffer: its generation and its state
pub data Book : Type 0 where
  book : ℕ → BufferState → Book

-- a buffer at this generation may serve again, or has served all
abbrev pub free_or_worn : ℕ → ℕ → BufferState
free_or_worn wear g = if g == wear then IsWorn else IsFree

-- what the books say of a buffer: one that no line names is free at generation 0
abbrev pub find_book : List BookLine → ℕ → Book
find_book [] b = book 0 IsFree
find_book (x ∷ xs) b = if x.buffer == b then book x.generation x.state else find_book xs b

-- a line of the books
abbrev pub line : ℕ → ℕ → BufferState → BookLine
line b g s = record { buffer = b; generation = g; state = s }

-- the root version of a slot
abbrev pub find_root : List (ℕ × ℕ) → ℕ → Option ℕ
find_root [] s = None
find_root (x ∷ xs) s = if x.0 == s then Some x.1 else find_root xs s

-- the books of a server
abbrev pub book_at : Server → ℕ → Book
book_at sv = find_book sv.books

-- the roots of a server
abbrev pub root_at : Server → ℕ → Option ℕ
root_at sv = find_root sv.roots

-- a next word as a view holds it
abbrev pub shown : ℕ → ℕ → Option ℕ → Shown
shown b a x = record { buffer = b; own = a; link = x }

-- both copies of each word of the version's content stand in its buffer
abbrev pub Holds : Mem → Version → Type 0
Holds m w = (k x : ℕ) → nth (content w.value) k ≡ Some x → (m.body (home w.tag) k ≡ x) × (m.fbody (home w.tag) k ≡ x)

-- a tag of a history, or one used before, that no buffer can have again
abbrev pub Spent : Mem → Story → ℕ → Type 0
Spent m st t = (age t < gen (m.next (home t))) ⊎ ((s : ℕ) × (st.place (home t) ≡ Chained s) × (age t ≡ gen (m.next (home t))))

-- a version of slot s with its content, at a place
abbrev pub Stands : Story → ℕ → ℕ → Version → Type 0
Stands st s i w = nth (st.log s) i ≡ Some w

-- the link goes from a place of its slot to the next one
abbrev pub IsLink : Story → Link → Type 0
IsLink st l = (i : ℕ) × (tag_at st l.slot i ≡ Some l.from) × (tag_at st l.slot (suc i) ≡ Some l.to)

-- a value that a next word has or had
abbrev pub Past : Mem → Story → ℕ → Next → Type 0
Past m st b n = (gen n ≤ gen (m.next b)) × ((link n ≡ None) ⊎ ((l : Link) × IsLink st l × (home l.from ≡ b) × (age l.from ≡ gen n) × (link n ≡ Some l.to)))

-- a word copied under a tag is that version's, or the tag had been passed
abbrev pub IsCopied : Story → ℕ × Content → Type 0
IsCopied st c = (i : ℕ) × (w : Version) × Stands st c.0 i w × (w.tag ≡ c.1.tag) × (((y : ℕ) → nth (content w.value) c.1.place ≡ Some y → y ≡ c.1.word) ⊎ (i < st.gone c.0))

-- a tag in the stock of the seat id
abbrev pub Owned : Mem → Story → ℕ → ℕ → Type 0
Owned m st id t = (st.place (home t) ≡ Stocked id) × (gen (m.next (home t)) ≡ age t)

-- no two tags of a stock have one buffer
abbrev pub Apart : List ℕ → Type 0
Apart [] = Unit {0}
Apart (t ∷ ts) = Each (λ (u : ℕ). home u ≢ home t) ts × Apart ts

-- a client's calls are its entries
abbrev pub OwnCalls : Role → List Entry → List Entry → Type 0
OwnCalls (Client c) calls h = calls ≡ own h c
OwnCalls _ calls h = Unit {0}

-- what a view knows of versions is so: its durable tags, links, next words and copied contents
pub record Knows (m : Mem) (st : Story) (tags : List (ℕ × ℕ)) (ls : List Link) (ws : List Shown) (cs : List (ℕ × Content)) : Type 0 where
  pub durable : Each (λ (p : ℕ × ℕ). Durable st p.0 p.1) tags
  pub links : Each (IsLink st) ls
  pub words : Each (λ (p : Shown). Past m st p.buffer (word p.own p.link)) ws
  pub copied : Each (IsCopied st) cs

-- and so are its names, those on their way from a place on, and its greatest count
pub record Named (bindings : List (ℕ × List ℕ)) (count : ℕ) (ns on : List (ℕ × List ℕ)) (from n : ℕ) : Type 0 where
  pub names : IsPrefix ns bindings
  pub added : (on ≡ []) ⊎ IsPart from on bindings
  pub most : n ≤ count

-- what holds of the view of the seat id
pub record ViewOk (m : Mem) (st : Story) (h : List Entry) (id : ℕ) (v : View) : Type 0 where
  pub stocked : Each (Owned m st id) v.pass.stock
  pub apart : Apart v.pass.stock
  pub knows : Knows m st v.pass.durable v.pass.links v.pass.words v.pass.copied
  pub written : Each (λ (c : Content). Owned m st id c.tag × (m.body (home c.tag) c.place ≡ c.word)) v.pass.written
  pub flushed : Each (λ (c : Content). Owned m st id c.tag × (m.fbody (home c.tag) c.place ≡ c.word)) v.pass.flushed
  pub named : Named st.bindings m.count v.pass.names v.pass.added v.pass.from v.pass.most
  pub history : IsPrefix v.pass.history h
  pub calls : OwnCalls v.pass.role v.pass.calls h

-- a client's number is that of one seat
abbrev pub Numbered : List View → Type 0
Numbered vs = (i j n : ℕ) (v w : View) → nth vs i ≡ Some v → nth vs j ≡ Some w → v.pass.role ≡ Client n → w.pass.role ≡ Client n → i ≡ j

-- the facts of the core, the history and the views
pub record Basis (m0 : Tagged) (used : List ℕ) (m : Mem) (vs : List View) (st : Story) (h : List Entry) : Type 0 where
  pub core : Core m st
  pub tale : Tale st m0 used h
  pub bodies : (s i : ℕ) (w : Version) → Stands st s i w → st.gone s ≤ i → Holds m w
  pub spent : Each (Spent m st) (used_by used h)
  pub bound : (s : ℕ) (k : List ℕ) → Within (s, k) st.bindings → (st.keys s ≡ Some k) × (st.named s ≡ true)
  pub keyed : (s1 s2 : ℕ) (k : List ℕ) → st.keys s1 ≡ Some k → st.keys s2 ≡ Some k → s1 ≡ s2
  pub views : (i : ℕ) (v : View) → nth vs i ≡ Some v → ViewOk m st h i v
  pub numbered : Numbered vs
  pub longest : (i : ℕ) × (v : View) × (nth vs i ≡ Some v) × (v.pass.history ≡ h)

-- one view of a list is renewed
abbrev pub renewed : List View → ℕ → View → List View
renewed vs i v = set vs i v

-- the content words of other tags
abbrev pub without : ℕ → List Content → List Content
without t [] = []
without t (c ∷ cs) = if c.tag == t then without t cs else c ∷ without t cs

-- a raise over a link: its target is durable
abbrev pub raise_view : View → Link → View
raise_view v l = record v { pass = record v.pass { durable = (l.slot, l.to) ∷ v.pass.durable } }

-- where buffers are once those of a batch are at one place
abbrev pub batch_at : (ℕ → Place) → List ℕ → Place → ℕ → Place
batch_at f [] q = f
batch_at f (t ∷ ts) q = batch_at (upd f (home t) q) ts q

-- the server's part of any other actor
abbrev pub no_server : Server
no_server = record { books = []; directory = []; roots = []; task = Idle; unlinked = []; clients = []; joined = [] }

-- the pass of an actor that knows the run's beginning alone
abbrev pub start_pass : Pool → Tagged → List ℕ → Role → Pass
start_pass p first used ro = record {
  pool = p;
  map = first;
  used = used;
  role = ro;
  stock = [];
  durable = [];
  links = [];
  words = [];
  written = [];
  flushed = [];
  copied = [];
  names = [];
  most = 0;
  calls = [];
  history = [];
  since = [];
  turns = 0;
  all_turns = 0;
  made = 0;
  refusals = [];
  from = 0;
  added = [];
}

-- the pass of another actor of the same run
abbrev pub empty_pass : Pass → Role → Pass
empty_pass v ro = start_pass v.pool v.map v.used ro

-- a view with this pass, of an actor that is not the server
abbrev pub alone : Pass → View
alone v = record { pass = v; server = no_server; plan = [] }

-- no slot stands twice among the bindings
abbrev pub SlotsOnce : List (ℕ × List ℕ) → Type 0
SlotsOnce bs = (i j s : ℕ) (k k1 : List ℕ) → nth bs i ≡ Some (s, k) → nth bs j ≡ Some (s, k1) → i ≡ j

-- the bindings, the count, and the slot that has a key
pub record Naming (m : Mem) (st : Story) (slot_named : List ℕ → ℕ) : Type 0 where
  pub counted : m.count ≡ length st.bindings
  pub found : (s : ℕ) (k : List ℕ) → st.keys s ≡ Some k → slot_named k ≡ s
  pub listed : (s : ℕ) (k : List ℕ) → st.keys s ≡ Some k → st.named s ≡ true → Within (s, k) st.bindings
  pub waiting : (s : ℕ) (k : List ℕ) → st.keys s ≡ Some k → st.named s ≡ false → (i : ℕ) (w : Version) → nth (st.log s) i ≡ Some w → w.value ≡ None
  pub once : SlotsOnce st.bindings

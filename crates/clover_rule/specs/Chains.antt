-- Chains, contents, next words and roots, in words of the pool alone.
use Prim.Native.Nat.{suc}
use Rattle.std.specs.Prelude.{◌≡◌, ℕ, ◌<◌, List, [], ◌∷◌, Option, Some, None}
use Rattle.clover_words.specs.Tag.{home, age}
use Rattle.clover_map.specs.declared.bytes.Value.{Value}
use Rattle.clover_map.specs.declared.call.Entry.{Entry}
use Rattle.clover_rule.specs.History.{Version, commit_of}
use Rattle.clover_rule.specs.Holding.{recycled_by}
use Rattle.clover_rule.specs.Lists.{Each, Within}
use Rattle.clover_rule.specs.Memory.{Mem, Next, word, gen, link, order}
use Rattle.clover_rule.specs.Views.{Holds}
use Rattle.clover_rule.specs.declared.view.NewBinding.{NewBinding}
use Rattle.clover_rule.specs.declared.view.Recycling.{Recycling}
use Rattle.clover_rule.specs.declared.view.Shown.{Shown}
use Rattle.clover_rule.specs.declared.view.ServerTask.{ServerTask}
use Rattle.clover_rule.specs.declared.view.ServerTask.TheVariants.{Rooted, Led}
use Rattle.clover_rule.specs.declared.view.View.{View}

-- the tags that one follows from a root or a link, in the current copies
abbrev pub Walk : Mem → Option ℕ → List ℕ → Type 0
Walk m x [] = x ≡ None
Walk m x (t ∷ ts) = (x ≡ Some t) × (gen (m.next (home t)) ≡ age t) × Walk m (link (m.next (home t))) ts

-- each slot with a root has a chain, and no two tags on chains have one buffer
pub record ChainsStand (m : Mem) (ch : ℕ → List ℕ) : Type 0 where
  pub walk : (s : ℕ) → Walk m (m.root s) (ch s)
  pub apart : (s s' t t' : ℕ) → Within t (ch s) → Within t' (ch s') → home t' ≡ home t → (s' ≡ s) × (t' ≡ t)

-- Part 2. Each slot with a root has a chain, and chains share no buffer; both copies of each content word on a chain, or of the version under recycling, are the committed content.
pub record ChainsAndContents (m : Mem) (chain : ℕ → List ℕ) (task : ServerTask) (value : ℕ → Option Value) (h : List Entry) : Type 0 where
  pub chains : ChainsStand m chain
  pub contents : (s t : ℕ) → Within t (chain s) → Holds m (record { tag = t; value = value t })
  pub leaving : (s t : ℕ) → recycled_by task s ≡ Some t → Holds m (record { tag = t; value = value t })
  pub committed : (e : Entry) (w : Version) → Within e h → commit_of e ≡ Some w → value w.tag ≡ w.value

-- the values of one next word, the latest first: each is below n and below the one before it, so no generation has two links
abbrev pub Falls : ℕ → List Next → Type 0
Falls n [] = Unit {0}
Falls n (x ∷ xs) = (order x < n) × Falls (order x) xs

-- each next word has one list of falling values that begins with the current copy and has the flushed one and those that views saw
pub record HasValues (m : Mem) (vs : List View) (b : ℕ) : Type 0 where
  pub values : List Next
  pub falls : Falls (suc (order (m.next b))) values
  pub current : Within (m.next b) values
  pub flushed : Within (m.fnext b) values
  pub seen : (v : View) → Within v vs → Each (λ (p : Shown). p.buffer ≡ b → Within (word p.own p.link) values) v.pass.words

-- Part 3. For each next word there is one rising list of values, with one link at most in each generation, that ends with the current copy and has the flushed one and each value that a view loaded or wrote.
abbrev pub NextWordsRise : Mem → List View → Type 0
NextWordsRise m vs = (b : ℕ) → HasValues m vs b

-- each link but the last is flushed
abbrev pub AllButLast : Mem → List ℕ → Type 0
AllButLast m [] = Unit {0}
AllButLast m (t ∷ []) = Unit {0}
AllButLast m (t ∷ u ∷ []) = Unit {0}
AllButLast m (t ∷ u ∷ v ∷ ts) = (m.fnext (home t) ≡ m.next (home t)) × AllButLast m (u ∷ v ∷ ts)

-- the flushed copy of a slot's root: it is the current one; or it is 0 until the binding stores it, and the chain is the binding's tombstone alone; or it is the version under recycling, whose flushed link leads to the current root
pub data RootFlushed (m : Mem) (chain : ℕ → List ℕ) (task : ServerTask) (value : ℕ → Option Value) (s : ℕ) : Type 0 where
  same : m.froot s ≡ m.root s → RootFlushed m chain task value s
  rooted : (b : NewBinding) → task ≡ Rooted b → b.slot ≡ s → m.froot s ≡ None → chain s ≡ b.tag ∷ [] → value b.tag ≡ None → RootFlushed m chain task value s
  led : (c : Recycling) → task ≡ Led c → c.slot ≡ s → m.froot s ≡ Some c.root → m.root s ≡ Some c.next → m.fnext (home c.root) ≡ word (age c.root) (Some c.next) → RootFlushed m chain task value s

-- Part 4. On a chain every link but the last is flushed, and each root's flushed copy is as just said.
pub record LinksAndRootsFlushed (m : Mem) (chain : ℕ → List ℕ) (task : ServerTask) (value : ℕ → Option Value) : Type 0 where
  pub links : (s : ℕ) → AllButLast m (chain s)
  pub roots : (s : ℕ) → RootFlushed m chain task value s

-- The history, the map to which it leads, and what views have of it.
use Rattle.std.specs.FinMap.{get}
use Rattle.std.specs.Prelude.{◌≡◌, ◌≢◌, ℕ, ◌≤◌, List, [], ◌∷◌, true, Option, Some, None}
use Rattle.clover_words.specs.declared.pool.Pool.{Pool}
use Rattle.clover_words.specs.Tag.{home, age}
use Rattle.clover_map.specs.declared.bytes.Held.{Held}
use Rattle.clover_map.specs.declared.bytes.Value.{Value}
use Rattle.clover_map.specs.declared.call.Entry.{Entry}
use Rattle.clover_map.specs.Key.{IsKey}
use Rattle.clover_map.specs.Legal.{Legal, Leads, used_by}
use Rattle.clover_map.specs.Tagged.{Tagged}
use Rattle.clover_rule.specs.Content.{inside, Spells}
use Rattle.clover_rule.specs.History.{paired}
use Rattle.clover_rule.specs.Holding.{IsServer}
use Rattle.clover_rule.specs.Lists.{Each, Within, IsPrefix, nth}
use Rattle.clover_rule.specs.Memory.{Mem, gen}
use Rattle.clover_rule.specs.Views.{OwnCalls, book, book_at}
use Rattle.clover_rule.specs.declared.view.BufferState.TheVariants.{Free as IsFree}
use Rattle.clover_rule.specs.declared.view.Role.TheVariants.{Client}
use Rattle.clover_rule.specs.declared.view.View.{View}

-- the last tag of a chain with its value
abbrev pub tail_pair : (ℕ → Option Value) → List ℕ → Option Held
tail_pair value [] = None
tail_pair value (t ∷ []) = paired t (value t)
tail_pair value (t ∷ u ∷ ts) = tail_pair value (u ∷ ts)

-- a slot has a key exactly where it has a root; its key words spell it, and no other slot has it
pub record SlotKeys (m : Mem) (keys : ℕ → Option (List ℕ)) : Type 0 where
  pub rooted : (s t : ℕ) → m.root s ≡ Some t → (k : List ℕ) × (keys s ≡ Some k)
  pub bound : (s : ℕ) (k : List ℕ) → keys s ≡ Some k → (t : ℕ) × (m.root s ≡ Some t)
  pub valid : (s : ℕ) (k : List ℕ) → keys s ≡ Some k → IsKey k
  pub spelled : (s : ℕ) (k : List ℕ) → keys s ≡ Some k → Spells (m.key s) k
  pub once : (s1 s2 : ℕ) (k : List ℕ) → keys s1 ≡ Some k → keys s2 ≡ Some k → s1 ≡ s2

-- the history leads to a map that has at each key what the tail of its slot says, and nothing at a key that no slot has
pub record LeadsToTails (first : Tagged) (used : List ℕ) (h : List Entry) (chain : ℕ → List ℕ) (value : ℕ → Option Value) (keys : ℕ → Option (List ℕ)) : Type 0 where
  pub map : Tagged
  pub leads : Leads first used h map
  pub bound : (s : ℕ) (k : List ℕ) → keys s ≡ Some k → get map k ≡ tail_pair value (chain s)
  pub unbound : (k : List ℕ) → ((s : ℕ) → keys s ≢ Some k) → get map k ≡ None

-- Part 11. The history is legal from the run's first map and used tags, and leads to the map that has at each key what that key's tail says. No tag of the history and no used tag has a generation above its buffer's, and none stands in a stock or is free.
pub record HistoryAndMap (p : Pool) (first : Tagged) (used : List ℕ) (m : Mem) (vs : List View) (chain : ℕ → List ℕ) (value : ℕ → Option Value) (keys : ℕ → Option (List ℕ)) (h : List Entry) : Type 0 where
  pub legal : Legal first used h
  pub keys_are : SlotKeys m keys
  pub map : LeadsToTails first used h chain value keys
  pub old : Each (λ (t : ℕ). age t ≤ gen (m.next (home t))) (used_by used h)
  pub unstocked : (v : View) → Within v vs → Each (λ (t : ℕ). Within t v.pass.stock → ⊥) (used_by used h)
  pub unfree : (v : View) → IsServer vs v → Each (λ (t : ℕ). inside p (home t) ≡ true → book_at v.server (home t) ≡ book (age t) IsFree → ⊥) (used_by used h)

-- Part 12. Each view's history begins the history, which one view holds, and its own calls are the entries of its client there. No two clients have one number, and a number that the server did not make has no view and no entry.
pub record ViewsAndHistory (vs : List View) (h : List Entry) : Type 0 where
  pub longest : (v : View) × Within v vs × (v.pass.history ≡ h)
  pub begins : (v : View) → Within v vs → IsPrefix v.pass.history h
  pub calls : (v : View) → Within v vs → OwnCalls v.pass.role v.pass.calls h
  pub numbers : (i j n : ℕ) (v w : View) → nth vs i ≡ Some v → nth vs j ≡ Some w → v.pass.role ≡ Client n → w.pass.role ≡ Client n → i ≡ j
  pub made : (sv : View) → IsServer vs sv → (v : View) → Within v vs → (n : ℕ) → v.pass.role ≡ Client n → Within n sv.server.clients
  pub entered : (sv : View) → IsServer vs sv → Each (λ (e : Entry). Within e.client sv.server.clients) h

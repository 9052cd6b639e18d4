-- The names of the views, the bindings and the count.
use Rattle.std.specs.Prelude.{◌≡◌, ℕ, ◌≤◌, ◌⊎◌, List, [], ◌∷◌, ◌++◌, length, Option, Some, None}
use Rattle.clover_words.specs.declared.pool.Pool.{Pool}
use Rattle.clover_map.specs.declared.bytes.Value.{Value}
use Rattle.clover_rule.specs.Holding.{IsServer}
use Rattle.clover_rule.specs.Lists.{Each, Within, IsPrefix, IsPart, nth}
use Rattle.clover_rule.specs.Memory.{Mem}
use Rattle.clover_rule.specs.Server.{waiting_name}
use Rattle.clover_rule.specs.Views.{SlotsOnce}
use Rattle.clover_rule.specs.declared.view.ServerTask.{ServerTask}
use Rattle.clover_rule.specs.declared.view.View.{View}

-- no key stands twice among the bindings
abbrev pub KeysOnce : List (ℕ × List ℕ) → Type 0
KeysOnce bs = (i j s s1 : ℕ) (k : List ℕ) → nth bs i ≡ Some (s, k) → nth bs j ≡ Some (s1, k) → i ≡ j

-- Part 10. The names of a view are the first bindings, those of a grant are the bindings from its position up to some place, and the count is the number of bindings; no slot and no key stands twice among them, and they are at most as many as the slots. While a binding waits for its last store, no view has its name, and its slot's chain is its tombstone alone. No view loaded a greater count.
pub record NamesAndCount (p : Pool) (m : Mem) (vs : List View) (chain : ℕ → List ℕ) (task : ServerTask) (value : ℕ → Option Value) (bindings : List (ℕ × List ℕ)) : Type 0 where
  pub count : m.count ≡ length bindings
  pub slots_once : SlotsOnce bindings
  pub keys_once : KeysOnce bindings
  pub few : m.count ≤ p.slots
  pub directory : (v : View) → IsServer vs v → v.server.directory ≡ bindings ++ waiting_name task
  pub names : (v : View) → Within v vs → IsPrefix v.pass.names bindings
  pub added : (v : View) → Within v vs → (v.pass.added ≡ []) ⊎ IsPart v.pass.from v.pass.added bindings
  pub most : (v : View) → Within v vs → v.pass.most ≤ m.count
  pub waiting : Each (λ (q : ℕ × List ℕ). (Within q bindings → ⊥) × ((t : ℕ) × (chain q.0 ≡ t ∷ []) × (value t ≡ None))) (waiting_name task)

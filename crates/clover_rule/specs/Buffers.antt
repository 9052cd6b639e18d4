-- Where each buffer is, and how it rests.
use Rattle.std.specs.Prelude.{◌≡◌, ℕ, List, true, Some, None}
use Rattle.clover_words.specs.declared.pool.Pool.{Pool}
use Rattle.clover_words.specs.Tag.{home, age}
use Rattle.clover_rule.specs.Content.{inside}
use Rattle.clover_rule.specs.Holding.{IsServer, held_by}
use Rattle.clover_rule.specs.Lists.{Each, Within, nth}
use Rattle.clover_rule.specs.Memory.{Mem, word}
use Rattle.clover_rule.specs.Story.{Place, Chained, Stocked, Free, Worn, Taken}
use Rattle.clover_rule.specs.Views.{Apart, book, book_at}
use Rattle.clover_rule.specs.declared.view.BufferState.TheVariants.{Free as IsFree, Worn as IsWorn}
use Rattle.clover_rule.specs.declared.view.ServerTask.{ServerTask}
use Rattle.clover_rule.specs.declared.view.View.{View}

-- Part 1. Each buffer is in one place: on the chain of one slot, in one stock, free, worn, or held by the unfinished task.
pub record BuffersInOnePlace (p : Pool) (vs : List View) (chain : ℕ → List ℕ) (task : ServerTask) (place : ℕ → Place) : Type 0 where
  pub chained : (s t : ℕ) → Within t (chain s) → place (home t) ≡ Chained s
  pub on_chain : (b s : ℕ) → place b ≡ Chained s → (t : ℕ) × Within t (chain s) × (home t ≡ b)
  pub stocked : (i : ℕ) (v : View) → nth vs i ≡ Some v → Each (λ (t : ℕ). place (home t) ≡ Stocked i) v.pass.stock × Apart v.pass.stock
  pub in_stock : (b i : ℕ) → place b ≡ Stocked i → (v : View) × (nth vs i ≡ Some v) × (t : ℕ) × Within t v.pass.stock × (home t ≡ b)
  pub free : (v : View) → IsServer vs v → (b g : ℕ) → inside p b ≡ true → book_at v.server b ≡ book g IsFree → place b ≡ Free
  pub is_free : (v : View) → IsServer vs v → (b : ℕ) → inside p b ≡ true → place b ≡ Free → (g : ℕ) × (book_at v.server b ≡ book g IsFree)
  pub worn : (v : View) → IsServer vs v → (b g : ℕ) → inside p b ≡ true → book_at v.server b ≡ book g IsWorn → place b ≡ Worn
  pub is_worn : (v : View) → IsServer vs v → (b : ℕ) → inside p b ≡ true → place b ≡ Worn → (g : ℕ) × (book_at v.server b ≡ book g IsWorn)
  pub taken : (b : ℕ) → held_by task ≡ Some b → place b ≡ Taken
  pub is_taken : (b : ℕ) → place b ≡ Taken → held_by task ≡ Some b

-- both copies of a buffer's next word are at this generation, unlinked
abbrev pub AtRest : Mem → ℕ → ℕ → Type 0
AtRest m b g = (m.next b ≡ word g None) × (m.fnext b ≡ word g None)

-- Part 5. A buffer in a stock or free has both copies of its next word at its generation, unlinked.
pub record StocksAtRest (p : Pool) (m : Mem) (vs : List View) : Type 0 where
  pub stocks : (v : View) → Within v vs → Each (λ (t : ℕ). AtRest m (home t) (age t)) v.pass.stock
  pub free : (v : View) → IsServer vs v → (b g : ℕ) → inside p b ≡ true → book_at v.server b ≡ book g IsFree → AtRest m b g

-- What views know of durable tags, links, copied words and shortcuts.
use Rattle.std.specs.Prelude.{◌≡◌, ℕ, ◌<◌, ◌⊎◌, List, Option, Some}
use Rattle.clover_words.specs.Tag.{home, age}
use Rattle.clover_map.specs.declared.bytes.Value.{Value}
use Rattle.clover_rule.specs.Content.{content}
use Rattle.clover_rule.specs.Holding.{recycled_by}
use Rattle.clover_rule.specs.Lists.{Each, Within, nth}
use Rattle.clover_rule.specs.Memory.{Mem, word, gen}
use Rattle.clover_rule.specs.declared.view.Content.{Content}
use Rattle.clover_rule.specs.declared.view.Link.{Link}
use Rattle.clover_rule.specs.declared.view.ServerTask.{ServerTask}
use Rattle.clover_rule.specs.declared.view.View.{View}

-- the tag's buffer went on to a later generation
abbrev pub HasPassed : Mem → ℕ → Type 0
HasPassed m t = age t < gen (m.next (home t))

-- a tag of slot s that is known to be durable: it has been passed, or stands on its slot's chain with its incoming link flushed or as the root, or is the version under recycling
pub data IsKnown (m : Mem) (ch : ℕ → List ℕ) (task : ServerTask) (s t : ℕ) : Type 0 where
  passed : HasPassed m t → IsKnown m ch task s t
  flushed : (u : ℕ) → Within u (ch s) → m.fnext (home u) ≡ word (age u) (Some t) → Within t (ch s) → IsKnown m ch task s t
  leads : m.root s ≡ Some t → IsKnown m ch task s t
  recycles : recycled_by task s ≡ Some t → IsKnown m ch task s t

-- the target of a link of slot s: it has been passed, or stands on that slot's chain, or is its version under recycling
pub data IsTarget (m : Mem) (ch : ℕ → List ℕ) (task : ServerTask) (s t : ℕ) : Type 0 where
  passed : HasPassed m t → IsTarget m ch task s t
  stands : Within t (ch s) → IsTarget m ch task s t
  recycles : recycled_by task s ≡ Some t → IsTarget m ch task s t

-- Part 6. Each tag that a view knows to be durable is one as just said.
abbrev pub DurableTagsKnown : Mem → List View → (ℕ → List ℕ) → ServerTask → Type 0
DurableTagsKnown m vs chain task = (v : View) → Within v vs → Each (λ (q : ℕ × ℕ). IsKnown m chain task q.0 q.1) v.pass.durable

-- Part 7. The target of each link that a view hopped over or wrote is one as just said.
abbrev pub TargetsStand : Mem → List View → (ℕ → List ℕ) → ServerTask → Type 0
TargetsStand m vs chain task = (v : View) → Within v vs → Each (λ (l : Link). IsTarget m chain task l.slot l.to) v.pass.links

-- Part 8. A word copied under a tag is that version's content, or the tag has been passed.
abbrev pub CopiesAreWhole : Mem → List View → (ℕ → Option Value) → Type 0
CopiesAreWhole m vs value = (v : View) → Within v vs → Each (λ (q : ℕ × Content). HasPassed m q.1.tag ⊎ ((y : ℕ) → nth (content (value q.1.tag)) q.1.place ≡ Some y → y ≡ q.1.word)) v.pass.copied

-- Part 9. A shortcut is 0 or a tag as in part 6.
abbrev pub ShortcutsKnown : Mem → (ℕ → List ℕ) → ServerTask → Type 0
ShortcutsKnown m chain task = (s t : ℕ) → m.short s ≡ Some t → IsKnown m chain task s t

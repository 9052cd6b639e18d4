-- The rule: what the words, the views of all actors and one history have to do with each other between any two steps. Its twelve parts, and the helping facts.
use Rattle.std.specs.Prelude.{◌≡◌, ℕ, List, [], ◌∷◌, Option}
use Rattle.clover_rule.specs.History.{longer}
use Rattle.clover_words.specs.declared.pool.Pool.{Pool}
use Rattle.clover_map.specs.declared.bytes.Value.{Value}
use Rattle.clover_map.specs.declared.call.Entry.{Entry}
use Rattle.clover_map.specs.Tagged.{Tagged}
use Rattle.clover_rule.specs.Buffers.{BuffersInOnePlace, StocksAtRest}
use Rattle.clover_rule.specs.Chains.{ChainsAndContents, NextWordsRise, LinksAndRootsFlushed}
use Rattle.clover_rule.specs.Histories.{HistoryAndMap, ViewsAndHistory}
use Rattle.clover_rule.specs.Holding.{IsServer}
use Rattle.clover_rule.specs.Known.{DurableTagsKnown, TargetsStand, CopiesAreWhole, ShortcutsKnown}
use Rattle.clover_rule.specs.Lists.{Within}
use Rattle.clover_rule.specs.Meets.{Meets, OfRun}
use Rattle.clover_rule.specs.Names.{NamesAndCount}
use Rattle.clover_rule.specs.Story.{Place, Story}
use Rattle.clover_rule.specs.Words.{mem_of}
use Rattle.clover_rule.specs.declared.view.ServerTask.{ServerTask}
use Rattle.clover_rule.specs.declared.view.View.{View}

-- what holds of the words, the views and the history of a run that began with this map and these used tags
pub record Rule (p : Pool) (first : Tagged) (used : List ℕ) (ws : List ℕ) (vs : List View) (h : List Entry) : Type 0 where
  -- the chain of each slot, the content of each version, the place of each buffer, the bindings, the key of each slot, and the unfinished task
  pub chain : ℕ → List ℕ
  pub value : ℕ → Option Value
  pub place : ℕ → Place
  pub bindings : List (ℕ × List ℕ)
  pub keys : ℕ → Option (List ℕ)
  pub task : ServerTask
  -- the task is the server's, and all views are of one run
  pub task_is : (v : View) → IsServer vs v → v.server.task ≡ task
  pub one_run : (v : View) → Within v vs → OfRun p first used v
  -- the twelve parts
  pub buffers_in_one_place : BuffersInOnePlace p vs chain task place
  pub chains_and_contents : ChainsAndContents (mem_of p ws) chain task value h
  pub next_words_rise : NextWordsRise (mem_of p ws) vs
  pub links_and_roots_flushed : LinksAndRootsFlushed (mem_of p ws) chain task value
  pub stocks_at_rest : StocksAtRest p (mem_of p ws) vs
  pub durable_tags_known : DurableTagsKnown (mem_of p ws) vs chain task
  pub targets_stand : TargetsStand (mem_of p ws) vs chain task
  pub copies_are_whole : CopiesAreWhole (mem_of p ws) vs value
  pub shortcuts_known : ShortcutsKnown (mem_of p ws) chain task
  pub names_and_count : NamesAndCount p (mem_of p ws) vs chain task value bindings
  pub history_and_map : HistoryAndMap p first used (mem_of p ws) vs chain value keys h
  pub views_and_history : ViewsAndHistory vs h
  -- the helping facts
  pub story : Story
  pub helped : Meets p first used ws vs story h

-- the longest history that a view holds
abbrev pub longest : List View → List Entry
longest [] = []
longest (v ∷ vs) = longer v.pass.history (longest vs)

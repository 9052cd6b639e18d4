-- What a buffer is behind some records that the server's books have as free there: nobody has it.
use Prim.Native.Nat.{suc}
use Rattle.std.specs.Prelude.{◌≡◌, ℕ, ◌<◌, List, ◌++◌, true}
use Rattle.clover_words.specs.Version.{buffer_at}
use Rattle.clover_map.specs.Legal.{used_by}
use Rattle.clover_alloc.specs.Ledger.{book}
use Rattle.clover_alloc.specs.Lines.{line}
use Rattle.clover_alloc.specs.declared.line.Place.TheVariants.{Free}
use Rattle.clover_rule.specs.Buffers.{AtRest}
use Rattle.clover_rule.specs.Chains.{Walk}
use Rattle.clover_rule.specs.Content.{inside}
use Rattle.clover_rule.specs.Lists.{Each}
use Rattle.clover_rule.specs.Memory.{Mem}
use Rattle.clover_rule.specs.Words.{mem_of}
use Rattle.clover_server.specs.Laws.{AreElsewhere, IsOld}
use Rattle.clover_run.specs.Folds.{entries_in, words_after, served_after, doing}
use Rattle.clover_run.specs.Record.{Record}
use Rattle.clover_run.specs.Run.{Opening}

-- the words behind these records, as their readers see them
abbrev pub mem_behind : Opening → List Record → Mem
mem_behind o rs = mem_of o.setup.pool (words_after o.setup.pool o.words rs)

-- Behind these records nobody has the buffer, which is at generation g: both copies of its next word are at g, unlinked; no tag of it stands on the chain of a slot or in a client's stock; and each tag of it that an entry was given, or that was used before the run, is of an earlier generation.
pub record LiesFree (o : Opening) (rs : List Record) (b g : ℕ) : Type 0 where
  pub rest : AtRest (mem_behind o rs) b g
  pub unchained : (slot : ℕ) (ts : List ℕ) → Walk (mem_behind o rs) ((mem_behind o rs).root slot) ts → AreElsewhere b ts
  pub unstocked : (i : ℕ) → i < o.setup.clients → AreElsewhere b (doing (suc i) rs).stock
  pub handed : Each (IsOld (mem_behind o rs) b) (used_by o.used (entries_in rs))

-- so lies each buffer that the books have as free there
abbrev pub FreeLie : Opening → List Record → Type 0
FreeLie o rs = (b g : ℕ) → inside o.setup.pool b ≡ true → book (served_after o.served rs).server.books (buffer_at b) ≡ line g Free → LiesFree o rs b g

-- between any two records, before the first and behind the last
abbrev pub AllFree : Opening → List Record → Type 0
AllFree o rs = (before after : List Record) → rs ≡ before ++ after → FreeLie o before

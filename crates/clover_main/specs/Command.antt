-- what a command does, by its words, and what its status tells
use Rattle.std.specs.Prelude.{◌≡◌, ◌≤◌, ◌↔◌, ◌⊎◌, ℕ, Bool, List, Option, Some, String}
use Rattle.std.specs.declared.alloc.Global.{Global}
use Rattle.clover_main.specs.declared.refusal.Refusal.TheVariants.{BadWords}
use Rattle.clover_port.specs.Told.{Rose}
use Rattle.clover_main.specs.Causes.{Writes}
use Rattle.clover_main.specs.Reading.{TakesFew}
use Rattle.clover_main.specs.Refusing.{line_of}
use Rattle.clover_main.specs.Replay.{Replays, StopsShort, LacksMemory, Refuses, IsExact}
use Rattle.clover_main.specs.Words.{AskForReplay}

-- A source and a sink before and after a command: the bytes left and taken, where they are told, and the counts of faults.
pub record Around : Type 0 where
  pub left : Option (List ℕ)
  pub after : Option (List ℕ)
  pub read_faults : ℕ
  pub read_faults_after : ℕ
  pub taken : Option (List ℕ)
  pub now : Option (List ℕ)
  pub write_faults : ℕ
  pub write_faults_after : ℕ

-- What a command of these words did to its source and sink, and what its status tells of that.
pub record Commands (words : List (String Global)) (x : Around) (status : ℕ) : Type 0 where
  pub done : status ≡ 0 → (trace : Bool) × AskForReplay trace words × Replays trace x.left x.after x.taken x.now
  pub quiet : status ≡ 0 → (x.read_faults_after ≡ x.read_faults) × (x.write_faults_after ≡ x.write_faults)
  pub refused : status ≡ 1 → Refuses 1 x.left x.after x.read_faults x.read_faults_after x.taken x.now x.write_faults x.write_faults_after
  pub read_fault : status ≡ 2 → Refuses 2 x.left x.after x.read_faults x.read_faults_after x.taken x.now x.write_faults x.write_faults_after
  pub write_fault : status ≡ 3 → Rose x.write_faults x.write_faults_after × ((trace : Bool) × AskForReplay trace words × StopsShort trace x.left x.after x.taken x.now)
  pub memory : status ≡ 4 → (trace : Bool) × AskForReplay trace words × LacksMemory trace x.left x.after x.taken x.now x.write_faults x.write_faults_after
  -- a failed read is not told as want of memory
  pub no_fault : status ≡ 4 → x.read_faults_after ≡ x.read_faults
  -- reading ends one byte past the limit at the latest
  pub few : TakesFew x.left x.after
  pub bad_words : (status ≡ 6) ↔ ((trace : Bool) → AskForReplay trace words → ⊥)
  pub bad_words_line : status ≡ 6 → (x.after ≡ x.left) × (x.read_faults_after ≡ x.read_faults) × Writes x.taken x.now x.write_faults x.write_faults_after (line_of BadWords)
  pub no_other : (status ≤ 4) ⊎ (status ≡ 6)
  pub exact : (trace : Bool) (text : List ℕ) → AskForReplay trace words → x.left ≡ Some text → (Rose x.read_faults x.read_faults_after → ⊥) → (Rose x.write_faults x.write_faults_after → ⊥) → IsExact text status

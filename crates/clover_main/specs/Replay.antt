-- what the command that replays a script does
use Rattle.std.specs.Prelude.{◌≡◌, ℕ, ◌<◌, ◌≤◌, ◌⊎◌, Bool, List, length, map, Option}
use Rattle.std.specs.Io.KnownBytes.{Appends}
use Rattle.clover_words.specs.declared.setup.Setup.{Setup}
use Rattle.clover_script.specs.Line.{Spoken, kept_line}
use Rattle.clover_script.specs.Lines.{IsLinesOf}
use Rattle.clover_script.specs.declared.line.Line.{Line}
use Rattle.clover_run.specs.Machine.{first_opening}
use Rattle.clover_run.specs.Run.{Opening}
use Rattle.clover_main.specs.declared.output.Stop.{Stop}
use Rattle.clover_main.specs.declared.output.Stop.TheVariants.{Memory, Write}
use Rattle.clover_main.specs.declared.refusal.Refusal.{Refusal}
use Rattle.clover_main.specs.declared.refusal.Refusal.TheVariants.{OutOfMemory}
use Rattle.clover_main.specs.Causes.{AppendsFront, Writes}
use Rattle.clover_main.specs.Cuts.{HasNoCuts, IsTurnedDown}
use Rattle.clover_main.specs.Performing.{IsPerformed, IsBeginning, IsOutput}
use Rattle.clover_main.specs.Reading.{Reads, input_limit}
use Rattle.clover_main.specs.Refusing.{status_of, line_of, HasShown}

-- The text is a script without power cuts, and this holds of its lines and of where their run begins: a pool of its setup with nothing in it.
pub record IsScriptOf (text : List ℕ) (Is : Opening → List Line → Type 0) : Type 0 where
  pub setup : Setup
  pub said : List Spoken
  pub script : IsLinesOf text setup said
  pub uncut : HasNoCuts text
  pub is : Is (first_opening setup) (map kept_line said)

-- the text is a script, and out is the text of a run of it
abbrev pub IsReplay : Bool → List ℕ → List ℕ → Type 0
IsReplay t text out = IsScriptOf text (λ opening lines. IsPerformed opening lines t out)

-- the text is a script, and out is the text of a run of it, or what the beginning of one prints
abbrev pub IsReplayCut : Bool → List ℕ → List ℕ → Type 0
IsReplayCut t text out = IsScriptOf text (λ opening lines. IsOutput opening lines t out)

-- the text is a script, and out is what the beginning of a run of it prints
abbrev pub IsReplayBegun : Bool → List ℕ → List ℕ → Type 0
IsReplayBegun t text out = IsScriptOf text (λ opening lines. IsBeginning opening lines t out)

-- The source was read to its end, and this holds of what it gave.
pub record HasRead (left after : Option (List ℕ)) (Is : List ℕ → Type 0) : Type 0 where
  pub text : List ℕ
  pub read : Reads left after text
  pub is : Is text

-- The whole text of a run was put.
pub record Replays (t : Bool) (left after taken now : Option (List ℕ)) : Type 0 where
  pub out : List ℕ
  pub run : HasRead left after (λ (text : List ℕ). IsReplay t text out)
  pub put : Appends taken now out

-- A front of the text of a run, or of what the beginning of one prints, was put.
pub record StopsShort (t : Bool) (left after taken now : Option (List ℕ)) : Type 0 where
  pub out : List ℕ
  pub run : HasRead left after (λ (text : List ℕ). IsReplayCut t text out)
  pub put : AppendsFront taken now out

-- What the beginning of a run prints was put, and then the line of want of memory.
pub record StopsForMemory (t : Bool) (left after taken now : Option (List ℕ)) (before faults : ℕ) : Type 0 where
  pub out : List ℕ
  pub between : Option (List ℕ)
  pub run : HasRead left after (λ (text : List ℕ). IsReplayBegun t text out)
  pub put : Appends taken between out
  pub line : Writes between now before faults (line_of OutOfMemory)

-- There was no memory: before the run, and the line alone was put, or in it.
abbrev pub LacksMemory : Bool → Option (List ℕ) → Option (List ℕ) → Option (List ℕ) → Option (List ℕ) → ℕ → ℕ → Type 0
LacksMemory t left after taken now before faults = Writes taken now before faults (line_of OutOfMemory) ⊎ StopsForMemory t left after taken now before faults

-- what was put where a run of the text stopped: at a failed write a front of its output; for want of memory nothing before the run, and in it what its beginning prints
abbrev pub HasStopped : Stop → Bool → List ℕ → Option (List ℕ) → Option (List ℕ) → Type 0
HasStopped Write t text taken now = (out : List ℕ) × IsReplayCut t text out × AppendsFront taken now out
HasStopped Memory t text taken now = (now ≡ taken) ⊎ ((out : List ℕ) × IsReplayBegun t text out × Appends taken now out)

-- A refusal with this status was put as its line, and its cause was shown.
pub record Refuses (status : ℕ) (left after : Option (List ℕ)) (source_before source_faults : ℕ) (taken now : Option (List ℕ)) (sink_before sink_faults : ℕ) : Type 0 where
  pub refusal : Refusal
  pub is : status_of refusal ≡ status
  pub shown : HasShown left after source_before source_faults refusal
  pub put : Writes taken now sink_before sink_faults (line_of refusal)

-- What the status must be where no count rose: of a script without power cuts 0, of any other text 1. Want of memory alone is free.
pub record IsExact (text : List ℕ) (status : ℕ) : Type 0 where
  pub script : (s : Setup) (said : List Spoken) → IsLinesOf text s said → HasNoCuts text → length text ≤ input_limit → (status ≡ 0) ⊎ (status ≡ 4)
  pub refused : (n : ℕ) → IsTurnedDown text n → length text ≤ input_limit → (status ≡ 1) ⊎ (status ≡ 4)
  pub much : input_limit < length text → (status ≡ 1) ⊎ (status ≡ 4)

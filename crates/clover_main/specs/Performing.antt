-- what the printed text of a run of some lines promises
use Rattle.std.specs.Prelude.{◌≡◌, ◌⊎◌, ℕ, Bool, List, [], ◌∷◌, ◌++◌, flat_map}
use Rattle.clover_map.specs.declared.bytes.Value.{Value}
use Rattle.clover_map.specs.declared.call.Call.{Call}
use Rattle.clover_map.specs.declared.call.Call.TheVariants.{Get, Put, Swap}
use Rattle.clover_map.specs.declared.call.Entry.{Entry}
use Rattle.clover_map.specs.declared.call.Reply.TheVariants.{Stored, Found}
use Rattle.clover_script.specs.declared.line.Line.{Line}
use Rattle.clover_rule.specs.Lists.{Within}
use Rattle.clover_run.specs.Folds.{entries_in}
use Rattle.clover_run.specs.Lawful.{IsLawful}
use Rattle.clover_run.specs.Lines.{Covers}
use Rattle.clover_run.specs.Record.{Record}
use Rattle.clover_run.specs.Run.{Opening}
use Rattle.clover_run.specs.Text.{said, text}
use Rattle.clover_main.specs.Beginnings.{CoversFront}

-- the call stores this value under this key
abbrev pub Stores : List ℕ → Value → Call → Type 0
Stores k v (Put key value) = (key ≡ k) × (value ≡ v)
Stores k v (Swap key expected value) = (key ≡ k) × (value ≡ v)
Stores k v call = ⊥

-- an entry stored this value under this key, and was given this tag
abbrev pub IsCommitted : List Entry → List ℕ → ℕ → Value → Type 0
IsCommitted h k t v = (e : Entry) × Within e h × (e.reply ≡ Stored t) × Stores k v e.call

-- each value that a get found was committed before, whole, under its key and with its tag
abbrev pub AllCommitted : List Entry → Type 0
AllCommitted h = (before after : List Entry) (e : Entry) (k : List ℕ) (t : ℕ) (v : Value) → h ≡ before ++ e ∷ after → e.call ≡ Get k → e.reply ≡ Found t v → IsCommitted before k t v

-- Out is the text of a run of the lines, in which no value is torn.
pub record IsPerformed (o : Opening) (lines : List Line) (t : Bool) (out : List ℕ) : Type 0 where
  pub records : List Record
  pub covers : Covers lines [] records
  pub lawful : IsLawful o records
  pub whole : AllCommitted (entries_in records)
  pub printed : out ≡ text t o.made records

-- Out is what the beginning of a run of the lines prints, in which no value is torn.
pub record IsBeginning (o : Opening) (lines : List Line) (t : Bool) (out : List ℕ) : Type 0 where
  pub records : List Record
  pub covers : CoversFront lines records
  pub lawful : IsLawful o records
  pub whole : AllCommitted (entries_in records)
  pub printed : out ≡ flat_map (said t) records

-- the text of a run, or what the beginning of one prints
abbrev pub IsOutput : Opening → List Line → Bool → List ℕ → Type 0
IsOutput o lines t out = IsPerformed o lines t out ⊎ IsBeginning o lines t out

-- the words of the command line
use Rattle.std.specs.Prelude.{◌≡◌, List, [], ◌∷◌, Bool, true, false, String, string_bytes, codes}
use Rattle.std.specs.declared.alloc.Global.{Global}

-- the words of `replay`, without the trace and with it
abbrev pub AskForReplay : Bool → List (String Global) → Type 0
AskForReplay false (word ∷ []) = string_bytes word ≡ codes "replay"
AskForReplay true (word ∷ option ∷ []) = (string_bytes word ≡ codes "replay") × (string_bytes option ≡ codes "--trace")
AskForReplay trace words = ⊥

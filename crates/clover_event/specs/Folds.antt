-- What some records lead to, each thing as a fold of its own: the accesses, the entries, the words, and what each client has under way.
use Prim.Native.Nat.{suc}
use Rattle.std.specs.Prelude.{ℕ, ◌+◌, ◌==◌, List, [], ◌∷◌, ◌++◌, Bool, true, false, if◌then◌else◌, Option, Some, None, option_to_list, fold}
use Rattle.clover_words.specs.declared.pool.Pool.{Pool}
use Rattle.clover_map.specs.declared.call.Entry.{Entry}
use Rattle.clover_map.specs.declared.call.Reply.{Reply}
use Rattle.clover_map.specs.declared.call.Reply.TheVariants.{Stored, Deleted}
use Rattle.clover_script.specs.declared.line.Task.{Task}
use Rattle.clover_rule.specs.Accesses.{words_after_act}
use Rattle.clover_rule.specs.declared.access.Access.{Access}
use Rattle.clover_rule.specs.declared.access.Act.{Act}
use Rattle.clover_event.specs.declared.event.Event.{Event}
use Rattle.clover_event.specs.declared.event.Event.TheVariants.{Begin, Step, Refuse}

-- the words after some records
abbrev pub words_by : Pool → List ℕ → Option Access → List ℕ
words_by p ws None = ws
words_by p ws (Some x) = if x.refused then ws else words_after_act p ws x.act

-- how many accesses were made behind so many before them; a refused one was not
abbrev pub made_by : ℕ → Option Access → ℕ
made_by n None = n
made_by n (Some x) = if x.refused then n else suc n

abbrev pub actor_of : Event → ℕ
actor_of (Begin a t) = a
actor_of (Step a) = a
actor_of (Refuse a) = a

-- What contracts see of a machine, and that it stands where some records lead.
use Prim.Native.Nat.{suc}
use Rattle.std.specs.Prelude.{◌≡◌, ◌≢◌, ℕ, ◌+◌, ◌-◌, ◌<◌, ◌≤◌, ◌==◌, List, [], ◌∷◌, ◌++◌, length, Contains, true, false, if◌then◌else◌, All, Option, Some, None, MatchOption, fold}
use Rattle.std.specs.FinMap as finite
use Rattle.clover_words.specs.declared.pool.Pool.{Pool}
use Rattle.clover_words.specs.declared.setup.Setup.{Setup}
use Rattle.clover_words.specs.Place.{pool_words}
use Rattle.clover_words.specs.Tag.{tag_number}
use Rattle.clover_map.specs.Legal.{Legal}
use Rattle.clover_map.specs.History.{key_of}
use Rattle.clover_map.specs.declared.call.Call.{Call}
use Rattle.clover_script.specs.declared.line.Task.TheVariants.{Client as ClientTask}
use Rattle.clover_rule.specs.Lists.{nth, Within}
use Rattle.clover_rule.specs.Preset.{bindings_from}
use Rattle.clover_rule.specs.declared.access.Access.{Access}
use Rattle.clover_rule.specs.declared.view.View.{View}
use Rattle.clover_walk.specs.Walking.{budget, key_at, most_accesses}
use Rattle.clover_cache.specs.Node.{Known}
use Rattle.clover_plain.specs.Plain.{Plain, Kept, history, view_at}
use Rattle.clover_plain.specs.Preset.{IsPreset, AreDistinct}
use Rattle.clover_words.specs.declared.bytes.ValueBuf.{ValueBuf}
use Rattle.clover_call.specs.declared.under.Underway.{Underway}
use Rattle.clover_call.specs.declared.under.Underway.TheVariants.{Nothing}
use Rattle.clover_call.specs.Calling.{Calling, own_words}
use Rattle.clover_call.specs.Mirroring.{Mirrors}

-- the most accesses of one call, which ends once its turns reach the budget
abbrev pub most_made : Pool → ℕ
most_made p = most_accesses p (budget p)

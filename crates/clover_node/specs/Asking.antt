-- What a call does whose key its client may not know: it loads the count, or it is a call on its key's slot.
use Rattle.std.specs.Prelude.{ℕ, eqb, if◌then◌else◌, Option, Some, None}
use Rattle.clover_words.specs.declared.pool.Pool.{Pool}
use Rattle.clover_map.specs.declared.call.Call.{Call}
use Rattle.clover_map.specs.declared.call.Call.TheVariants.{Put}
use Rattle.clover_rule.specs.Steps.{Step, ReadCount, AbsentCount}
use Rattle.clover_call.specs.Calling.{Calling, begun_call, due, after}

-- where a call stands: it is to load the count of bindings; it is one on its key's slot; or the count has ended it, since there is no binding that its client does not know, or for want of names
pub data Asking : Type 0 where
  Counts : Asking
  Calls : Calling → Asking
  Misses : Asking
  Lacks : Asking

-- a call that begins, on its key's slot if its client's names have one
abbrev pub begun_asking : Pool → Option ℕ → Option ℕ → ℕ → Call → Asking
begun_asking p None cursor own call = Counts
begun_asking p (Some slot) cursor own call = Calls (begun_call p slot cursor own call)

-- the load of the count; only a put is never answered by it
abbrev pub count_step : Call → Step
count_step (Put key value) = ReadCount
count_step call = AbsentCount call

-- the step that is due; none of a call that is over
abbrev pub due_asking : Call → ℕ → Asking → Option Step
due_asking call own Counts = Some (count_step call)
due_asking call own (Calls c) = due call own c
due_asking call own Misses = None
due_asking call own Lacks = None

-- how a call goes on by the count, where its client has so many names
abbrev pub counted : Call → ℕ → ℕ → Asking
counted (Put key value) known bound = Lacks
counted call known bound = if eqb bound known then Misses else Lacks

-- how it goes on where the access of the step that was due found this number
abbrev pub after_asking : Call → ℕ → ℕ → Asking → ℕ → Asking
after_asking call own known Counts x = counted call known x
after_asking call own known (Calls c) x = Calls (after call own c x)
after_asking call own known a x = a

-- The value of a caller from its fields, and what each caller keeps.
use Rattle.std.specs.Prelude.{Option, Some, IsSome}
use Rattle.clover_get.specs.Getting.{Getting}
use Rattle.clover_put.specs.Putting.{Putting}
use Rattle.clover_call.specs.Caller.{CallerState}
use Rattle.clover_call.specs.declared.caller.Caller.TheInside.{Inside}
use Rattle.clover_call.specs.declared.under.Kind.{Kind}
use Rattle.clover_call.specs.declared.under.Kind.TheVariants.{Nothing as NoCall, Get as IsGet, Write as IsWrite}
use Rattle.clover_call.specs.declared.under.Underway.{Underway}
use Rattle.clover_call.specs.declared.under.Underway.TheVariants.{Nothing, Get, Write}

-- what is under way: the call of this kind, in its place
abbrev pub under_of : Kind → Option Getting → Option Putting → Underway
under_of IsGet (Some g) c = Get g
under_of IsWrite g (Some c) = Write c
under_of k g c = Nothing

-- where a call is under way, it stands in the place of its kind
abbrev pub IsThere : Kind → Option Getting → Option Putting → Type 0
IsThere NoCall g c = Unit {0}
IsThere IsGet g c = IsSome g
IsThere IsWrite g c = IsSome c

-- the value of a caller with these fields
abbrev pub meaning : Inside → CallerState
meaning n = record { pool = n.pool; cursors = n.cursors; under = under_of n.kind n.get n.write }

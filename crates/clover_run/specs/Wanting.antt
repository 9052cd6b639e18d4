-- What a call wants of the server: buffers for its client's stock, or bindings.
use Rattle.std.specs.Prelude.{ℕ, List, [], ◌∷◌, if◌then◌else◌, Option, Some, None}
use Rattle.std.specs.Str.{bytes_eq}
use Rattle.clover_map.specs.declared.call.Call.{Call}
use Rattle.clover_map.specs.declared.call.Call.TheVariants.{Get, Put}
use Rattle.clover_rule.specs.declared.access.Act.{Act}
use Rattle.clover_run.specs.declared.want.Want.{Want}
use Rattle.clover_run.specs.declared.want.Want.TheVariants.{Nothing, Stock, Names}

-- the slot of the first binding of the key
abbrev pub slot_for : List ℕ → List (ℕ × List ℕ) → Option ℕ
slot_for key [] = None
slot_for key (q ∷ qs) = if bytes_eq q.1 key then Some q.0 else slot_for key qs

-- of a call that commits a version, and has no buffer for it
abbrev pub unless_stocked : List ℕ → Want
unless_stocked [] = Stock
unless_stocked (t ∷ ts) = Nothing

-- before its first access: a put, and a delete or a swap of a key that has a slot, takes the first buffer of the stock
abbrev pub wants_first : Call → Option ℕ → List ℕ → Want
wants_first (Put key value) slot stock = unless_stocked stock
wants_first (Get key) slot stock = Nothing
wants_first call None stock = Nothing
wants_first call (Some s) stock = unless_stocked stock

-- and behind it: a call whose key has no slot that its client knows has loaded the count alone, since what a client knows changes only where its call starts anew
abbrev pub wants_later : Option ℕ → Want
wants_later None = Names
wants_later (Some s) = Nothing

-- a call under way, with this slot for its key or none, this stock, and these acts since its last start
abbrev pub wants : Call → Option ℕ → List ℕ → List Act → Want
wants call slot stock [] = wants_first call slot stock
wants call slot stock (act ∷ acts) = wants_later slot

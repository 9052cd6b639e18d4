-- A record of a run: an event, its access, what it came to, the entry that it added, and the server's side behind it.
use Rattle.std.specs.Prelude.{Option}
use Rattle.clover_map.specs.declared.call.Entry.{Entry}
use Rattle.clover_rule.specs.declared.access.Access.{Access}
use Rattle.clover_run.specs.declared.served.Served.{Served}
use Rattle.clover_event.specs.declared.event.Event.{Event}
use Rattle.clover_run.specs.declared.event.Note.{Note}

pub record Record : Type 0 where
  pub event : Event
  pub access : Option Access
  pub note : Note
  pub entry : Option Entry
  pub served : Served

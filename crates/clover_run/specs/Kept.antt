-- The value of a machine from its fields, and what each machine keeps: it stands where some records lead.
use Rattle.clover_run.specs.Machine.{Parts, IsBehind}
use Rattle.clover_run.specs.declared.machine.Machine.TheInside.{Inside}

abbrev pub meaning : Inside → Parts
meaning m = record { setup = m.setup; pool = m.pool; served = m.served; recycler = m.recycler; clients = m.clients.items }

abbrev pub IsKept : Inside → Type 0
IsKept m = IsBehind (meaning m)

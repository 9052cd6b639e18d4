use Rattle.std.proofs.Common.{take}
use Rattle.clover_sched.specs.Stores.{Stores}
use Rattle.clover_sched.proofs.stores.make_stores.Given as goal

-- so many stores were made as iterations
abbrev pub invariant-loop : goal.invariant-loop
invariant-loop l = Stores l.fn.pool l.fn.restart (take l.counter l.fn.restart.rest) l.pool l.restart

use Rattle.std.proofs.Common.{rules}
use Rattle.std.proofs.lemmas.List.{take_rest}
use Rattle.clover_main.proofs.Cells.{moved}
use Rattle.clover_main.proofs.memory.MemorySourceSource.take.Goals as goal

pub returns-clause-bytes : goal.returns-clause-bytes
returns-clause-bytes c =
    rw (← c.self.view_is)
    (moved c.self.inside.bytes c.args.into.now c.move_front-count.new.into c.self.inside.at c.move_front-count.result (search (rules, take_rest)) (search (rules, take_rest)))

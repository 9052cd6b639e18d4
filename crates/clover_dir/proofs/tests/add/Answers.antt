use Rattle.std.proofs.Common.{rules}
use Rattle.std.specs.Prelude.{IsNone}
use Rattle.clover_dir.proofs.tests.add.Goals as goal

pub push-requires-clause-new : goal.push-requires-clause-new
push-requires-clause-new c = let none : IsNone c.find.result = search rules in c.find.ensures.none.0 none

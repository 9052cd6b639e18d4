use Rattle.std.proofs.Common.{subst}
use Rattle.clover_dir.specs.Names.{IsNameList}
use Rattle.clover_dir.proofs.Pairs.{list_kept}
use Rattle.clover_dir.proofs.names.Names.len.Goals as goal

pub returns-clause-valid : goal.returns-clause-valid
returns-clause-valid c = subst IsNameList c.self.view_is (list_kept c.self.inside c.self.invariant)

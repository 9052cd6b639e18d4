use Rattle.clover_alloc.proofs.SequenceLemmas.{no_tag_twice}
use Rattle.clover_alloc.proofs.laws.no_tag_twice_law.Goals as goal

pub returns : goal.returns
returns c = no_tag_twice

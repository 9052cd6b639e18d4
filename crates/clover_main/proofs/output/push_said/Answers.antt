use Rattle.clover_main.proofs.Pieces.{said_line}
use Rattle.clover_main.proofs.output.push_said.Goals as goal

pub returns : goal.returns
returns c = record { ok = λ o rs r at is here. said_line o.listed _ _ _ rs r _ _ _ _ _ _ c.traced.ensures (c.accesses.ensures o _ at) here is (c.batch.ensures o rs r at) c.in_ok-push_listed.ensures c.in_ok-push_note.ensures.ok }

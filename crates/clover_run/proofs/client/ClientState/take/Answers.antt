use Rattle.clover_alloc.specs.Batch.{tags_of}
use Rattle.clover_dir.specs.Bindings.{pairs_of}
use Rattle.clover_run.proofs.Beginning.{granted_starts}
use Rattle.clover_run.proofs.client.ClientState.take.Goals as goal

pub start-requires : goal.start-requires
start-requires c = record { starts = granted_starts c.args.self.now c.accept.new.self (tags_of c.args.batch.now) (pairs_of c.args.names.now) c.requires.starts c.requires.may c.accept.ensures.value c.accept.ensures.holds }

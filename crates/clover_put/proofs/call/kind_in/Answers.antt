use Rattle.std.proofs.Common.{sym}
use Rattle.clover_put.proofs.Body.{kind_none, none_some}
use Rattle.clover_put.proofs.call.kind_in.Goals as goal

pub returns-in-None : goal.returns-in-None
returns-in-None c = sym (kind_none c.args.word (λ m h e. none_some c.decode.result m c.in-None.is (c.decode.ensures.only m h e)))

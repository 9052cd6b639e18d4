use Rattle.std.proofs.Common.{ap, sym}
use Rattle.clover_event.specs.Text.{act_text}
use Rattle.clover_main.proofs.Printing.{same_said, same_fails}
use Rattle.clover_main.proofs.access_text.put_act.Goals as goal

pub returns-in-Store-clause-ok : goal.returns-in-Store-clause-ok
returns-in-Store-clause-ok g c = same_said c.put_write.result _ _ _ _ _ _ (ap act_text (sym c.in-Store.is)) c.put_write.ensures.ok

pub returns-in-Store-clause-err : goal.returns-in-Store-clause-err
returns-in-Store-clause-err g c = same_fails c.put_write.result _ _ _ _ _ (ap act_text (sym c.in-Store.is)) c.put_write.ensures.err

pub returns-in-Exchange-clause-ok : goal.returns-in-Exchange-clause-ok
returns-in-Exchange-clause-ok g c = same_said c.put_exchange.result _ _ _ _ _ _ (ap act_text (sym c.in-Exchange.is)) c.put_exchange.ensures.ok

pub returns-in-Exchange-clause-err : goal.returns-in-Exchange-clause-err
returns-in-Exchange-clause-err g c = same_fails c.put_exchange.result _ _ _ _ _ (ap act_text (sym c.in-Exchange.is)) c.put_exchange.ensures.err

pub returns-in-Raise-clause-ok : goal.returns-in-Raise-clause-ok
returns-in-Raise-clause-ok g c = same_said c.put_write-in-Raise.result _ _ _ _ _ _ (ap act_text (sym c.in-Raise.is)) c.put_write-in-Raise.ensures.ok

pub returns-in-Raise-clause-err : goal.returns-in-Raise-clause-err
returns-in-Raise-clause-err g c = same_fails c.put_write-in-Raise.result _ _ _ _ _ (ap act_text (sym c.in-Raise.is)) c.put_write-in-Raise.ensures.err

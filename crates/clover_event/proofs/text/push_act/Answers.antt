use Rattle.std.proofs.Common.{◌≡◌, ◌++◌, sym, ap, subst, OnOk, List, ℕ}
use Rattle.clover_event.specs.Text.{act_text}
use Rattle.clover_event.proofs.text.push_act.Goals as goal

pub returns-in-Exchange : goal.returns-in-Exchange
returns-in-Exchange c = record { ok = subst (λ (t : List ℕ). OnOk c.push_exchange.result (c.push_exchange.new.out.items ≡ c.args.out.now.items ++ t)) (ap act_text (sym c.in-Exchange.is)) c.push_exchange.ensures.ok }

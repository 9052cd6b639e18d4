use Rattle.std.proofs.Common.{◌≡◌, ◌+◌, ℕ, length}
use Rattle.std.specs.Prelude.{Some}
use Rattle.clover_rule.specs.Lists.{nth}
use Rattle.clover_run.specs.Client.{IsFirst}
use Rattle.clover_run.specs.declared.client.ClientState.{ClientState}
use Rattle.clover_run.proofs.machine.first_clients.Given as goal

abbrev pub invariant-loop-index : goal.invariant-loop-index
invariant-loop-index l = (length l.clients.items ≡ l.index) × ((i : ℕ) (x : ClientState) → nth l.clients.items i ≡ Some x → IsFirst l.setup (i + 1) x)

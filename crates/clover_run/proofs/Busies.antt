-- Whether a client has a task, and whether a step of it would only wait, by what stands at its seat.
use Rattle.std.proofs.Common.{◌≡◌, ℕ, suc, ◌-◌, ◌<◌, length, get_or, false, refl, subst, sym, ap, ◌∙◌, arith}
use Rattle.std.specs.Prelude.{Bool, Option, Some, None, ◌↔◌, IsTrue}
use Rattle.clover_rule.specs.Lists.{nth}
use Rattle.clover_rule.proofs.Tools.{nth_within}
use Rattle.clover_event.proofs.Places.{nth_here}
use Rattle.clover_run.specs.Client.{HasTask}
use Rattle.clover_run.specs.Machine.{Parts, IsTasked, IsBusy, WaitsFor, OnlyWaits}
use Rattle.clover_run.specs.declared.client.ClientState.{ClientState}

pub busy_there : (m : Parts) (i a : ℕ) (x : ClientState) (b : Bool) → suc i ≡ a → nth m.clients i ≡ Some x → IsTrue b ↔ HasTask x → IsTrue b ↔ IsBusy m a
busy_there m i a x b seat here same = subst (λ (n : ℕ). IsTrue b ↔ IsBusy m n) seat (λ t. subst IsTasked (sym here) (same.0 t), λ q. same.1 (subst IsTasked here q))

pub busy_nowhere : (m : Parts) (i a : ℕ) → suc i ≡ a → nth m.clients i ≡ None → (IsBusy m a → IsTrue false)
busy_nowhere m i a seat past q = absurd (subst IsTasked past (subst (IsBusy m) (sym seat) q))

pub busy_within : (m : Parts) (i a : ℕ) → suc i ≡ a → IsBusy m a → i < length m.clients
busy_within m i a seat q = go (nth m.clients i) refl
  where
    go : (z : Option ClientState) → nth m.clients i ≡ z → i < length m.clients
    go None e = absurd (subst IsTasked e (subst (IsBusy m) (sym seat) q))
    go (Some x) e = nth_within m.clients i x e

pub busy_here : (m : Parts) (i a : ℕ) (x : ClientState) → suc i ≡ a → nth m.clients i ≡ Some x → IsBusy m a → HasTask x
busy_here m i a x seat here q = subst IsTasked here (subst (IsBusy m) (sym seat) q)

-- what is read at the seat of an actor that has a task, and is not the recycler, is its client
pub client_read : (m p : Parts) (a : ℕ) (x : ClientState) → m ≡ p → (a ≡ 0 → ⊥) → IsBusy p a → x ≡ get_or m.clients (a - 1) x → nth p.clients (a - 1) ≡ Some x
client_read m p a x same some busy read =
    nth_here p.clients (a - 1) x (busy_within p (a - 1) a (omega (arith, some)) busy) (read ∙ ap (λ (z : Parts). get_or z.clients (a - 1) x) same)

pub waits_there : (m : Parts) (i a : ℕ) (x : ClientState) (b : Bool) → suc i ≡ a → nth m.clients i ≡ Some x → IsTrue b ↔ WaitsFor m.served a (Some x) → IsTrue b ↔ OnlyWaits m a
waits_there m i a x b seat here same = subst (λ (n : ℕ). IsTrue b ↔ OnlyWaits m n) seat (
  λ t. subst (WaitsFor m.served (suc i)) (sym here) (subst (λ (n : ℕ). WaitsFor m.served n (Some x)) (sym seat) (same.0 t)),
  λ q. same.1 (subst (λ (n : ℕ). WaitsFor m.served n (Some x)) seat (subst (WaitsFor m.served (suc i)) here q)),
)

pub waits_nowhere : (m : Parts) (i a : ℕ) → suc i ≡ a → nth m.clients i ≡ None → (OnlyWaits m a → IsTrue false)
waits_nowhere m i a seat past q = absurd (subst (WaitsFor m.served (suc i)) past (subst (OnlyWaits m) (sym seat) q))

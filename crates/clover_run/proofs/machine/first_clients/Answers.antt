use Rattle.std.proofs.Common.{◌≡◌, ℕ, ◌+◌, ◌∷◌, List, [], length, sym, ap, ◌∙◌, subst, ⊎_elim}
use Rattle.std.specs.Prelude.{Some}
use Rattle.std.proofs.Math.ListN.{length-append}
use Rattle.clover_rule.specs.Lists.{nth}
use Rattle.clover_rule.proofs.Tools.{nth_snoc}
use Rattle.clover_run.specs.Client.{IsFirst}
use Rattle.clover_run.specs.declared.client.ClientState.{ClientState}
use Rattle.clover_run.proofs.machine.first_clients.Goals as goal

pub loop-index-preserved : goal.loop-index-preserved
loop-index-preserved c =
    let e = c.in_ok-push.ensures.items in
    let was = c.loop-index.invariant in
    let one = c.in_ok-idle.field-0 in (
      ap length e ∙ length-append c.loop-index.clients.items (one ∷ []) ∙ ap (λ (n : ℕ). n + 1) was.0,
      λ i x here. ⊎_elim
          (λ (h : nth c.loop-index.clients.items i ≡ Some x). was.1 i x h)
          (λ (h : (i ≡ length c.loop-index.clients.items) × (one ≡ x)). let place : c.loop-index.index + 1 ≡ i + 1 = ap (λ (n : ℕ). n + 1) (sym (h.0 ∙ was.0)) in subst (λ (n : ℕ). IsFirst c.args.setup n x) place (subst (λ (z : ClientState). IsFirst c.args.setup (c.loop-index.index + 1) z) h.1 c.in_ok-idle.ensures))
          (nth_snoc c.loop-index.clients.items one x i (subst (λ (l : List ClientState). nth l i ≡ Some x) e here)),
    )

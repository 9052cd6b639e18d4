use Rattle.std.proofs.Common.{◌≡◌, ◌+◌, ℕ, ap, ◌∙◌, sym, arith}
use Rattle.clover_words.specs.declared.setup.Setup.{Setup}
use Rattle.clover_rule.specs.Moves.{nobody}
use Rattle.clover_plain.specs.Plain.{first_view, view_at}
use Rattle.clover_plain.proofs.Stepping.{nth_default}
use Rattle.clover_plain.proofs.pool.tests.begun_pool.Goals as goal
use Rattle.clover_plain.proofs.pool.tests.begun_pool.Goals.{In_ok-pool}
use Rattle.std.specs.Prelude.{length}

long : (c : In_ok-pool) → length c.in_ok-pool.pool.views ≡ 2
long c = c.in_ok-pool.ensures.views.0 ∙ ap (λ (n : ℕ). n + 1) c.in_ok-setup.ensures.ok.1

view : (c : In_ok-pool) (i : ℕ) → view_at c.in_ok-pool.pool i ≡ first_view c.in_ok-setup.setup i → view_at c.in_ok-pool.pool i ≡ first_view c.in_ok-pool.pool.setup i
view c i e = e ∙ ap (λ (s : Setup). first_view s i) (sym c.in_ok-pool.ensures.setup.0)

pub returns-clause-views : goal.returns-clause-views
returns-clause-views c = (
  long c,
  view c 0 (c.in_ok-pool.ensures.views.1 0 _ (nth_default c.in_ok-pool.pool.views 0 nobody (let z = long c in omega arith))),
  view c 1 (c.in_ok-pool.ensures.views.1 1 _ (nth_default c.in_ok-pool.pool.views 1 nobody (let z = long c in omega arith))),
)

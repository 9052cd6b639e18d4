-- What a grant makes of the views of a pool: the client's and the server's are new, and no other one is.
use Prim.Native.Nat.{suc}
use Rattle.std.proofs.Common.{◌≡◌, ◌≢◌, ℕ, ◌-◌, ◌<◌, List, ◌++◌, length, get_or, set, refl, sym, ap, ◌∙◌, subst, arith}
use Rattle.std.proofs.lemmas.List.{get_or-set_same, get_or-set_other, length-set}
use Rattle.clover_rule.specs.Cut.{IsKnownDurable}
use Rattle.clover_rule.specs.Lists.{Within}
use Rattle.clover_rule.specs.Moves.{given, giving, nobody}
use Rattle.clover_rule.specs.declared.view.View.{View}
use Rattle.clover_plain.specs.Handing.{Handed}
use Rattle.clover_plain.specs.Plain.{Plain, view_at}
use Rattle.clover_run.specs.Client.{KeepsKnown}
use Rattle.clover_run.proofs.Lasting.{known_renewed, same_known}

module _ (i : ℕ) (batch : List ℕ) (names : List (ℕ × List ℕ)) (p q : Plain) (h : Handed (suc i) batch names p q) where
  -- the views once the server's is new
  abbrev taken : List View
  taken = set p.views p.setup.clients (giving batch (view_at p p.setup.clients))

  seat_is : suc i - 1 ≡ i
  seat_is = omega arith

  views_are : q.views ≡ set taken i (given batch names (view_at p i))
  views_are = h.views ∙ ap (λ (n : ℕ). set taken n (given batch names (view_at p n))) seat_is

  pub handed_seats : length q.views ≡ length p.views
  handed_seats = ap length views_are ∙ length-set taken i (given batch names (view_at p i)) ∙ length-set p.views p.setup.clients (giving batch (view_at p p.setup.clients))

  -- another view is as it was
  pub handed_other : (j : ℕ) → j ≢ i → j ≢ p.setup.clients → view_at q j ≡ view_at p j
  handed_other j ne nc =
      ap (λ (vs : List View). get_or vs j nobody) views_are
      ∙ get_or-set_other taken i j (given batch names (view_at p i)) nobody ne
      ∙ get_or-set_other p.views p.setup.clients j (giving batch (view_at p p.setup.clients)) nobody nc

  -- what was known to be durable is known still
  pub handed_known : KeepsKnown p q
  handed_known t k = subst (λ (vs : List View). IsKnownDurable vs t) (sym (λ j. views_are j ++ h.absent j))
      (known_renewed taken p.absent i (given batch names (view_at p i)) (λ d here. subst (Within d) (same_known p.views p.setup.clients i (giving batch (view_at p p.setup.clients)) refl) here) t
      (known_renewed p.views p.absent p.setup.clients (giving batch (view_at p p.setup.clients)) (λ d here. here) t k))

  module _ (seat : i < p.setup.clients) (seats : p.setup.clients < length p.views) where
    -- the client has the batch and the names besides
    pub handed_client : view_at q i ≡ given batch names (view_at p i)
    handed_client =
        let l = length-set p.views p.setup.clients (giving batch (view_at p p.setup.clients)) in
        ap (λ (vs : List View). get_or vs i nobody) views_are ∙ get_or-set_same taken i (given batch names (view_at p i)) nobody (omega arith)

    -- and the server has handed the batch out
    pub handed_server : view_at q p.setup.clients ≡ giving batch (view_at p p.setup.clients)
    handed_server =
        ap (λ (vs : List View). get_or vs p.setup.clients nobody) views_are
        ∙ get_or-set_other taken i p.setup.clients (given batch names (view_at p i)) nobody (λ e. omega arith)
        ∙ get_or-set_same p.views p.setup.clients (giving batch (view_at p p.setup.clients)) nobody seats

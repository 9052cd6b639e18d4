-- One step of a restart: what it stands on, and what it leaves.
use Rattle.std.specs.Prelude.{◌≡◌, List, ◌∷◌, Bool, true, false, Result, Ok}
use Rattle.clover_words.specs.declared.pool.Pool.{Pool}
use Rattle.clover_rule.specs.declared.view.RestartStore.{RestartStore}
use Rattle.clover_rule.specs.declared.view.Role.TheVariants.{Restarting}
use Rattle.clover_rule.specs.declared.view.View.{View}
use Rattle.clover_restart.specs.Restart.{RestartState}

-- the view is restart's, of the same pool, and has the same stores still to make
pub record RestartHolds (p : Pool) (r : RestartState) (v : View) : Type 0 where
  pub pool : r.pool ≡ p
  pub role : v.pass.role ≡ Restarting
  pub plan : v.plan ≡ r.rest

-- where a store was made, and where there is none left
abbrev pub OnStored : {E : Type 0} → Result Bool E → Type 0 → Type 0
OnStored (Ok true) A = A
OnStored r A = Unit {0}

abbrev pub OnEnd : {E : Type 0} → Result Bool E → Type 0 → Type 0
OnEnd (Ok false) A = A
OnEnd r A = Unit {0}

-- the first store that was left was made, and the others are left now, in the view too
pub record Stored (p : Pool) (r : RestartState) (Made : RestartStore → Type 0) (n : RestartState) (v : View) : Type 0 where
  pub store : RestartStore
  pub others : List RestartStore
  pub first : r.rest ≡ store ∷ others
  pub made : Made store
  pub left : n ≡ record r { rest = others }
  pub holds : RestartHolds p n v

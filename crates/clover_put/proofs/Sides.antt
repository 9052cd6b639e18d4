-- What a call has on each side of its exchange.
use Rattle.std.proofs.Common.{◌≡◌, ℕ, List, ◌∷◌, refl}
use Rattle.clover_rule.specs.declared.view.View.{View}
use Rattle.clover_put.specs.Answering.{IsBefore, IsBehind, Onward}
use Rattle.clover_put.specs.Holding.{Owns}
use Rattle.clover_put.specs.Putting.{Putting, Stage, Storing, Flushing, Seeking, AtMeta, AtLink, Deciding, AtBad, AtRaise, AtShort, Over}

-- before it: the call goes on where it still has committed nothing, and its own tag is at the front of the stock
pub record Early (s : Stage) : Type 0 where
  pub to : (c n : Putting) → IsBefore n.stage → Onward s c n
  pub from : (c n : Putting) → Onward s c n → IsBefore n.stage
  pub owns : (c : Putting) (v : View) → Owns s c v → (rest : List ℕ) × (v.pass.stock ≡ c.own ∷ rest)
  pub not_behind : IsBehind s → ⊥

pub early : (s : Stage) → IsBefore s → Early s
early (Storing j) b = record { to = λ c n e. e; from = λ c n e. e; owns = λ c v o. o; not_behind = λ h. h }
early (Flushing j) b = record { to = λ c n e. e; from = λ c n e. e; owns = λ c v o. o; not_behind = λ h. h }
early Seeking b = record { to = λ c n e. e; from = λ c n e. e; owns = λ c v o. o; not_behind = λ h. h }
early (AtMeta u) b = record { to = λ c n e. e; from = λ c n e. e; owns = λ c v o. o; not_behind = λ h. h }
early (AtLink u) b = record { to = λ c n e. e; from = λ c n e. e; owns = λ c v o. o; not_behind = λ h. h }
early (Deciding u y) b = record { to = λ c n e. e; from = λ c n e. e; owns = λ c v o. o; not_behind = λ h. h }
early (AtBad u) b = record { to = λ c n e. e; from = λ c n e. e; owns = λ c v o. o; not_behind = λ h. h }
early (AtRaise u) b = absurd b
early AtShort b = absurd b
early Over b = absurd b

-- behind it: the call raises its link or stores its shortcut
pub behind_at : {A : Type 0} (s : Stage) → IsBehind s → ((u : ℕ) → s ≡ AtRaise u → A) → (s ≡ AtShort → A) → A
behind_at (Storing j) b f g = absurd b
behind_at (Flushing j) b f g = absurd b
behind_at Seeking b f g = absurd b
behind_at (AtMeta u) b f g = absurd b
behind_at (AtLink u) b f g = absurd b
behind_at (Deciding u y) b f g = absurd b
behind_at (AtBad u) b f g = absurd b
behind_at (AtRaise u) b f g = f u refl
behind_at AtShort b f g = g refl
behind_at Over b f g = absurd b

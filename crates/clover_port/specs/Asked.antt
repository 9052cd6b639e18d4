-- The access that a machine asks for, as the act that it is where it finds a number.
use Rattle.std.specs.Prelude.{◌≡◌, ℕ}
use Rattle.clover_rule.specs.Steps.{Step, act_of}
use Rattle.clover_rule.specs.declared.access.Act.{Act}
use Rattle.clover_rule.specs.declared.access.Act.TheVariants.{Load, Store, Exchange, Raise}
use Rattle.clover_port.specs.declared.op.Op.{Op}
use Rattle.clover_port.specs.declared.op.Op.TheVariants.{Load as ToLoad, Store as ToStore, Exchange as ToExchange, Raise as ToRaise}

-- the act that an access is where it finds this number
abbrev pub act_by : Op → ℕ → Act
act_by (ToLoad w) x = Load w x
act_by (ToStore w side y) x = Store w side y
act_by (ToExchange w expected new) x = Exchange w expected new x
act_by (ToRaise w y) x = Raise w y x

-- the step is that access
abbrev pub IsOp : Step → Op → Type 0
IsOp a op = (x : ℕ) → act_of a x ≡ act_by op x

-- what holds of the number that the access found; a store gives none back
abbrev pub Finds : Op → ℕ → (ℕ → Type 0) → Type 0
Finds (ToStore w side y) x P = (z : ℕ) × P z
Finds op x P = P x

-- the access gives back the number that it found: it is no store
abbrev pub IsFinding : Op → Type 0
IsFinding (ToStore w side y) = ⊥
IsFinding op = Unit {0}

-- What a `?` hands on.
use Rattle.std.proofs.Common.{◌≡◌, sym, subst}
use Rattle.std.specs.Prelude.{Result, Ok, Err, IfErr, IfOk}
use Rattle.std.specs.Result.{IsErrAnd}
use Rattle.clover_image.specs.declared.damage.Damage.{Damage}
use Rattle.clover_image.specs.declared.damage.SoundFault.{SoundFault}
use Rattle.clover_image.specs.declared.damage.SoundFault.TheVariants.{Damaged, OutOfMemory}
use Rattle.clover_image.specs.Damage.{IfDamaged}

-- an error that is d has what d has
pub handed_on : {A E : Type 0} (r : Result A E) (d : E) (P : E → Type 0) → IsErrAnd r (λ (e : E). e ≡ d) → P d → IfErr r P
handed_on (Ok x) d P h p = tt
handed_on (Err e) d P h p = subst P (sym h) p

pub ok_along : {A E : Type 0} (r : Result A E) (P Q : A → Type 0) → IfOk r P → ((a : A) → P a → Q a) → IfOk r Q
ok_along (Ok a) P Q h f = f a h
ok_along (Err e) P Q h f = tt

-- what is said of the damage that a fault names
pub damaged_along : (f : SoundFault) (P Q : Damage → Type 0) → IfDamaged f P → ((d : Damage) → P d → Q d) → IfDamaged f Q
damaged_along (Damaged d) P Q h g = g d h
damaged_along OutOfMemory P Q h g = tt

pub fault_along : {A : Type 0} (r : Result A SoundFault) (P Q : Damage → Type 0) → IfErr r (λ (f : SoundFault). IfDamaged f P) → ((d : Damage) → P d → Q d) → IfErr r (λ (f : SoundFault). IfDamaged f Q)
fault_along (Ok a) P Q h g = tt
fault_along (Err f) P Q h g = damaged_along f P Q h g

-- a `?` that makes a fault of a damage
pub damage_on : {A : Type 0} (r : Result A SoundFault) (d : Damage) (P : Damage → Type 0) → IsErrAnd r (λ (f : SoundFault). f ≡ Damaged d) → P d → IfErr r (λ (f : SoundFault). IfDamaged f P)
damage_on r d P h p = handed_on r (Damaged d) (λ (f : SoundFault). IfDamaged f P) h p

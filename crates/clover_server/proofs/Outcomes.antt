-- Where an access was made, and what it came to.
use Rattle.std.proofs.Common.{◌≡◌, ℕ, refl}
use Rattle.clover_server.specs.Going.{OnMade, OnRefused, turn_of}
use Rattle.clover_server.specs.Steps.{OnAccess}
use Rattle.clover_server.specs.declared.outcome.Outcome.{Outcome}
use Rattle.clover_server.specs.declared.outcome.Outcome.TheVariants.{Going, Unlinked, Recycled, Bound, Unreached}

-- what holds where the access was made, from what else does
pub made_so : (r : Outcome) {A B : Type 0} → (A → B) → OnMade r A → OnMade r B
made_so Going f a = f a
made_so Unlinked f a = f a
made_so (Recycled slot old root) f a = f a
made_so (Bound own) f a = f a
made_so Unreached f a = tt

-- the answer of an access, by what it came to
pub on_access : (r : Outcome) (A : ℕ → Type 0) (B : Type 0) → OnMade r ((x : ℕ) × A x) → OnRefused r B → OnAccess (turn_of r) A B
on_access Going A B a b = a
on_access Unlinked A B a b = a
on_access (Recycled slot old root) A B a b = a
on_access (Bound own) A B a b = a
on_access Unreached A B a b = b

pub refused_so : (r : Outcome) {A B : Type 0} → (A → B) → OnRefused r A → OnRefused r B
refused_so Going f a = tt
refused_so Unlinked f a = tt
refused_so (Recycled slot old root) f a = tt
refused_so (Bound own) f a = tt
refused_so Unreached f a = f a

-- what holds in either case
pub either_way : (r : Outcome) {A B C : Type 0} → (A → C) → (r ≡ Unreached → B → C) → OnMade r A → OnRefused r B → C
either_way Going f g a b = f a
either_way Unlinked f g a b = f a
either_way (Recycled slot old root) f g a b = f a
either_way (Bound own) f g a b = f a
either_way Unreached f g a b = g refl b

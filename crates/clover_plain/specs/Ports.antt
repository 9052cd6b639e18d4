-- What an access of a port leaves of its pool.
use Rattle.std.specs.Prelude.{◌≡◌, ◌≤◌, ℕ, ◌++◌, Bool, true, false, Option, Some}
use Rattle.std.proofs.Common.{sym, subst}
use Rattle.clover_port.specs.Told.{Made, Rose}
use Rattle.clover_rule.specs.Rule.{longest}
use Rattle.clover_rule.specs.Steps.{Step, act_of}
use Rattle.clover_rule.specs.declared.access.Act.{Act}
use Rattle.clover_plain.specs.Plain.{Plain, Same, Stepped, Refused, open_of, view_at}
use Rattle.clover_plain.specs.declared.port.PlainPort.{PlainPort}

-- one access was made: this step, the first of its call or a later one, found this number
abbrev pub MadeBy : PlainPort → Step → Bool → ℕ → PlainPort → Type 0
MadeBy p a b x q = Stepped a b p.list p.seat x p.pool.now q.pool.now × Made p.pool.now.setup.pool a b (view_at p.pool.now p.seat) (Some (open_of p.pool.now)) x (view_at q.pool.now q.seat) (Some (open_of q.pool.now)) × (q.seat ≡ p.seat) × (q.faults ≡ p.faults) × (q.pool.ghost_name ≡ p.pool.ghost_name) × (p.refuse ≡ false) × (q.refuse ≡ false) × (q.list ≡ false)

-- one access was refused
abbrev pub FailedBy : PlainPort → PlainPort → Type 0
FailedBy p q = ((a : Step) × Refused (act_of a 0) p.seat p.pool.now q.pool.now) × (q.seat ≡ p.seat) × Rose p.faults q.faults × (q.pool.ghost_name ≡ p.pool.ghost_name) × (p.refuse ≡ true) × (q.refuse ≡ false) × (q.list ≡ false) × (p.faults ≤ q.faults)

-- an access leaves the shape of the pool
pub pool_same : {p q : Plain} → Same p q → q.setup.pool ≡ p.setup.pool
pool_same s = λ i. (s.setup i).pool

-- a refused access leaves what the actor knows
pub refused_view : {p q : Plain} {a : Act} (i j : ℕ) → j ≡ i → Refused a i p q → view_at q j ≡ view_at p i
refused_view {p} {q} i j e r = λ k. view_at (record q { views = r.views k }) (e k)

-- a refused access leaves the words and the history
pub refused_told : {p q : Plain} {a : Act} (i : ℕ) → Refused a i p q → Some (open_of q) ≡ Some (open_of p)
refused_told i r = λ k. Some (record { words = r.words k; history = longest (r.views k ++ r.same.absent k) })

-- which answer was foretold
abbrev Foretold : Bool → Option Bool → Type 0
Foretold true (Some true) = Unit {0}
Foretold false (Some false) = Unit {0}
Foretold b o = ⊥

-- no refusal was foretold where the access was made
pub not_true : {b : Bool} → b ≡ false → Some b ≡ Some true → ⊥
not_true {b} e f = subst (λ (z : Bool). Foretold true (Some z)) e (subst (Foretold true) (sym f) tt)

-- an access was not foretold where it was refused
pub not_false : {b : Bool} → b ≡ true → Some b ≡ Some false → ⊥
not_false {b} e f = subst (λ (z : Bool). Foretold false (Some z)) e (subst (Foretold false) (sym f) tt)

-- The listed buffers of a pool are exactly those that are in it.
use Rattle.std.proofs.Common.{◌≡◌, ℕ, zero, suc, ◌+◌, ◌*◌, ◌/◌, ◌%◌, ◌<◌, ◌≤◌, true, nat_lt, refl, sym, ap, ◌∙◌, inl, inr, ⊎_elim, arith, subst}
use native.Mathlib.Decide.{ℕ_discrete, dec_le}
use mathlib.Core.Logic.{dite}
use Rattle.std.proofs.lemmas.Nat.{mul-add-lt}
use Rattle.std.proofs.Math.Nat.{mul-le-mul_left}
use Rattle.clover_words.specs.declared.pool.Pool.{Pool}
use Rattle.clover_words.proofs.Places.{split}
use Rattle.clover_rule.specs.Content.{inside}
use Rattle.clover_rule.specs.Lists.{Within}
use Rattle.clover_rule.specs.Restart.{buffers_from, buffers_of}
use Rattle.clover_rule.proofs.Ties.{and_true, both, below, test_below}

listed : (p : Pool) (q n i : ℕ) → q ≤ i → i < q + n → Within (i / p.buffers * 65536 + i % p.buffers) (buffers_from p q n)
listed p q zero i lo hi = absurd (omega arith)
listed p q (suc n) i lo hi = dite (ℕ_discrete q i) (λ e. inl (ap (λ (x : ℕ). x / p.buffers * 65536 + x % p.buffers) e)) (λ ne. inr (listed p (suc q) n i (omega arith) (omega arith)))

number : (p : Pool) (q n b : ℕ) → Within b (buffers_from p q n) → (i : ℕ) × (i < q + n) × (i / p.buffers * 65536 + i % p.buffers ≡ b)
number p q zero b w = absurd w
number p q (suc n) b w = ⊎_elim (λ e. (q, (let z : q < q + suc n = omega arith in z), e)) (λ v. let a = number p (suc q) n b v in (a.0, (let z = a.1 in let y : a.0 < q + suc n = omega arith in y), a.2)) w

pub listed_inside : (p : Pool) (b : ℕ) → inside p b ≡ true → Within b (buffers_of p)
listed_inside p b e =
    let q = both (nat_lt (b / 65536) p.nodes) (nat_lt (b % 65536) p.buffers) e in
    let x : b / 65536 < p.nodes = below (b / 65536) p.nodes q.0 in
    let y : b % 65536 < p.buffers = below (b % 65536) p.buffers q.1 in
    let i : ℕ = b / 65536 * p.buffers + b % 65536 in
    let h : i < 0 + p.nodes * p.buffers = (let z = mul-add-lt (b / 65536) p.buffers (b % 65536) p.nodes x y in omega arith) in
    let s = split (b / 65536) p.buffers (b % 65536) i y refl in
    subst (λ (z : ℕ). Within z (buffers_of p)) (ap (λ (z : ℕ). z * 65536 + i % p.buffers) s.0 ∙ ap (λ (z : ℕ). b / 65536 * 65536 + z) s.1 ∙ (let z : b / 65536 * 65536 + b % 65536 ≡ b = omega arith in z)) (listed p 0 (p.nodes * p.buffers) i (omega arith) h)

pub inside_listed : (p : Pool) (b : ℕ) → Within b (buffers_of p) → inside p b ≡ true
inside_listed p b w =
    let a = number p 0 (p.nodes * p.buffers) b w in
    let i : ℕ = a.0 in
    let some = p.some_buffer in
    let m : i % p.buffers < p.buffers = omega arith in
    let small : p.buffers ≤ 65536 = (let x = p.some_node in let y = p.total_fits in let z = mul-le-mul_left p.buffers x in omega arith) in
    let hi = a.1 in
    let d : i / p.buffers < p.nodes = dite (dec_le (suc (i / p.buffers)) p.nodes) (λ d. d) (λ d. let l : p.nodes ≤ i / p.buffers = omega arith in let k : p.buffers * p.nodes ≤ p.buffers * (i / p.buffers) = mul-le-mul_left p.buffers l in absurd (omega arith)) in
    let s = split (i / p.buffers) 65536 (i % p.buffers) b (omega arith) a.2 in
    and_true (nat_lt (b / 65536) p.nodes) (nat_lt (b % 65536) p.buffers) (test_below (b / 65536) p.nodes (subst (λ (z : ℕ). z < p.nodes) (sym s.0) d)) (test_below (b % 65536) p.buffers (subst (λ (z : ℕ). z < p.buffers) (sym s.1) m))

-- For the calls above: a walk that was just made stands on what its client knows, and how many accesses it makes in a turn.
use Rattle.std.proofs.Common.{◌≡◌, ◌≤◌, ℕ, List, [], ◌∷◌, Bool, true, false, cond, eqb, refl, ap, arith, ◌⊎◌, inl, inr, eq-eqb, eqb-true}
use Rattle.std.specs.Prelude.{Option, Some, None}
use Rattle.clover_words.specs.declared.pool.Pool.{Pool}
use Rattle.clover_rule.specs.Lists.{Within}
use Rattle.clover_rule.specs.Steps.{client}
use Rattle.clover_rule.specs.declared.view.Role.TheVariants.{Client}
use Rattle.clover_rule.specs.declared.view.View.{View}
use Rattle.clover_walk.specs.Walking.{Stand, AtShort, AtRoot, AtTag, AtLink, OnTail, Ended, IsOnWay, Holds, made_walk, key_at, since_turn}

-- what holds wherever a walk is on its way holds of a stand there
pub by_way : (P : Stand → Type 0) (at : Stand) → IsOnWay at → P AtShort → P AtRoot → ((t : ℕ) → P (AtTag t)) → ((t u : ℕ) → P (AtLink t u)) → P at
by_way P AtShort h short root tag link = short
by_way P AtRoot h short root tag link = root
by_way P (AtTag t) h short root tag link = tag t
by_way P (AtLink t u) h short root tag link = link t u
by_way P (OnTail t) h short root tag link = absurd h
by_way P Ended h short root tag link = absurd h

-- the first name of a slot is a name of it
named_first : (s : ℕ) (k : List ℕ) (names : List (ℕ × List ℕ)) → Within (s, k) names → Within (s, key_at names s) names
named_first s k [] h = h
named_first s k (q ∷ qs) h = go (λ z. named_first s k qs z) (eqb q.0 s) refl h
  where
    go : (Within (s, k) qs → Within (s, key_at qs s) qs) → (b : Bool) → eqb q.0 s ≡ b → (q ≡ (s, k)) ⊎ Within (s, k) qs → (q ≡ (s, cond b q.1 (key_at qs s))) ⊎ Within (s, cond b q.1 (key_at qs s)) qs
    go rest true e z = inl (ap (λ (n : ℕ). (n, q.1)) (eqb-true q.0 s e))
    go rest false e (inl z) = absurd (let y : eqb q.0 s ≡ true = eq-eqb q.0 s (ap (λ (p : ℕ × List ℕ). p.0) z) in cc)
    go rest false e (inr z) = inr (rest z)

-- what the cursor of a walk must be
abbrev pub IsCursor : ℕ → Option ℕ → View → Type 0
IsCursor s None v = Unit {0}
IsCursor s (Some t) v = Within (s, t) v.pass.durable

-- a walk that was just made stands on what a client knows
pub made_holds : (p : Pool) (s : ℕ) (k : List ℕ) (o : Option ℕ) (v : View) → v.pass.pool ≡ p → v.pass.role ≡ Client (client v) → Within (s, k) v.pass.names → IsCursor s o v → Holds (made_walk p s o) v
made_holds p s k None v e c n d = record { pool = e; client = c; named = named_first s k v.pass.names n; stand = d; turns = refl; below = omega arith }
made_holds p s k (Some t) v e c n d = record { pool = e; client = c; named = named_first s k v.pass.names n; stand = d; turns = refl; below = omega arith }

-- a walk makes at most three accesses in a turn
pub since_few : (at : Stand) → since_turn at ≤ 3
since_few AtShort = omega arith
since_few AtRoot = omega arith
since_few (AtTag t) = omega arith
since_few (AtLink t u) = omega arith
since_few (OnTail t) = omega arith
since_few Ended = omega arith

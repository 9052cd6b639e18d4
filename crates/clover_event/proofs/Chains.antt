-- The chain of a slot in some words: it has at most as many tags as the pool has buffers.
use Rattle.std.proofs.Common.{◌≡◌, ◌≢◌, ℕ, ◌+◌, ◌*◌, ◌/◌, ◌%◌, ◌<◌, List, [], ◌∷◌, ◌++◌, length, Bool, true, false, eqb, refl, sym, ap, ◌∙◌, subst, arith, inl, inr, ne_eqb, length-append}
use Rattle.std.specs.Prelude.{Option, Some, None, map, ◌||◌}
use Rattle.std.specs.List.{AllByRecursion, IsDistinct, list_any}
use Rattle.std.proofs.lemmas.Bool.Decides.{nat_tests}
use Rattle.std.proofs.lemmas.Map.Steps.{length-le_from_distinct_below}
use Rattle.std.proofs.lemmas.Nat.{div-mul-add, mod-mul-add, mul-add-lt}
use Rattle.std.proofs.lemmas.List.{length-map}
use Rattle.clover_words.specs.declared.pool.Pool.{Pool}
use Rattle.clover_words.specs.Tag.{home}
use Rattle.clover_rule.specs.Content.{InRange, inside}
use Rattle.clover_rule.specs.Lists.{Each, Within}
use Rattle.clover_rule.specs.Memory.{Mem, link}
use Rattle.clover_rule.specs.Chains.{Walk}
use Rattle.clover_rule.specs.Words.{mem_of}
use Rattle.clover_rule.proofs.Steps.{each_within}
use Rattle.clover_walk.specs.Alone.{LeadsOver}
use Rattle.clover_walk.specs.Walking.{budget}

-- where it begins says which chain it is
pub one_walk : (m : Mem) (x : Option ℕ) (ts us : List ℕ) → Walk m x ts → Walk m x us → ts ≡ us
one_walk m x [] [] a b = refl
one_walk m x [] (u ∷ us) a b = absurd (let e : Some u ≡ None = sym b.0 ∙ a in cc)
one_walk m x (t ∷ ts) [] a b = absurd (let e : Some t ≡ None = sym a.0 ∙ b in cc)
one_walk m x (t ∷ ts) (u ∷ us) a b =
    let e : t ≡ u = (let q : Some t ≡ Some u = sym a.0 ∙ b.0 in cc) in
    let r : ts ≡ us = one_walk m (link (m.next (home t))) ts us a.2 (subst (λ (y : ℕ). Walk m (link (m.next (home y))) us) (sym e) b.2) in
    λ i. e i ∷ r i

-- behind a tag of the chain stands a shorter one
behind : (m : Mem) (x : Option ℕ) (ts : List ℕ) (t : ℕ) → Walk m x ts → Within t ts → (us : List ℕ) × Walk m (link (m.next (home t))) us × (length us < length ts)
behind m x [] t w h = absurd h
behind m x (u ∷ ts) t w (inl e) = (ts, subst (λ (y : ℕ). Walk m (link (m.next (home y))) ts) e w.2, omega arith)
behind m x (u ∷ ts) t w (inr h) = let r = behind m (link (m.next (home u))) ts t w.2 h in (r.0, r.1, let l = r.2 in omega arith)

-- so no tag behind another one has its buffer
apart : (m : Mem) (x : Option ℕ) (t : ℕ) (ts : List ℕ) → Walk m x (t ∷ ts) → (u : ℕ) → Within u ts → home u ≢ home t
apart m x t ts w u h e =
    let r = behind m (link (m.next (home t))) ts u w.2 h in
    let same : r.0 ≡ ts = one_walk m (link (m.next (home t))) r.0 ts (subst (λ (b : ℕ). Walk m (link (m.next b)) r.0) e r.1) w.2 in
    let l = r.2 in let k : length r.0 ≡ length ts = ap length same in absurd (omega arith)

-- the place of a buffer among those of the pool
abbrev spot : Pool → ℕ → ℕ
spot p t = home t / 65536 * p.buffers + home t % 65536

inside_node : (p : Pool) (b : ℕ) → inside p b ≡ true → b / 65536 < p.nodes
inside_node p b e = grind (arith, nat_tests)

inside_index : (p : Pool) (b : ℕ) → inside p b ≡ true → b % 65536 < p.buffers
inside_index p b e = grind (arith, nat_tests)

spot_below : (p : Pool) (t : ℕ) → InRange p t → spot p t < p.nodes * p.buffers
spot_below p t r = let l = mul-add-lt (home t / 65536) p.buffers (home t % 65536) p.nodes (inside_node p (home t) r.0) (inside_index p (home t) r.0) in omega arith

spot_home : (p : Pool) (t u : ℕ) → InRange p t → InRange p u → spot p t ≡ spot p u → home t ≡ home u
spot_home p t u r s e =
    let node : home t / 65536 ≡ home u / 65536 = sym (div-mul-add (home t / 65536) p.buffers (home t % 65536) (inside_index p (home t) r.0)) ∙ ap (λ (n : ℕ). n / p.buffers) e ∙ div-mul-add (home u / 65536) p.buffers (home u % 65536) (inside_index p (home u) s.0) in
    let index : home t % 65536 ≡ home u % 65536 = sym (mod-mul-add (home t / 65536) p.buffers (home t % 65536) (inside_index p (home t) r.0)) ∙ ap (λ (n : ℕ). n % p.buffers) e ∙ mod-mul-add (home u / 65536) p.buffers (home u % 65536) (inside_index p (home u) s.0) in
    omega arith

-- the tags of a chain have different places
places_apart : (p : Pool) (n : ℕ) (us : List ℕ) → ((u : ℕ) → Within u us → n ≢ spot p u) → AllByRecursion (λ y. eqb n y ≡ false) (map (spot p) us)
places_apart p n [] h = tt
places_apart p n (u ∷ us) h = (ne_eqb n (spot p u) (h u (inl refl)), places_apart p n us (λ y w. h y (inr w)))

distinct : (p : Pool) (m : Mem) (x : Option ℕ) (ts : List ℕ) → Walk m x ts → Each (InRange p) ts → IsDistinct eqb (map (spot p) ts)
unfolding IsDistinct
distinct p m x [] w r = tt
distinct p m x (t ∷ ts) w r = (
  places_apart p (spot p t) ts (λ u h e. apart m x t ts w u h (sym (spot_home p t u r.0 (each_within (InRange p) u ts r.1 h) e))),
  distinct p m (link (m.next (home t))) ts w.2 r.1,
)

places_below : (p : Pool) (q : ℕ) (ts : List ℕ) → Each (InRange p) ts → list_any (eqb q) (map (spot p) ts) ≡ true → q < p.nodes * p.buffers
places_below p q [] r h = absurd (let e : false ≡ true = h in cc)
places_below p q (t ∷ ts) r h = go (places_below p q ts r.1) (eqb q (spot p t)) refl h
  where
    go : (list_any (eqb q) (map (spot p) ts) ≡ true → q < p.nodes * p.buffers) → (b : Bool) → eqb q (spot p t) ≡ b → (b || list_any (eqb q) (map (spot p) ts)) ≡ true → q < p.nodes * p.buffers
    go rest true e g = let same : q ≡ spot p t = grind (arith, nat_tests) in subst (λ (n : ℕ). n < p.nodes * p.buffers) (sym same) (spot_below p t r.0)
    go rest false e g = rest g

-- the links before the tail do not reach the budget, with the two stale starts that a way may have neither
pub few_links : (p : Pool) (ws : List ℕ) (x : Option ℕ) (ts : List ℕ) (u : ℕ) → LeadsOver p ws x ts u → length ts + 2 < budget p
few_links p ws x ts u l =
    let n = length-le_from_distinct_below (map (spot p) (ts ++ u ∷ [])) (p.nodes * p.buffers) (distinct p (mem_of p ws) x (ts ++ u ∷ []) l.walk l.range) (λ q h. places_below p q (ts ++ u ∷ []) l.range h) in
    let e = length-map (ts ++ u ∷ []) (spot p) in
    let k = length-append ts (u ∷ []) in
    omega arith

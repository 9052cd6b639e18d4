-- A chain of an image has each buffer once, so it has at most as many tags as the pool has buffers.
use Rattle.std.proofs.Common.{◌≡◌, ◌≢◌, ℕ, zero, suc, ◌+◌, ◌*◌, ◌/◌, ◌%◌, ◌<◌, ◌≤◌, List, [], ◌∷◌, length, Bool, true, false, eqb, refl, sym, ap, ◌∙◌, subst, arith, inl, inr, ne_eqb}
use Rattle.std.specs.Prelude.{Option, Some, None, map, ◌||◌}
use Rattle.std.specs.List.{AllByRecursion, IsDistinct, list_any}
use Rattle.std.proofs.lemmas.Bool.Decides.{nat_tests}
use Rattle.std.proofs.lemmas.List.{length-map}
use Rattle.std.proofs.lemmas.Map.Steps.{length-le_from_distinct_below}
use Rattle.std.proofs.lemmas.Nat.{div-mul-add, mod-mul-add, mul-add-lt}
use Rattle.clover_words.specs.declared.pool.Pool.{Pool}
use Rattle.clover_words.specs.declared.word.Buffer.{Buffer}
use Rattle.clover_words.specs.Tag.{TagParts, IsTag, home, tag_number}
use Rattle.clover_words.proofs.Versions.{buffer_tag}
use Rattle.clover_rule.specs.Content.{InRange, inside}
use Rattle.clover_rule.specs.Image.{Image, Chain}
use Rattle.clover_rule.specs.Lists.{Each, Within, nth}
use Rattle.clover_rule.specs.Memory.{link}
use Rattle.clover_rule.specs.Sound.{Sound}
use Rattle.clover_image.specs.Walking.{place_of}
use Rattle.clover_rule.proofs.OneReading.{one_chain}
use Rattle.clover_rule.proofs.Snocs.{within_nth}
use Rattle.clover_rule.proofs.Steps.{each_within}

-- behind a tag of the chain stands a shorter one
behind : (im : Image) (x : Option ℕ) (ts : List ℕ) (t : ℕ) → Chain im x ts → Within t ts → (us : List ℕ) × Chain im (link (im.next (home t))) us × (length us < length ts)
behind im None [] t c w = absurd w
behind im None (u ∷ ts) t c w = absurd c
behind im (Some y) [] t c w = absurd c
behind im (Some y) (u ∷ ts) t c (inl e) = (ts, subst (λ (z : ℕ). Chain im (link (im.next (home z))) ts) (c.0 ∙ e) c.2, omega arith)
behind im (Some y) (u ∷ ts) t c (inr w) = let r = behind im (link (im.next (home y))) ts t c.2 w in (r.0, r.1, (let l = r.2 in omega arith))

-- so no tag behind another one has its buffer
apart : (im : Image) (y t : ℕ) (ts : List ℕ) → Chain im (Some y) (t ∷ ts) → (u : ℕ) → Within u ts → home u ≢ home t
apart im y t ts c u w e =
    let r = behind im (link (im.next (home y))) ts u c.2 w in
    let same : r.0 ≡ ts = one_chain im (link (im.next (home y))) r.0 ts (subst (λ (b : ℕ). Chain im (link (im.next b)) r.0) (e ∙ ap home (sym c.0)) r.1) c.2 in
    let l = r.2 in let k : length r.0 ≡ length ts = ap length same in absurd (omega arith)

inside_node : (p : Pool) (b : ℕ) → inside p b ≡ true → b / 65536 < p.nodes
inside_node p b e = grind (arith, nat_tests)

inside_index : (p : Pool) (b : ℕ) → inside p b ≡ true → b % 65536 < p.buffers
inside_index p b e = grind (arith, nat_tests)

-- the place of a tag by its parts
pub place_is : (p : Pool) (t : TagParts) → IsTag t → t.node * p.buffers + t.index ≡ place_of p (tag_number t)
place_is p t h = sym (ap (λ (b : Buffer). b.node * p.buffers + b.index) (buffer_tag t h))

pub place_below : (p : Pool) (t : ℕ) → InRange p t → place_of p t < p.nodes * p.buffers
place_below p t r = let l = mul-add-lt (home t / 65536) p.buffers (home t % 65536) p.nodes (inside_node p (home t) r.0) (inside_index p (home t) r.0) in omega arith

pub place_home : (p : Pool) (t u : ℕ) → InRange p t → InRange p u → place_of p t ≡ place_of p u → home t ≡ home u
place_home p t u r s e =
    let node : home t / 65536 ≡ home u / 65536 = sym (div-mul-add (home t / 65536) p.buffers (home t % 65536) (inside_index p (home t) r.0)) ∙ ap (λ (n : ℕ). n / p.buffers) e ∙ div-mul-add (home u / 65536) p.buffers (home u % 65536) (inside_index p (home u) s.0) in
    let index : home t % 65536 ≡ home u % 65536 = sym (mod-mul-add (home t / 65536) p.buffers (home t % 65536) (inside_index p (home t) r.0)) ∙ ap (λ (n : ℕ). n % p.buffers) e ∙ mod-mul-add (home u / 65536) p.buffers (home u % 65536) (inside_index p (home u) s.0) in
    omega arith

-- the tags of a chain have different places
places_apart : (p : Pool) (n : ℕ) (us : List ℕ) → ((u : ℕ) → Within u us → n ≢ place_of p u) → AllByRecursion (λ y. eqb n y ≡ false) (map (place_of p) us)
places_apart p n [] h = tt
places_apart p n (u ∷ us) h = (ne_eqb n (place_of p u) (h u (inl refl)), places_apart p n us (λ y w. h y (inr w)))

distinct : (p : Pool) (im : Image) (x : Option ℕ) (ts : List ℕ) → Chain im x ts → Each (InRange p) ts → IsDistinct eqb (map (place_of p) ts)
unfolding IsDistinct
distinct p im x [] c r = tt
distinct p im None (t ∷ ts) c r = absurd c
distinct p im (Some y) (t ∷ ts) c r = (
  places_apart p (place_of p t) ts (λ u h e. apart im y t ts c u h (sym (place_home p t u r.0 (each_within (InRange p) u ts r.1 h) e))),
  distinct p im (link (im.next (home y))) ts c.2 r.1,
)

places_below : (p : Pool) (q : ℕ) (ts : List ℕ) → Each (InRange p) ts → list_any (eqb q) (map (place_of p) ts) ≡ true → q < p.nodes * p.buffers
places_below p q [] r h = absurd (let e : false ≡ true = h in cc)
places_below p q (t ∷ ts) r h = go (places_below p q ts r.1) (eqb q (place_of p t)) refl h
  where
    go : (list_any (eqb q) (map (place_of p) ts) ≡ true → q < p.nodes * p.buffers) → (b : Bool) → eqb q (place_of p t) ≡ b → (b || list_any (eqb q) (map (place_of p) ts)) ≡ true → q < p.nodes * p.buffers
    go rest true e g = let same : q ≡ place_of p t = grind (arith, nat_tests) in subst (λ (n : ℕ). n < p.nodes * p.buffers) (sym same) (place_below p t r.0)
    go rest false e g = rest g

-- a chain has at most as many tags as the pool has buffers
pub chain_fits : (p : Pool) (im : Image) (x : Option ℕ) (ts : List ℕ) → Chain im x ts → Each (InRange p) ts → length ts ≤ p.nodes * p.buffers
chain_fits p im x ts c r =
    let n = length-le_from_distinct_below (map (place_of p) ts) (p.nodes * p.buffers) (distinct p im x ts c r) (λ q h. places_below p q ts r h) in
    let e = length-map ts (place_of p) in
    omega arith

-- and so have tags of the pool of which no two are of one buffer
abbrev pub AreApart : List ℕ → Type 0
AreApart ts = (i j t u : ℕ) → nth ts i ≡ Some t → nth ts j ≡ Some u → home u ≡ home t → j ≡ i

distinct_apart : (p : Pool) (ts : List ℕ) → AreApart ts → Each (InRange p) ts → IsDistinct eqb (map (place_of p) ts)
unfolding IsDistinct
distinct_apart p [] h r = tt
distinct_apart p (t ∷ ts) h r = (
  places_apart p (place_of p t) ts (λ u w e. let q = within_nth u ts w in
      let z : suc q.0 ≡ 0 = h 0 (suc q.0) t u refl q.1 (sym (place_home p t u r.0 (each_within (InRange p) u ts r.1 w) e)) in absurd (omega arith)),
  distinct_apart p ts (λ i j a b e f g. let z : suc j ≡ suc i = h (suc i) (suc j) a b e f g in omega arith) r.1,
)

pub apart_fits : (p : Pool) (ts : List ℕ) → AreApart ts → Each (InRange p) ts → length ts ≤ p.nodes * p.buffers
apart_fits p ts h r =
    let n = length-le_from_distinct_below (map (place_of p) ts) (p.nodes * p.buffers) (distinct_apart p ts h r) (λ q w. places_below p q ts r w) in
    let e = length-map ts (place_of p) in
    omega arith

pub each_nth : {A : Type 0} (P : A → Type 0) (xs : List A) → ((i : ℕ) (x : A) → nth xs i ≡ Some x → P x) → Each P xs
each_nth P [] h = tt
each_nth P (x ∷ xs) h = (h 0 x refl, each_nth P xs (λ i y e. h (suc i) y e))

pub nth_each : {A : Type 0} → (P : A → Type 0) (xs : List A) (i : ℕ) (x : A) → Each P xs → nth xs i ≡ Some x → P x
nth_each P [] i x e q = absurd (let z : None ≡ Some x = q in cc)
nth_each P (y ∷ ys) zero x e q = let z : y ≡ x = (let w : Some y ≡ Some x = q in cc) in subst P z e.0
nth_each P (y ∷ ys) (suc i) x e q = nth_each P ys i x e.1 q

module _ (p : Pool) (im : Image) (sound : Sound p im) where
  chain_range : (x : Option ℕ) (us : List ℕ) → ((t : ℕ) → x ≡ Some t → InRange p t) → Chain im x us → Each (InRange p) us
  chain_range x [] h c = tt
  chain_range None (u ∷ us) h c = absurd c
  chain_range (Some t) (u ∷ us) h c = (subst (InRange p) c.0 (h t refl), chain_range (link (im.next (home t))) us (sound.target (home t)) c.2)

  -- each chain of a sound image is one of tags of the pool
  pub slot_range : (s : ℕ) → Each (InRange p) (sound.chain s)
  slot_range s = chain_range (im.root s) (sound.chain s) (sound.root s) (sound.walk s)

-- Buffers by their numbers: the tags of the tombstones, and the tags that are dealt to the clients.
use Rattle.std.proofs.Common.{◌≡◌, ◌≢◌, ℕ, zero, suc, ◌+◌, ◌*◌, ◌/◌, ◌%◌, ◌<◌, ◌≤◌, [], ◌∷◌, Bool, true, false, cond, nat_lt, refl, sym, ap, ◌∙◌, inl, inr, ⊎_elim, subst, arith}
use native.Mathlib.Decide.{ℕ_discrete, dec_le}
use mathlib.Core.Logic.{dite}
use Rattle.std.proofs.lemmas.Nat.{mul-add-lt}
use Rattle.std.proofs.Math.Nat.{mul-le-mul_left}
use Rattle.clover_words.specs.declared.pool.Pool.{Pool}
use Rattle.clover_words.specs.declared.setup.Setup.{Setup}
use Rattle.clover_words.specs.Place.{IsBuffer}
use Rattle.clover_words.specs.Preset.{buffers_total, dealt_number}
use Rattle.clover_words.specs.Tag.{TagParts, IsTag, home, age}
use Rattle.clover_words.proofs.Places.{split}
use Rattle.clover_words.specs.Version.{buffer_at}
use Rattle.clover_words.proofs.Versions.{home_tag, age_tag, buffer_tag}
use Rattle.clover_rule.specs.Content.{inside}
use Rattle.clover_rule.specs.Lists.{Each, Within}
use Rattle.clover_rule.specs.Views.{Apart}
use Rattle.clover_rule.proofs.Keeping.{inside_of}
use Rattle.clover_rule.proofs.Steps.{each_of}
use Rattle.clover_rule.proofs.Ties.{below, test_below, buffer_in}
use Rattle.clover_plain.specs.Preset.{number_of, tag_at, dealt_from}

-- the buffer of a number is one of the pool
pub node_below : (p : Pool) (n : ℕ) → n < buffers_total p → (n / p.buffers < p.nodes) × (n % p.buffers < p.buffers)
node_below p n h =
    let b = p.some_buffer in
    let m : n % p.buffers < p.buffers = omega arith in
    (dite (dec_le (suc (n / p.buffers)) p.nodes) (λ d. d) (λ d. let l : p.nodes ≤ n / p.buffers = omega arith in let k : p.buffers * p.nodes ≤ p.buffers * (n / p.buffers) = mul-le-mul_left p.buffers l in absurd (omega arith)), m)

buffers_small : (p : Pool) → p.buffers ≤ 65536
buffers_small p = let a = p.some_node in let b = p.total_fits in let c = mul-le-mul_left p.buffers a in omega arith

parts : Pool → ℕ → TagParts
parts p n = record { node = n / p.buffers; index = n % p.buffers; generation = 0 }

is_tag : (p : Pool) (n : ℕ) → n < buffers_total p → IsTag (record { node = n / p.buffers; index = n % p.buffers; generation = 0 })
is_tag p n h = let a = node_below p n h in let x = a.0 in let y = a.1 in let b = buffers_small p in let c = p.nodes_fit in record { node = omega arith; index = omega arith; generation = omega arith }

pub tag_young : (p : Pool) (n : ℕ) → n < buffers_total p → age (tag_at p n) ≡ 0
tag_young p n h = age_tag _ (is_tag p n h)

pub tag_home : (p : Pool) (n : ℕ) → n < buffers_total p → home (tag_at p n) ≡ n / p.buffers * 65536 + n % p.buffers
tag_home p n h = home_tag _ (is_tag p n h)

-- the number of a buffer of tags
abbrev pub number_at : Pool → ℕ → ℕ
number_at p b = number_of p (buffer_at b)

pub number_tag : (p : Pool) (n : ℕ) → n < buffers_total p → number_at p (home (tag_at p n)) ≡ n
number_tag p n h =
    ap (number_of p) (buffer_tag _ (is_tag p n h)) ∙ (let b = p.some_buffer in let e : n / p.buffers * p.buffers + n % p.buffers ≡ n = omega arith in e)

pub tag_inside : (p : Pool) (n : ℕ) → n < buffers_total p → inside p (home (tag_at p n)) ≡ true
tag_inside p n h = let a = node_below p n h in inside_of p (home (tag_at p n)) (subst (IsBuffer p) (sym (buffer_tag _ (is_tag p n h))) (record { node = a.0; index = a.1 }))

-- buffers of different numbers are apart
pub one_number : (p : Pool) (n m : ℕ) → n < buffers_total p → m < buffers_total p → home (tag_at p n) ≡ home (tag_at p m) → n ≡ m
one_number p n m h i e = sym (number_tag p n h) ∙ ap (number_at p) e ∙ number_tag p m i

-- a buffer of the pool is that of its number
pub home_number : (p : Pool) (b : ℕ) → inside p b ≡ true → (number_at p b < buffers_total p) × (home (tag_at p (number_at p b)) ≡ b)
home_number p b i =
    let q = buffer_in p b i in
    let x : b / 65536 < p.nodes = q.node in
    let y : b % 65536 < p.buffers = q.index in
    let s = split (b / 65536) p.buffers (b % 65536) (number_at p b) y refl in
    let h : number_at p b < buffers_total p = (let z = mul-add-lt (b / 65536) p.buffers (b % 65536) p.nodes x y in omega arith) in
    let n : number_at p b / p.buffers ≡ b / 65536 = s.0 in
    let m : number_at p b % p.buffers ≡ b % 65536 = s.1 in
    (h, tag_home p (number_at p b) h ∙ (λ k. n k * 65536 + m k) ∙ (let e : b / 65536 * 65536 + b % 65536 ≡ b = omega arith in e))

-- what is dealt to a client
abbrev pub IsDealt : Setup → ℕ → ℕ → ℕ → Type 0
IsDealt s c put t = (q : ℕ) × (put ≤ q) × (dealt_number s c q + s.pool.slots < buffers_total s.pool) × (t ≡ tag_at s.pool (dealt_number s c q))

module _ (s : Setup) (c : ℕ) where
  abbrev fits : ℕ → Bool
  fits put = nat_lt (dealt_number s c put + s.pool.slots) (buffers_total s.pool)

  dealt_rises : (q r : ℕ) → q ≤ r → dealt_number s c q ≤ dealt_number s c r
  dealt_rises q r h = let z : s.clients * q ≤ s.clients * r = mul-le-mul_left s.clients h in omega arith

  dealt_apart : (q r : ℕ) → q < r → dealt_number s c q < dealt_number s c r
  dealt_apart q r h = let z : s.clients * suc q ≤ s.clients * r = mul-le-mul_left s.clients h in let y = s.some_client in omega arith

  pub dealt_within : (n put t : ℕ) → Within t (dealt_from s c put n) → IsDealt s c put t
  dealt_within zero put t w = absurd w
  dealt_within (suc n) put t w = go (fits put) refl w (dealt_within n (suc put) t)
    where
      go : (b : Bool) → fits put ≡ b → Within t (cond b (tag_at s.pool (dealt_number s c put) ∷ dealt_from s c (suc put) n) []) → (Within t (dealt_from s c (suc put) n) → IsDealt s c (suc put) t) → IsDealt s c put t
      go false e w f = absurd w
      go true e w f = ⊎_elim (λ d. (put, omega arith, below _ _ e, sym d)) (λ d. let r = f d in (r.0, let x = r.1 in omega arith, r.2, r.3)) w

  pub within_dealt : (n put q : ℕ) → put ≤ q → q < put + n → dealt_number s c q + s.pool.slots < buffers_total s.pool → Within (tag_at s.pool (dealt_number s c q)) (dealt_from s c put n)
  within_dealt zero put q h i e = absurd (omega arith)
  within_dealt (suc n) put q h i e = subst (λ (b : Bool). Within (tag_at s.pool (dealt_number s c q)) (cond b (tag_at s.pool (dealt_number s c put) ∷ dealt_from s c (suc put) n) []))
      (sym (test_below (dealt_number s c put + s.pool.slots) (buffers_total s.pool) (let r = dealt_rises put q h in omega arith)))
      (here (within_dealt n (suc put) q))
    where
      here : (suc put ≤ q → q < suc put + n → dealt_number s c q + s.pool.slots < buffers_total s.pool → Within (tag_at s.pool (dealt_number s c q)) (dealt_from s c (suc put) n)) → Within (tag_at s.pool (dealt_number s c q)) (tag_at s.pool (dealt_number s c put) ∷ dealt_from s c (suc put) n)
      here f = dite (ℕ_discrete put q) (λ d. inl (ap (λ (z : ℕ). tag_at s.pool (dealt_number s c z)) d)) (λ d. inr (f (omega arith) (omega arith) e))

  pub dealt_each : (P : ℕ → Type 0) (n put : ℕ) → ((q : ℕ) → dealt_number s c q + s.pool.slots < buffers_total s.pool → P (tag_at s.pool (dealt_number s c q))) → Each P (dealt_from s c put n)
  dealt_each P n put f = each_of P (dealt_from s c put n) (λ t w. let d = dealt_within n put t w in subst P (sym d.3) (f d.0 d.2))

  pub dealt_once : (n put : ℕ) → Apart (dealt_from s c put n)
  dealt_once zero put = tt
  dealt_once (suc n) put = go (fits put) refl (dealt_once n (suc put)) (dealt_within n (suc put))
    where
      go : (b : Bool) → fits put ≡ b → Apart (dealt_from s c (suc put) n) → ((t : ℕ) → Within t (dealt_from s c (suc put) n) → IsDealt s c (suc put) t) → Apart (cond b (tag_at s.pool (dealt_number s c put) ∷ dealt_from s c (suc put) n) [])
      go false e a f = tt
      go true e a f = (
        each_of (λ (u : ℕ). home u ≢ home (tag_at s.pool (dealt_number s c put))) (dealt_from s c (suc put) n) (λ t w z.
            let d = f t w in
            let x = d.2 in
            let y = below _ _ e in
            let r = dealt_apart put d.0 d.1 in
            let k : dealt_number s c d.0 ≡ dealt_number s c put = one_number s.pool (dealt_number s c d.0) (dealt_number s c put) (omega arith) (omega arith) (ap home (sym d.3) ∙ z) in
            omega arith),
        a,
      )

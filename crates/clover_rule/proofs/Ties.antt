-- A write to one copy of a word changes the decoded words at that place alone.
use Rattle.std.proofs.Common.{◌≡◌, ℕ, zero, suc, ◌+◌, ◌-◌, ◌*◌, ◌/◌, ◌%◌, ◌<◌, ◌≢◌, ◌&&◌, List, length, Bool, true, false, cond, eqb, refl, sym, ap, ◌∙◌, arith, nat_lt, eq-eqb, true≢false}
use native.Mathlib.Decide.{ℕ_discrete}
use Rattle.std.specs.Prelude.{Option, Some, None, slice_set}
use Rattle.std.proofs.lemmas.Bool.Decides.{nat_tests}
use Rattle.clover_words.specs.declared.pool.Pool.{Pool}
use Rattle.clover_words.specs.declared.word.Word.{Word}
use Rattle.clover_words.specs.declared.word.Word.TheVariants.{Next as NextOf, Meta, Value as ValueOf, Root, Key, Short, Count}
use Rattle.clover_words.specs.declared.word.Side.{Side}
use Rattle.clover_words.specs.declared.word.Side.TheVariants.{Current, Flushed}
use Rattle.clover_words.specs.Place.{IsBuffer, IsWithin, HasSide, address_of, copy_in}
use Rattle.clover_words.proofs.Places.{copy_set, copy_kept}
use Rattle.clover_words.specs.Next.{root_code}
use Rattle.clover_words.specs.Version.{buffer_at, content_at}
use Rattle.clover_rule.specs.Content.{inside}
use Rattle.clover_rule.specs.Lists.{upd}
use Rattle.clover_rule.specs.Memory.{word, Mem}
use Rattle.clover_rule.specs.Words.{next_code, root_of, next_of, guarded, mem_of}
use Rattle.clover_rule.proofs.Tools.{upd_same, upd_else}

pub record SameMem (m n : Mem) : Type 0 where
  pub next : (b : ℕ) → m.next b ≡ n.next b
  pub fnext : (b : ℕ) → m.fnext b ≡ n.fnext b
  pub body : (b k : ℕ) → m.body b k ≡ n.body b k
  pub fbody : (b k : ℕ) → m.fbody b k ≡ n.fbody b k
  pub root : (s : ℕ) → m.root s ≡ n.root s
  pub froot : (s : ℕ) → m.froot s ≡ n.froot s
  pub short : (s : ℕ) → m.short s ≡ n.short s
  pub count : m.count ≡ n.count
  pub key : (s k : ℕ) → m.key s k ≡ n.key s k
  pub fkey : (s k : ℕ) → m.fkey s k ≡ n.fkey s k

pub mem_path : (m n : Mem) → SameMem m n → m ≡ n
mem_path m n e = λ i. record { next = λ b. e.next b i; fnext = λ b. e.fnext b i; body = λ b k. e.body b k i; fbody = λ b k. e.fbody b k i; root = λ s. e.root s i; froot = λ s. e.froot s i; short = λ s. e.short s i; count = e.count i; key = λ s k. e.key s k i; fkey = λ s k. e.fkey s k i }

-- the kinds of words
abbrev pub kind_of : Word → ℕ
kind_of (NextOf b) = 0
kind_of (Meta b) = 1
kind_of (ValueOf b k) = 1
kind_of (Root s) = 2
kind_of (Key s k) = 3
kind_of (Short s) = 4
kind_of Count = 5

pub content_kind : (b k : ℕ) → kind_of (content_at b k) ≡ 1
content_kind b zero = refl
content_kind b (suc k) = refl

node_of : Word → ℕ
node_of (NextOf b) = b.node
node_of (Meta b) = b.node
node_of (ValueOf b k) = b.node
node_of w = 0

index_of : Word → ℕ
index_of (NextOf b) = b.index
index_of (Meta b) = b.index
index_of (ValueOf b k) = b.index
index_of w = 0

value_of : Word → ℕ
value_of (ValueOf b k) = suc k
value_of (Root s) = s
value_of (Key s k) = s
value_of (Short s) = s
value_of w = 0

rest_of : Word → ℕ
rest_of (Key s k) = k
rest_of w = 0

pub buffer_same : (b c : ℕ) → b / 65536 ≡ c / 65536 → b % 65536 ≡ c % 65536 → b ≡ c
buffer_same b c h i = omega arith

next_same : (b c : ℕ) → NextOf (buffer_at b) ≡ NextOf (buffer_at c) → b ≡ c
unfolding node_of index_of
next_same b c e = buffer_same b c (ap node_of e) (ap index_of e)

content_same : (b j c k : ℕ) → content_at b j ≡ content_at c k → (b ≡ c) × (j ≡ k)
unfolding node_of index_of value_of
content_same b zero c zero e = (buffer_same b c (ap node_of e) (ap index_of e), refl)
content_same b zero c (suc k) e = absurd (let z : 0 ≡ suc k = ap value_of e in omega arith)
content_same b (suc j) c zero e = absurd (let z : suc j ≡ 0 = ap value_of e in omega arith)
content_same b (suc j) c (suc k) e = (buffer_same b c (ap node_of e) (ap index_of e), ap value_of e)

pub both : (a b : Bool) → a && b ≡ true → (a ≡ true) × (b ≡ true)
both true b e = (refl, e)
both false b e = absurd (let z : false ≡ true = e in cc)

pub below : (a b : ℕ) → nat_lt a b ≡ true → a < b
below a b e = grind (arith, nat_tests)

pub test_below : (a b : ℕ) → a < b → nat_lt a b ≡ true
test_below a b h = grind (arith, nat_tests)

pub buffer_in : (p : Pool) (b : ℕ) → inside p b ≡ true → IsBuffer p (buffer_at b)
buffer_in p b e = let q = both (nat_lt (b / 65536) p.nodes) (nat_lt (b % 65536) p.buffers) e in record { node = below (b / 65536) p.nodes q.0; index = below (b % 65536) p.buffers q.1 }

pub content_in : (p : Pool) (b k : ℕ) → inside p b ≡ true → k < 1 + p.words → IsWithin p (content_at b k)
content_in p b zero e h = buffer_in p b e
content_in p b (suc k) e h = (buffer_in p b e, omega arith)

pub content_side : (b k : ℕ) (s : Side) → HasSide (content_at b k) s
content_side b zero Current = tt
content_side b zero Flushed = tt
content_side b (suc k) Current = tt
content_side b (suc k) Flushed = tt

pub guard : {A : Type 0} (b : Bool) (x y z : A) → (b ≡ true → x ≡ y) → guarded b x z ≡ guarded b y z
guard true x y z h = h refl
guard false x y z h = refl

pub guard_true : {A : Type 0} (b : Bool) (x y z : A) → b ≡ true → x ≡ y → guarded b x z ≡ y
guard_true true x y z q h = h
guard_true false x y z q h = absurd (let z1 : false ≡ true = q in cc)

pub and_true : (a b : Bool) → a ≡ true → b ≡ true → a && b ≡ true
and_true a b h i = cc

key_same : (a j b k : ℕ) → Key a j ≡ Key b k → (a ≡ b) × (j ≡ k)
unfolding value_of rest_of
key_same a j b k e = (ap value_of e, ap rest_of e)

-- whether two sides are one
abbrev same_side : Side → Side → Bool
same_side Current Current = true
same_side Flushed Flushed = true
same_side s t = false

side_same : (s t : Side) → s ≡ t → same_side s t ≡ true
side_same Current Current e = refl
side_same Flushed Flushed e = refl
side_same Current Flushed e = absurd cc
side_same Flushed Current e = absurd cc

-- copies of words of kinds j and k: of two kinds, or of two sides
abbrev Apart : ℕ → Side → ℕ → Side → Type 0
Apart j s k t = eqb j k && same_side s t ≡ false

apart : (j : ℕ) (s : Side) (k : ℕ) (t : Side) → Apart j s k t → j ≡ k → s ≡ t → ⊥
apart j s k t a e f = true≢false (sym (and_true (eqb j k) (same_side s t) (eq-eqb j k e) (side_same s t f)) ∙ a)

-- a function that another one is but for one place
changed : {A : Type 0} (f g : ℕ → A) (i : ℕ) (a : A) → f i ≡ a → ((j : ℕ) → j ≢ i → f j ≡ g j) → (j : ℕ) → f j ≡ upd g i a j
changed {A} f g i a here else j = by (ℕ_discrete j i)
  where
    by : Dec (j ≡ i) → f j ≡ upd g i a j
    by (yes d) = rw d (here ∙ sym (upd_same g i a))
    by (no d) = else j d ∙ sym (upd_else g i j a d)

changed_in : (f g : ℕ → ℕ → ℕ) (i k a : ℕ) → f i k ≡ a → ((j l : ℕ) → (j ≡ i → l ≡ k → ⊥) → f j l ≡ g j l) → (j l : ℕ) → f j l ≡ upd g i (upd (g i) k a) j l
changed_in f g i k a here else j l = by (ℕ_discrete j i) (ℕ_discrete l k)
  where
    by : Dec (j ≡ i) → Dec (l ≡ k) → f j l ≡ upd g i (upd (g i) k a) j l
    by (yes d) (yes e) = rw (d, e) (here ∙ sym (ap (λ (q : ℕ → ℕ). q k) (upd_same g i (upd (g i) k a)) ∙ upd_same (g i) k a))
    by (yes d) (no e) = else j l (λ x y. e y) ∙ rw d (sym (ap (λ (q : ℕ → ℕ). q l) (upd_same g i (upd (g i) k a)) ∙ upd_else (g i) k l a e))
    by (no d) e = else j l (λ x y. d x) ∙ sym (ap (λ (q : ℕ → ℕ). q l) (upd_else g i j (upd (g i) k a) d))

-- the codes and what they say
pub root_again : (x : Option ℕ) → root_of (root_code x) ≡ x
root_again None = refl
root_again (Some t) = let e : nat_lt (4398046511104 + t) 4398046511104 ≡ false = grind (arith, nat_tests) in ap (λ (b : Bool). cond b None (Some ((4398046511104 + t) - 4398046511104))) e ∙ ap (λ (n : ℕ). Some n) (let q : (4398046511104 + t) - 4398046511104 ≡ t = omega arith in q)

pub next_again : (a : ℕ) (x : Option ℕ) → root_code x < 8796093022208 → next_of (next_code (word a x)) ≡ word a x
next_again a x h = let n : ℕ = root_code x in
    let q : (a * 8796093022208 + n) / 8796093022208 ≡ a = omega arith in let r : (a * 8796093022208 + n) % 8796093022208 ≡ n = omega arith in
    ap (λ (y : ℕ). word y (root_of ((a * 8796093022208 + n) % 8796093022208))) q ∙ ap (λ (y : ℕ). word a (root_of y)) r ∙ ap (word a) (root_again x)

-- the decoded words of m are those of n, each kind and side but those of a written copy
record Others (m n : Mem) (j : ℕ) (s : Side) : Type 0 where
  pub next : Apart j s 0 Current → (b : ℕ) → m.next b ≡ n.next b
  pub fnext : Apart j s 0 Flushed → (b : ℕ) → m.fnext b ≡ n.fnext b
  pub body : Apart j s 1 Current → (b k : ℕ) → m.body b k ≡ n.body b k
  pub fbody : Apart j s 1 Flushed → (b k : ℕ) → m.fbody b k ≡ n.fbody b k
  pub root : Apart j s 2 Current → (b : ℕ) → m.root b ≡ n.root b
  pub froot : Apart j s 2 Flushed → (b : ℕ) → m.froot b ≡ n.froot b
  pub short : Apart j s 4 Current → (b : ℕ) → m.short b ≡ n.short b
  pub count : Apart j s 5 Current → m.count ≡ n.count
  pub key : Apart j s 3 Current → (b k : ℕ) → m.key b k ≡ n.key b k
  pub fkey : Apart j s 3 Flushed → (b k : ℕ) → m.fkey b k ≡ n.fkey b k

-- one copy of one word is written: each other one is as before
module _ (p : Pool) (ws : List ℕ) (w : Word) (s0 : Side) (n : ℕ) (hw : IsWithin p w) (hs : HasSide w s0) where
  abbrev new : List ℕ
  new = slice_set ws (address_of p w s0) n

  -- this copy is not the one that is written
  abbrev Other : Word → Side → Type 0
  Other v t = v ≡ w → t ≡ s0 → ⊥

  copy_else : (v : Word) (t : Side) → Other v t → IsWithin p v → HasSide v t → copy_in p new v t ≡ copy_in p ws v t
  copy_else v t d h i = copy_kept p ws w s0 v t n hw hs h i d

  pub next_else : (b : ℕ) → Other (NextOf (buffer_at b)) Current → (mem_of p new).next b ≡ (mem_of p ws).next b
  next_else b d = guard (inside p b) _ _ (word 0 None) (λ h. ap next_of (copy_else (NextOf (buffer_at b)) Current d (buffer_in p b h) tt))

  pub fnext_else : (b : ℕ) → Other (NextOf (buffer_at b)) Flushed → (mem_of p new).fnext b ≡ (mem_of p ws).fnext b
  fnext_else b d = guard (inside p b) _ _ (word 0 None) (λ h. ap next_of (copy_else (NextOf (buffer_at b)) Flushed d (buffer_in p b h) tt))

  body_else : (b k : ℕ) → Other (content_at b k) Current → (mem_of p new).body b k ≡ (mem_of p ws).body b k
  body_else b k d = guard (inside p b && nat_lt k (1 + p.words)) _ _ 0 (λ h. copy_else (content_at b k) Current d (let q = both (inside p b) (nat_lt k (1 + p.words)) h in content_in p b k q.0 (below k (1 + p.words) q.1)) (content_side b k Current))

  fbody_else : (b k : ℕ) → Other (content_at b k) Flushed → (mem_of p new).fbody b k ≡ (mem_of p ws).fbody b k
  fbody_else b k d = guard (inside p b && nat_lt k (1 + p.words)) _ _ 0 (λ h. copy_else (content_at b k) Flushed d (let q = both (inside p b) (nat_lt k (1 + p.words)) h in content_in p b k q.0 (below k (1 + p.words) q.1)) (content_side b k Flushed))

  root_else : (s : ℕ) → Other (Root s) Current → (mem_of p new).root s ≡ (mem_of p ws).root s
  root_else s d = guard (nat_lt s p.slots) _ _ None (λ h. ap root_of (copy_else (Root s) Current d (below s p.slots h) tt))

  froot_else : (s : ℕ) → Other (Root s) Flushed → (mem_of p new).froot s ≡ (mem_of p ws).froot s
  froot_else s d = guard (nat_lt s p.slots) _ _ None (λ h. ap root_of (copy_else (Root s) Flushed d (below s p.slots h) tt))

  short_else : (s : ℕ) → Other (Short s) Current → (mem_of p new).short s ≡ (mem_of p ws).short s
  short_else s d = guard (nat_lt s p.slots) _ _ None (λ h. ap root_of (copy_else (Short s) Current d (below s p.slots h) tt))

  count_else : Other Count Current → (mem_of p new).count ≡ (mem_of p ws).count
  count_else d = copy_else Count Current d tt tt

  key_else : (s k : ℕ) → Other (Key s k) Current → (mem_of p new).key s k ≡ (mem_of p ws).key s k
  key_else s k d = guard (nat_lt s p.slots && nat_lt k 32) _ _ 0 (λ h. copy_else (Key s k) Current d (let q = both (nat_lt s p.slots) (nat_lt k 32) h in (below s p.slots q.0, below k 32 q.1)) tt)

  fkey_else : (s k : ℕ) → Other (Key s k) Flushed → (mem_of p new).fkey s k ≡ (mem_of p ws).fkey s k
  fkey_else s k d = guard (nat_lt s p.slots && nat_lt k 32) _ _ 0 (λ h. copy_else (Key s k) Flushed d (let q = both (nat_lt s p.slots) (nat_lt k 32) h in (below s p.slots q.0, below k 32 q.1)) tt)

  -- the written word is of this kind
  module _ (j : ℕ) (kind : kind_of w ≡ j) where
    other : (k : ℕ) (t : Side) → Apart j s0 k t → (v : Word) → kind_of v ≡ k → Other v t
    other k t a v e q z = apart j s0 k t a (sym kind ∙ (ap kind_of (sym q) ∙ e)) (sym z)

    others : Others (mem_of p new) (mem_of p ws) j s0
    others = record {
      next = λ a b. next_else b (other 0 Current a (NextOf (buffer_at b)) refl);
      fnext = λ a b. fnext_else b (other 0 Flushed a (NextOf (buffer_at b)) refl);
      body = λ a b k. body_else b k (other 1 Current a (content_at b k) (content_kind b k));
      fbody = λ a b k. fbody_else b k (other 1 Flushed a (content_at b k) (content_kind b k));
      root = λ a b. root_else b (other 2 Current a (Root b) refl);
      froot = λ a b. froot_else b (other 2 Flushed a (Root b) refl);
      short = λ a b. short_else b (other 4 Current a (Short b) refl);
      count = λ a. count_else (other 5 Current a Count refl);
      key = λ a b k. key_else b k (other 3 Current a (Key b k) refl);
      fkey = λ a b k. fkey_else b k (other 3 Flushed a (Key b k) refl);
    }

-- the decoded words after one write
module _ (p : Pool) (ws : List ℕ) (n : ℕ) where
  pub write_next : (b0 : ℕ) → inside p b0 ≡ true → address_of p (NextOf (buffer_at b0)) Current < length ws → mem_of p (slice_set ws (address_of p (NextOf (buffer_at b0)) Current) n) ≡ record (mem_of p ws) { next = upd (mem_of p ws).next b0 (next_of n) }
  write_next b0 hb hl =
      let o = others p ws (NextOf (buffer_at b0)) Current n (buffer_in p b0 hb) tt 0 refl in
      mem_path _ _ record { fnext = o.fnext refl; body = o.body refl; fbody = o.fbody refl; root = o.root refl; froot = o.froot refl; short = o.short refl; count = o.count refl; key = o.key refl; fkey = o.fkey refl; next = changed _ (mem_of p ws).next b0 (next_of n) (guard_true (inside p b0) _ _ (word 0 None) hb (ap next_of (copy_set p ws (NextOf (buffer_at b0)) Current n hl))) (λ b d. next_else p ws (NextOf (buffer_at b0)) Current n (buffer_in p b0 hb) tt b (λ e z. d (next_same b b0 e))) }

  pub write_fnext : (b0 : ℕ) → inside p b0 ≡ true → address_of p (NextOf (buffer_at b0)) Flushed < length ws → mem_of p (slice_set ws (address_of p (NextOf (buffer_at b0)) Flushed) n) ≡ record (mem_of p ws) { fnext = upd (mem_of p ws).fnext b0 (next_of n) }
  write_fnext b0 hb hl =
      let o = others p ws (NextOf (buffer_at b0)) Flushed n (buffer_in p b0 hb) tt 0 refl in
      mem_path _ _ record { next = o.next refl; body = o.body refl; fbody = o.fbody refl; root = o.root refl; froot = o.froot refl; short = o.short refl; count = o.count refl; key = o.key refl; fkey = o.fkey refl; fnext = changed _ (mem_of p ws).fnext b0 (next_of n) (guard_true (inside p b0) _ _ (word 0 None) hb (ap next_of (copy_set p ws (NextOf (buffer_at b0)) Flushed n hl))) (λ b d. fnext_else p ws (NextOf (buffer_at b0)) Flushed n (buffer_in p b0 hb) tt b (λ e z. d (next_same b b0 e))) }

  pub write_body : (b0 k0 : ℕ) → inside p b0 ≡ true → k0 < 1 + p.words → address_of p (content_at b0 k0) Current < length ws → mem_of p (slice_set ws (address_of p (content_at b0 k0) Current) n) ≡ record (mem_of p ws) { body = upd (mem_of p ws).body b0 (upd ((mem_of p ws).body b0) k0 n) }
  write_body b0 k0 hb hk hl =
      let o = others p ws (content_at b0 k0) Current n (content_in p b0 k0 hb hk) (content_side b0 k0 Current) 1 (content_kind b0 k0) in
      mem_path _ _ record { next = o.next refl; fnext = o.fnext refl; fbody = o.fbody refl; root = o.root refl; froot = o.froot refl; short = o.short refl; count = o.count refl; key = o.key refl; fkey = o.fkey refl; body = changed_in _ (mem_of p ws).body b0 k0 n (guard_true (inside p b0 && nat_lt k0 (1 + p.words)) _ _ 0 (and_true (inside p b0) (nat_lt k0 (1 + p.words)) hb (test_below k0 (1 + p.words) hk)) (copy_set p ws (content_at b0 k0) Current n hl)) (λ b k d. body_else p ws (content_at b0 k0) Current n (content_in p b0 k0 hb hk) (content_side b0 k0 Current) b k (λ e z. let q = content_same b k b0 k0 e in d q.0 q.1)) }

  pub write_fbody : (b0 k0 : ℕ) → inside p b0 ≡ true → k0 < 1 + p.words → address_of p (content_at b0 k0) Flushed < length ws → mem_of p (slice_set ws (address_of p (content_at b0 k0) Flushed) n) ≡ record (mem_of p ws) { fbody = upd (mem_of p ws).fbody b0 (upd ((mem_of p ws).fbody b0) k0 n) }
  write_fbody b0 k0 hb hk hl =
      let o = others p ws (content_at b0 k0) Flushed n (content_in p b0 k0 hb hk) (content_side b0 k0 Flushed) 1 (content_kind b0 k0) in
      mem_path _ _ record { next = o.next refl; fnext = o.fnext refl; body = o.body refl; root = o.root refl; froot = o.froot refl; short = o.short refl; count = o.count refl; key = o.key refl; fkey = o.fkey refl; fbody = changed_in _ (mem_of p ws).fbody b0 k0 n (guard_true (inside p b0 && nat_lt k0 (1 + p.words)) _ _ 0 (and_true (inside p b0) (nat_lt k0 (1 + p.words)) hb (test_below k0 (1 + p.words) hk)) (copy_set p ws (content_at b0 k0) Flushed n hl)) (λ b k d. fbody_else p ws (content_at b0 k0) Flushed n (content_in p b0 k0 hb hk) (content_side b0 k0 Flushed) b k (λ e z. let q = content_same b k b0 k0 e in d q.0 q.1)) }

  pub write_root : (s1 : ℕ) → s1 < p.slots → address_of p (Root s1) Current < length ws → mem_of p (slice_set ws (address_of p (Root s1) Current) n) ≡ record (mem_of p ws) { root = upd (mem_of p ws).root s1 (root_of n) }
  unfolding value_of
  write_root s1 hb hl =
      let o = others p ws (Root s1) Current n hb tt 2 refl in
      mem_path _ _ record { next = o.next refl; fnext = o.fnext refl; body = o.body refl; fbody = o.fbody refl; froot = o.froot refl; short = o.short refl; count = o.count refl; key = o.key refl; fkey = o.fkey refl; root = changed _ (mem_of p ws).root s1 (root_of n) (guard_true (nat_lt s1 p.slots) _ _ None (test_below s1 p.slots hb) (ap root_of (copy_set p ws (Root s1) Current n hl))) (λ s d. root_else p ws (Root s1) Current n hb tt s (λ e z. d (ap value_of e))) }

  pub write_froot : (s1 : ℕ) → s1 < p.slots → address_of p (Root s1) Flushed < length ws → mem_of p (slice_set ws (address_of p (Root s1) Flushed) n) ≡ record (mem_of p ws) { froot = upd (mem_of p ws).froot s1 (root_of n) }
  unfolding value_of
  write_froot s1 hb hl =
      let o = others p ws (Root s1) Flushed n hb tt 2 refl in
      mem_path _ _ record { next = o.next refl; fnext = o.fnext refl; body = o.body refl; fbody = o.fbody refl; root = o.root refl; short = o.short refl; count = o.count refl; key = o.key refl; fkey = o.fkey refl; froot = changed _ (mem_of p ws).froot s1 (root_of n) (guard_true (nat_lt s1 p.slots) _ _ None (test_below s1 p.slots hb) (ap root_of (copy_set p ws (Root s1) Flushed n hl))) (λ s d. froot_else p ws (Root s1) Flushed n hb tt s (λ e z. d (ap value_of e))) }

  pub write_short : (s1 : ℕ) → s1 < p.slots → address_of p (Short s1) Current < length ws → mem_of p (slice_set ws (address_of p (Short s1) Current) n) ≡ record (mem_of p ws) { short = upd (mem_of p ws).short s1 (root_of n) }
  unfolding value_of
  write_short s1 hb hl =
      let o = others p ws (Short s1) Current n hb tt 4 refl in
      mem_path _ _ record { next = o.next refl; fnext = o.fnext refl; body = o.body refl; fbody = o.fbody refl; root = o.root refl; froot = o.froot refl; count = o.count refl; key = o.key refl; fkey = o.fkey refl; short = changed _ (mem_of p ws).short s1 (root_of n) (guard_true (nat_lt s1 p.slots) _ _ None (test_below s1 p.slots hb) (ap root_of (copy_set p ws (Short s1) Current n hl))) (λ s d. short_else p ws (Short s1) Current n hb tt s (λ e z. d (ap value_of e))) }

  pub write_count : address_of p Count Current < length ws → mem_of p (slice_set ws (address_of p Count Current) n) ≡ record (mem_of p ws) { count = n }
  write_count hl = let o = others p ws Count Current n tt tt 5 refl in mem_path _ _ record { next = o.next refl; fnext = o.fnext refl; body = o.body refl; fbody = o.fbody refl; root = o.root refl; froot = o.froot refl; short = o.short refl; key = o.key refl; fkey = o.fkey refl; count = copy_set p ws Count Current n hl }

  pub write_key : (b0 k0 : ℕ) → b0 < p.slots → k0 < 32 → address_of p (Key b0 k0) Current < length ws → mem_of p (slice_set ws (address_of p (Key b0 k0) Current) n) ≡ record (mem_of p ws) { key = upd (mem_of p ws).key b0 (upd ((mem_of p ws).key b0) k0 n) }
  write_key b0 k0 hb hk hl =
      let o = others p ws (Key b0 k0) Current n (hb, hk) tt 3 refl in
      mem_path _ _ record { next = o.next refl; fnext = o.fnext refl; body = o.body refl; fbody = o.fbody refl; root = o.root refl; froot = o.froot refl; short = o.short refl; count = o.count refl; fkey = o.fkey refl; key = changed_in _ (mem_of p ws).key b0 k0 n (guard_true (nat_lt b0 p.slots && nat_lt k0 32) _ _ 0 (and_true (nat_lt b0 p.slots) (nat_lt k0 32) (test_below b0 p.slots hb) (test_below k0 32 hk)) (copy_set p ws (Key b0 k0) Current n hl)) (λ s k d. key_else p ws (Key b0 k0) Current n (hb, hk) tt s k (λ e z. let q = key_same s k b0 k0 e in d q.0 q.1)) }

  pub write_fkey : (b0 k0 : ℕ) → b0 < p.slots → k0 < 32 → address_of p (Key b0 k0) Flushed < length ws → mem_of p (slice_set ws (address_of p (Key b0 k0) Flushed) n) ≡ record (mem_of p ws) { fkey = upd (mem_of p ws).fkey b0 (upd ((mem_of p ws).fkey b0) k0 n) }
  write_fkey b0 k0 hb hk hl =
      let o = others p ws (Key b0 k0) Flushed n (hb, hk) tt 3 refl in
      mem_path _ _ record { next = o.next refl; fnext = o.fnext refl; body = o.body refl; fbody = o.fbody refl; root = o.root refl; froot = o.froot refl; short = o.short refl; count = o.count refl; key = o.key refl; fkey = changed_in _ (mem_of p ws).fkey b0 k0 n (guard_true (nat_lt b0 p.slots && nat_lt k0 32) _ _ 0 (and_true (nat_lt b0 p.slots) (nat_lt k0 32) (test_below b0 p.slots hb) (test_below k0 32 hk)) (copy_set p ws (Key b0 k0) Flushed n hl)) (λ s k d. fkey_else p ws (Key b0 k0) Flushed n (hb, hk) tt s k (λ e z. let q = key_same s k b0 k0 e in d q.0 q.1)) }

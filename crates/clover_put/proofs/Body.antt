-- The content words of the version that a put commits, and what a meta word says.
use Prim.Native.Nat.{zero, suc}
use Rattle.std.proofs.Common.{⊎_elim, ◌⊎◌, ◌≡◌, ℕ, ◌+◌, ◌-◌, ◌/◌, ◌%◌, ◌^◌, ◌<◌, ◌≤◌, ◌==◌, length, Bool, true, false, cond, eqb, leb, ◌&&◌, refl, sym, ap, ◌∙◌, arith, eqb-true, eq-eqb}
use Rattle.std.specs.Prelude.{Option, Some, None}
use Rattle.std.proofs.lemmas.Bool.Decides.{nat_tests}
use Rattle.clover_words.specs.declared.meta.Kind.{Kind}
use Rattle.clover_words.specs.declared.meta.Kind.TheVariants.{Value as IsValue, Tombstone}
use Rattle.clover_words.specs.Meta.{MetaParts, IsMeta, meta_word, tombstone}
use Rattle.clover_words.specs.Tag.{TagParts}
use Rattle.clover_words.specs.Pack.{packed, words_of}
use Rattle.clover_map.specs.declared.bytes.Value.{Value}
use Rattle.clover_rule.specs.Content.{content, value_meta, Fits}
use Rattle.clover_rule.specs.Lists.{nth}
use Rattle.clover_rule.proofs.Spelling.{length_words, nth_words}
use Rattle.clover_words.specs.declared.pool.Pool.{Pool}
use Rattle.clover_put.specs.declared.job.Job.{Job}
use Rattle.clover_put.specs.declared.job.Job.TheVariants.{Put, Delete, Swap}
use Rattle.clover_put.specs.Putting.{commits, body_word, kind_of}

pub value_length : (x : Value) → length (content (Some x)) ≡ suc (words_of (length x.bytes))
unfolding content
value_length x = ap suc (length_words x.bytes 0 (words_of (length x.bytes)))

pub tombstone_length : length (content None) ≡ 1
unfolding content
tombstone_length = refl

value_nth : (x : Value) (k : ℕ) → suc k < length (content (Some x)) → nth (content (Some x)) (suc k) ≡ Some (packed x.bytes k)
unfolding content
value_nth x k less = let e = length_words x.bytes 0 (words_of (length x.bytes)) in let z : 0 + k ≡ k = omega arith in nth_words x.bytes 0 (words_of (length x.bytes)) k (omega arith) ∙ ap (λ (n : ℕ). Some (packed x.bytes n)) z

meta_nth : (x : Value) → nth (content (Some x)) 0 ≡ Some (value_meta x)
unfolding content
meta_nth x = refl

dead_nth : (j : ℕ) → j < length (content None) → nth (content None) j ≡ Some tombstone
unfolding content
dead_nth zero less = refl
dead_nth (suc j) less = absurd (let z : suc j < 1 = less in omega arith)

-- the words of the version by place
pub body_nth : (j : Job) (x : Value) (i : ℕ) → i < length (content (commits j x)) → nth (content (commits j x)) i ≡ Some (body_word j x i)
body_nth Put x zero less = meta_nth x
body_nth Put x (suc k) less = value_nth x k less
body_nth Delete x i less = dead_nth i less
body_nth (Swap t) x zero less = meta_nth x
body_nth (Swap t) x (suc k) less = value_nth x k less

-- a version has a word, and fits
pub body_some : (o : Option Value) → 0 < length (content o)
body_some None = let e = tombstone_length in omega arith
body_some (Some x) = let e = value_length x in omega arith

fits_least : (p : Pool) (x : Value) → Fits p (Some x) → length (content (Some x)) ≤ suc p.words
fits_least p x f = let e = value_length x in let b = f.1 in omega arith

pub body_fits : (p : Pool) (j : Job) (x : Value) → Fits p (commits j x) → length (content (commits j x)) ≤ suc p.words
body_fits p Put x f = fits_least p x f
body_fits p Delete x f = let e = tombstone_length in omega arith
body_fits p (Swap t) x f = fits_least p x f

-- what the run-time code computes for a value word
pub value_word : (x : Value) (j : ℕ) → 0 < j → packed x.bytes (j - 1) ≡ body_word Put x j
value_word x zero less = absurd (omega arith)
value_word x (suc k) less = let e : suc k - 1 ≡ k = omega arith in ap (packed x.bytes) e

-- a meta word by its kind
kind_by : Bool → Bool → Bool → Option Kind
kind_by a b d = cond (a && b) (Some IsValue) (cond d (Some Tombstone) None)

pub kind_value : (y : ℕ) → kind_of y ≡ Some IsValue → (flags size : ℕ) × (flags < 2 ^ 32) × (size ≤ 1024) × (y ≡ meta_word (record { kind = IsValue; flags = flags; length = size }))
unfolding kind_by
kind_value y e = go (eqb (y / 2 ^ 48) 1) (leb (y % 2 ^ 16) 1024) (y == tombstone) refl refl e
  where
    go : (a b d : Bool) → eqb (y / 2 ^ 48) 1 ≡ a → leb (y % 2 ^ 16) 1024 ≡ b → kind_by a b d ≡ Some IsValue → (flags size : ℕ) × (flags < 2 ^ 32) × (size ≤ 1024) × (y ≡ meta_word (record { kind = IsValue; flags = flags; length = size }))
    go true true d p q r =
        let one : y / 2 ^ 48 ≡ 1 = eqb-true (y / 2 ^ 48) 1 p in
        let low : y % 2 ^ 16 ≤ 1024 = grind (arith, nat_tests) in
        ((y / 2 ^ 16) % 2 ^ 32, y % 2 ^ 16, omega arith, low, omega arith)
    go true false true p q r = absurd cc
    go true false false p q r = absurd cc
    go false true true p q r = absurd cc
    go false true false p q r = absurd cc
    go false false true p q r = absurd cc
    go false false false p q r = absurd cc

pub kind_dead : (y : ℕ) → kind_of y ≡ Some Tombstone → y ≡ tombstone
kind_dead y e = go (eqb (y / 2 ^ 48) 1 && leb (y % 2 ^ 16) 1024) (y == tombstone) refl e
  where
    go : (a d : Bool) → (y == tombstone) ≡ d → cond a (Some IsValue) (cond d (Some Tombstone) None) ≡ Some Tombstone → y ≡ tombstone
    go true d q r = absurd cc
    go false true q r = eqb-true y tombstone q
    go false false q r = absurd cc

pub kind_meta : (m : MetaParts) → IsMeta m → kind_of (meta_word m) ≡ Some m.kind
kind_meta m h = go m.kind m.flags m.length h
  where
    go : (k : Kind) (f n : ℕ) → IsMeta (record { kind = k; flags = f; length = n }) → kind_of (meta_word (record { kind = k; flags = f; length = n })) ≡ Some k
    go IsValue f n (a, b) =
        let w : ℕ = meta_word (record { kind = IsValue; flags = f; length = n }) in
        let one : w / 2 ^ 48 ≡ 1 = omega arith in
        let low : leb (w % 2 ^ 16) 1024 ≡ true = grind (arith, nat_tests) in
        rw (eq-eqb (w / 2 ^ 48) 1 one, low) refl
    go Tombstone f n (a, b) = rw (a, b) refl

pub kind_none : (y : ℕ) → ((m : MetaParts) → IsMeta m → meta_word m ≡ y → ⊥) → kind_of y ≡ None
kind_none y no_meta = go (kind_of y) refl
  where
    go : (o : Option Kind) → kind_of y ≡ o → o ≡ None
    go None e = refl
    go (Some IsValue) e = let v = kind_value y e in absurd (no_meta (record { kind = IsValue; flags = v.0; length = v.1 }) (v.2, v.3) (sym v.4))
    go (Some Tombstone) e = absurd (no_meta (record { kind = Tombstone; flags = 0; length = 0 }) (refl, refl) (sym (kind_dead y e)))

pub none_some : {A : Type 0} (o : Option A) (x : A) → o ≡ None → o ≡ Some x → ⊥
none_some o x e f = let q : None ≡ Some x = sym e ∙ f in absurd cc

-- how many words the version of a job has
pub count_dead : (j : Job) (x : Value) → j ≡ Delete → 1 ≡ length (content (commits j x))
count_dead j x e = sym (ap (λ (z : Job). length (content (commits z x))) e ∙ tombstone_length)

pub count_value : (j : Job) (x : Value) (n : ℕ) → (j ≡ Put) ⊎ ((t : TagParts) × (j ≡ Swap t)) → n ≡ length x.bytes → 1 + (n + 7) / 8 ≡ length (content (commits j x))
count_value j x n h e =
    let l = value_length x in
    let q : length (content (commits j x)) ≡ length (content (Some x)) = ⊎_elim (λ q. ap (λ (z : Job). length (content (commits z x))) q) (λ q. ap (λ (z : Job). length (content (commits z x))) q.1) h in
    omega arith

-- The order of keys: by their heads, and then by their bytes. It is total, and equal keys are one.
use Rattle.std.proofs.Common.{◌≡◌, ℕ, ◌≤◌, List, ◌∷◌, refl, sym, ap, ◌∙◌, arith}
use Rattle.std.specs.Cmp.{IsTotalOrder}
use Rattle.std.specs.Cmp.Lexicographic.{on_texts}
use Rattle.std.specs.Ordering.{ordering_index, ordering_reverse}
use Rattle.std.specs.declared.cmp.Ordering.{Ordering}
use Rattle.std.specs.declared.cmp.Ordering.TheVariants.{Less, Equal, Greater}
use Rattle.std.proofs.lemmas.Cmp.{tied_itself}
use Rattle.std.proofs.lemmas.Map.Lookups.{exact_bytes}
use Rattle.clover_dir.specs.Index.{head_of, key_cmp}

-- it is the order of the keys with their heads before them
pub key_total : IsTotalOrder key_cmp
key_total = on_texts (λ (k : List ℕ). head_of k ∷ k)

pub key_exact : (a b : List ℕ) → key_cmp a b ≡ Equal → a ≡ b
key_exact a b e = let q : head_of a ∷ a ≡ head_of b ∷ b = exact_bytes (head_of a ∷ a) (head_of b ∷ b) e in cc

-- no key is below itself
pub key_self : (a b : List ℕ) → a ≡ b → key_cmp a b ≡ Less → ⊥
key_self a b e l = let t = tied_itself key_total a in let z : key_cmp a a ≡ Less = ap (key_cmp a) e ∙ l in cc

-- the other way round
pub key_below : (a b : List ℕ) → key_cmp a b ≡ Greater → key_cmp b a ≡ Less
key_below a b e = key_total.antisymm b a ∙ ap ordering_reverse e

pub key_above : (a b : List ℕ) → key_cmp a b ≡ Less → key_cmp b a ≡ Greater
key_above a b e = key_total.antisymm b a ∙ ap ordering_reverse e

-- a key that is above another compares with a third no lower
pub key_rises : (a b k : List ℕ) → key_cmp a b ≡ Less → ordering_index (key_cmp a k) ≤ ordering_index (key_cmp b k)
key_rises a b k l = by (key_cmp a k) refl
  where
    by : (o : Ordering) → key_cmp a k ≡ o → ordering_index (key_cmp a k) ≤ ordering_index (key_cmp b k)
    by Less e = let z = ap ordering_index e in omega arith
    by Equal e = let z = ap ordering_index e in let y = ap ordering_index (key_above k b (sym (key_total.congr a k b e) ∙ l)) in omega arith
    by Greater e = let z = ap ordering_index e in let y = ap ordering_index (key_above k b (key_total.trans k a b (key_below a k e) l)) in omega arith

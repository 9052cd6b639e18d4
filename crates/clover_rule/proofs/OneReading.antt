-- An image has one chain for each slot, and one value at each place of it, however it was found sound.
use Rattle.std.proofs.Common.{◌≡◌, ℕ, List, [], ◌∷◌, sym, ap, ◌∙◌, refl}
use Rattle.std.specs.Prelude.{Option, Some, None}
use Rattle.clover_words.specs.declared.pool.Pool.{Pool}
use Rattle.clover_words.specs.Tag.{home}
use Rattle.clover_rule.specs.Image.{Image, Chain}
use Rattle.clover_rule.specs.Laws.{OneReadingLaw}
use Rattle.clover_rule.specs.Lists.{nth}
use Rattle.clover_rule.specs.Memory.{link}
use Rattle.clover_rule.specs.Sound.{Sound}
use Rattle.clover_rule.proofs.Spelling.{one_value}

-- an image has one chain from a root or link
pub one_chain : (im : Image) (x : Option ℕ) (ts us : List ℕ) → Chain im x ts → Chain im x us → ts ≡ us
one_chain im None [] [] c d = refl
one_chain im None [] (u ∷ us) c d = absurd d
one_chain im None (t ∷ ts) us c d = absurd c
one_chain im (Some x) [] us c d = absurd c
one_chain im (Some x) (t ∷ ts) [] c d = absurd d
one_chain im (Some x) (t ∷ ts) (u ∷ us) c d = let q : t ≡ u = sym c.0 ∙ d.0 in
    let z : ts ≡ us = one_chain im (link (im.next (home x))) ts us c.2 d.2 in cc

module _ (p : Pool) (im : Image) (one other : Sound p im) where
  same_chain : (s : ℕ) → other.chain s ≡ one.chain s
  same_chain s = one_chain im (im.root s) (other.chain s) (one.chain s) (other.walk s) (one.walk s)

  same_value : (s i t : ℕ) → nth (one.chain s) i ≡ Some t → other.value s i ≡ one.value s i
  same_value s i t e =
      let a = other.contents s i t (ap (λ (us : List ℕ). nth us i) (same_chain s) ∙ e) in
      let b = one.contents s i t e in
      one_value p (im.body (home t)) (other.value s i) (one.value s i) a.0 b.0 a.1 b.1

pub one_reading_law : OneReadingLaw
one_reading_law p im one other = record { chains = same_chain p im one other; values = same_value p im one other }

-- A chain of an image as it is read: one tag more, and all of it at its end.
use Rattle.std.proofs.Common.{◌≡◌, ℕ, ◌*◌, ◌<◌, List, [], ◌∷◌, ◌++◌, length, true, refl, sym, ap, ◌∙◌, subst, arith, length-append, append_assoc, append-nil}
use Rattle.std.specs.Prelude.{Option, Some, None, map}
use Rattle.std.specs.Option.{option_map}
use Rattle.std.proofs.lemmas.List.{length-map, map-append}
use Rattle.clover_words.specs.declared.pool.Pool.{Pool}
use Rattle.clover_words.specs.declared.word.Buffer.{Buffer}
use Rattle.clover_words.specs.Tag.{TagParts, tag_number, home}
use Rattle.clover_words.specs.Version.{buffer_at}
use Rattle.clover_rule.specs.Content.{InRange, inside}
use Rattle.clover_rule.specs.Image.{Image, Chain}
use Rattle.clover_rule.specs.Lists.{Each}
use Rattle.clover_rule.specs.Memory.{link, word}
use Rattle.clover_image.specs.Reading.{number_of}
use Rattle.clover_image.proofs.Chains.{chain_fits}
use Rattle.clover_restart.specs.Chaining.{HasChain, IsReadTo}

module _ (p : Pool) (im : Image) (x : Option ℕ) (seen : List TagParts) (t : TagParts) (a : IsReadTo p im x seen (Some t)) where
  -- the tag that comes next is the first of the others
  others_are : (us : List ℕ) → Chain im (Some (tag_number t)) us → (vs : List ℕ) × (us ≡ tag_number t ∷ vs) × Chain im (link (im.next (home (tag_number t)))) vs
  others_are [] c = absurd c
  others_are (u ∷ us) c = (us, ap (λ (z : ℕ). z ∷ us) (sym c.0), c.2)

  -- so there is one more than was read
  pub one_more : length seen < p.nodes * p.buffers
  one_more =
      let o = others_are a.others a.here in
      let f = chain_fits p im x (map tag_number seen ++ a.others) a.chain a.range in
      let e = length-append (map tag_number seen) a.others in
      let m = length-map seen tag_number in
      let l : length a.others ≡ length (tag_number t ∷ o.0) = ap length o.1 in
      omega arith

  range_at : (front back : List ℕ) (u : ℕ) → Each (InRange p) (front ++ u ∷ back) → InRange p u
  range_at [] back u r = r.0
  range_at (f ∷ front) back u r = range_at front back u r.1

  -- which is of a buffer of the pool
  pub here_inside : inside p (home (tag_number t)) ≡ true
  here_inside = let o = others_are a.others a.here in (range_at (map tag_number seen) o.0 (tag_number t) (subst (λ (us : List ℕ). Each (InRange p) (map tag_number seen ++ us)) o.1 a.range)).0

  -- with its tag it is read to where it links
  pub read_on : (at : Option TagParts) → option_map tag_number at ≡ link (im.next (home (tag_number t))) → IsReadTo p im x (seen ++ t ∷ []) at
  read_on at e =
      let o = others_are a.others a.here in
      let same : map tag_number seen ++ a.others ≡ map tag_number (seen ++ t ∷ []) ++ o.0 =
      ap (λ (us : List ℕ). map tag_number seen ++ us) o.1 ∙ sym (append_assoc (map tag_number seen) (tag_number t ∷ []) o.0) ∙ ap (λ (us : List ℕ). us ++ o.0) (sym (map-append tag_number seen (t ∷ []))) in
      record {
        others = o.0;
        chain = subst (Chain im x) same a.chain;
        range = subst (Each (InRange p)) same a.range;
        here = subst (λ (y : Option ℕ). Chain im y o.0) (sym e) o.2;
      }

-- a buffer's number is that of its parts
number_back : (n : ℕ) → number_of (buffer_at n) ≡ n
number_back n = omega arith

-- the link that the buffer's next word says
pub link_read : (im : Image) (b : Buffer) (t own : ℕ) (at : Option TagParts) → b ≡ buffer_at (home t) → word own (option_map tag_number at) ≡ im.next (number_of b) → option_map tag_number at ≡ link (im.next (home t))
link_read im b t own at e f = ap link f ∙ ap (λ (z : Buffer). link (im.next (number_of z))) e ∙ ap (λ (n : ℕ). link (im.next n)) (number_back (home t))

module _ (p : Pool) (im : Image) (x : Option ℕ) where
  -- nothing was read yet
  pub read_none : (at : Option TagParts) (seen : List TagParts) → option_map tag_number at ≡ x → seen ≡ [] → HasChain p im x → IsReadTo p im x seen at
  read_none at seen e s h = subst (λ (ts : List TagParts). IsReadTo p im x ts at) (sym s) (record { others = h.tags; chain = h.chain; range = h.range; here = subst (λ (y : Option ℕ). Chain im y h.tags) (sym e) h.chain })

  -- behind a version that links to none all of the chain was read
  pub read_all : (at : Option TagParts) (seen : List TagParts) → at ≡ None → IsReadTo p im x seen at → Chain im x (map tag_number seen)
  read_all at seen e a = subst (Chain im x) (ap (λ (us : List ℕ). map tag_number seen ++ us) (no_others a.others (subst (λ (y : Option TagParts). Chain im (option_map tag_number y) a.others) e a.here)) ∙ append-nil (map tag_number seen)) a.chain
    where
      no_others : (us : List ℕ) → Chain im None us → us ≡ []
      no_others [] c = refl
      no_others (u ∷ us) c = absurd c

-- The numbers of tags, next words, roots and meta words are those of the codecs, and what the rule allows decodes.
use Rattle.std.proofs.Common.{◌≡◌, ℕ, ◌+◌, ◌*◌, ◌/◌, ◌%◌, ◌^◌, ◌<◌, refl, sym, ap, ◌∙◌, arith, subst}
use Rattle.std.specs.Prelude.{Option, Some, None}
use Rattle.clover_words.specs.declared.pool.Pool.{Pool}
use Rattle.clover_words.specs.declared.word.Buffer.{Buffer}
use Rattle.clover_words.specs.declared.word.Word.TheVariants.{Next as NextOf, Root, Short}
use Rattle.clover_words.specs.Place.{IsBuffer}
use Rattle.clover_words.specs.Tag.{TagParts, IsTag, tag_number, home, age}
use Rattle.clover_words.specs.Next.{NextParts, IsNext, IsLink, next_word, root_word, root_code}
use Rattle.clover_words.proofs.Versions.{age_tag, buffer_tag}
use Rattle.clover_rule.specs.Content.{InRange}
use Rattle.clover_rule.specs.Memory.{word}
use Rattle.clover_rule.specs.Told.{IsShown}
use Rattle.clover_rule.specs.Words.{next_of, root_of, next_code}
use Rattle.clover_words.proofs.Spellings.{tag_small}
use Rattle.clover_rule.proofs.Ties.{next_again, root_again, buffer_in}
use Rattle.clover_rule.proofs.Keeping.{inside_of}

-- the parts of a tag's number
abbrev pub tag_parts : ℕ → TagParts
tag_parts t = record { node = t / 68719476736; index = (t / 1048576) % 65536; generation = t % 1048576 }

pub parts_again : (t : ℕ) → tag_number (tag_parts t) ≡ t
parts_again t = omega arith

-- a tag in the pool's range is a tag
pub range_tag : (p : Pool) (t : ℕ) → InRange p t → IsTag (tag_parts t)
unfolding home age
range_tag p t (i, a) =
    let b = buffer_in p (t / 1048576) i in let n = b.node in let f = p.nodes_fit in
    record { node = (let q : t / 1048576 / 65536 ≡ t / 68719476736 = omega arith in omega arith); index = omega arith; generation = omega arith }

-- links as the codecs have them
abbrev pub tag_option : Option TagParts → Option ℕ
tag_option None = None
tag_option (Some t) = Some (tag_number t)

pub root_code_is : (x : Option TagParts) → root_code (tag_option x) ≡ root_word x
root_code_is None = refl
root_code_is (Some t) = refl

pub next_code_is : (n : NextParts) → next_code (word n.own (tag_option n.link)) ≡ next_word n
next_code_is n = ap (λ (z : ℕ). n.own * 2 ^ 43 + z) (root_code_is n.link)

pub root_of_word : (x : Option TagParts) → root_of (root_word x) ≡ tag_option x
root_of_word x = ap root_of (sym (root_code_is x)) ∙ root_again (tag_option x)

link_below : (x : Option TagParts) → IsLink x → root_code (tag_option x) < 8796093022208
link_below None h = omega arith
link_below (Some t) h = let a = tag_small t h in omega arith

pub next_of_word : (n : NextParts) → IsNext n → next_of (next_word n) ≡ word n.own (tag_option n.link)
next_of_word n h = ap next_of (sym (next_code_is n)) ∙ next_again n.own (tag_option n.link) (link_below n.link h.link)

-- what the rule says that a next word may show is a next word, and what it says of roots is a root
pub shown_next : (p : Pool) (b : Buffer) (x : ℕ) → IsShown p (NextOf b) x → (n : NextParts) × IsNext n × (next_word n ≡ x)
shown_next p b x (code, (low, target)) = go (root_of (x % 8796093022208)) refl
  where
    go : (o : Option ℕ) → root_of (x % 8796093022208) ≡ o → (n : NextParts) × IsNext n × (next_word n ≡ x)
    go None e = (record { own = x / 8796093022208; link = None }, record { own = (let w = p.wear_fits in omega arith); link = tt }, ap (λ (z : Option ℕ). next_code (word (x / 8796093022208) z)) (sym e) ∙ code)
    go (Some t) e = let i = target t e in (
      record { own = x / 8796093022208; link = Some (tag_parts t) },
      record { own = (let w = p.wear_fits in omega arith); link = range_tag p t i },
      ap (λ (z : ℕ). (x / 8796093022208) * 2 ^ 43 + (2 ^ 42 + z)) (parts_again t) ∙ ap (λ (z : Option ℕ). next_code (word (x / 8796093022208) z)) (sym e) ∙ code,
    )

shown_link : (p : Pool) (x : ℕ) → root_code (root_of x) ≡ x → ((t : ℕ) → root_of x ≡ Some t → InRange p t) → (o : Option TagParts) × IsLink o × (root_word o ≡ x)
shown_link p x code target = go (root_of x) refl
  where
    go : (o : Option ℕ) → root_of x ≡ o → (o1 : Option TagParts) × IsLink o1 × (root_word o1 ≡ x)
    go None e = (None, tt, ap root_code (sym e) ∙ code)
    go (Some t) e = (Some (tag_parts t), range_tag p t (target t e), ap (λ (z : ℕ). 2 ^ 42 + z) (parts_again t) ∙ ap root_code (sym e) ∙ code)

pub shown_root : (p : Pool) (s x : ℕ) → IsShown p (Root s) x → (o : Option TagParts) × IsLink o × (root_word o ≡ x)
shown_root p s x (code, target) = shown_link p x code target

pub shown_short : (p : Pool) (s x : ℕ) → IsShown p (Short s) x → (o : Option TagParts) × IsLink o × (root_word o ≡ x)
shown_short p s x (code, target) = shown_link p x code target

-- a tag of a buffer of the pool is in range where its generation is below the wear
pub tag_range : (p : Pool) (t : TagParts) → IsTag t → IsBuffer p (record { node = t.node; index = t.index }) → t.generation < p.wear → InRange p (tag_number t)
tag_range p t h b g = (inside_of p (home (tag_number t)) (subst (IsBuffer p) (sym (buffer_tag t h)) b), let a = age_tag t h in omega arith)

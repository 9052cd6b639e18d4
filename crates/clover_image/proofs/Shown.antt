-- What decodes, and names a tag of the pool or none, is what a sound image may show of next words and roots.
use Rattle.std.proofs.Common.{◌≡◌, ℕ, ◌<◌, ◌≤◌, refl, sym, ap, ◌∙◌, subst, arith}
use Rattle.std.specs.Prelude.{Option, Some, None}
use Rattle.clover_words.specs.declared.pool.Pool.{Pool}
use Rattle.clover_words.specs.declared.word.Buffer.{Buffer}
use Rattle.clover_words.specs.declared.word.Word.TheVariants.{Next as NextOf, Root}
use Rattle.clover_words.specs.Next.{NextParts, IsNext, IsLink, next_word, root_word, root_code}
use Rattle.clover_words.specs.Place.{IsBuffer}
use Rattle.clover_words.specs.Tag.{TagParts, IsTag, tag_number, home}
use Rattle.clover_words.proofs.Versions.{age_tag, buffer_tag}
use Rattle.clover_rule.specs.Content.{InRange}
use Rattle.clover_rule.specs.Memory.{Next, word, gen, link}
use Rattle.clover_rule.specs.Told.{IsShown}
use Rattle.clover_rule.specs.Words.{next_code, next_of, root_of}
use Rattle.clover_rule.proofs.Codecs.{next_code_is, next_of_word, root_code_is, root_of_word, shown_next, shown_root, tag_option, tag_range}
use Rattle.clover_rule.proofs.Ties.{buffer_in}
use Rattle.clover_image.specs.Damage.{LinkHolds, NextHolds, RootHolds}
use Rattle.clover_image.specs.Image.{PoolImage}
use Rattle.clover_image.specs.Reading.{number_in}

-- a tag is in the pool's range where its parts are
pub in_range : (p : Pool) (t : TagParts) → IsTag t → t.node < p.nodes → t.index < p.buffers → t.generation < p.wear → InRange p (tag_number t)
in_range p t h a b c = tag_range p t h (record { node = a; index = b }) c

pub range_parts : (p : Pool) (t : TagParts) → IsTag t → InRange p (tag_number t) → (t.node < p.nodes) × (t.index < p.buffers) × (t.generation < p.wear)
range_parts p t h (i, a) =
    let b = subst (IsBuffer p) (buffer_tag t h) (buffer_in p (home (tag_number t)) i) in
    (b.node, b.index, let e = age_tag t h in omega arith)

link_targets : (p : Pool) (o : Option TagParts) → LinkHolds p o → (t : ℕ) → tag_option o ≡ Some t → InRange p t
link_targets p None f t e = absurd (let z : None ≡ Some t = e in cc)
link_targets p (Some u) f t e = subst (InRange p) (let z : Some (tag_number u) ≡ Some t = e in cc) f

targets_link : (p : Pool) (o : Option TagParts) → ((t : ℕ) → tag_option o ≡ Some t → InRange p t) → LinkHolds p o
targets_link p None f = tt
targets_link p (Some u) f = f (tag_number u) refl

module _ (p : Pool) (b : Buffer) (n : NextParts) (x : ℕ) (is : IsNext n) (e : next_word n ≡ x) where
  says : next_of x ≡ word n.own (tag_option n.link)
  says = ap next_of (sym e) ∙ next_of_word n is

  pub next_shown : n.own ≤ p.wear → LinkHolds p n.link → IsShown p (NextOf b) x
  next_shown low fine = (
    ap next_code says ∙ next_code_is n ∙ e,
    (
      subst (λ (z : Next). gen z ≤ p.wear) (sym says) low,
      λ t q. link_targets p n.link fine t (sym (ap link says) ∙ q),
    ),
  )

  pub shown_low : IsShown p (NextOf b) x → n.own ≤ p.wear
  shown_low s = subst (λ (z : Next). gen z ≤ p.wear) says s.1.0

  pub shown_fine : IsShown p (NextOf b) x → LinkHolds p n.link
  shown_fine s = targets_link p n.link (λ t q. s.1.1 t (ap link says ∙ q))

module _ (p : Pool) (s : ℕ) (o : Option TagParts) (x : ℕ) (e : root_word o ≡ x) where
  root_says : root_of x ≡ tag_option o
  root_says = ap root_of (sym e) ∙ root_of_word o

  pub root_shown : LinkHolds p o → IsShown p (Root s) x
  root_shown fine = (ap root_code root_says ∙ root_code_is o ∙ e, λ t q. link_targets p o fine t (sym root_says ∙ q))

  pub shown_root_fine : IsShown p (Root s) x → LinkHolds p o
  shown_root_fine h = targets_link p o (λ t q. h.1 t (root_says ∙ q))

module _ (m : PoolImage) where
  -- what a decoded next word says holds exactly where its parts are fine
  pub next_holds : (b : Buffer) (n : NextParts) → IsNext n → next_word n ≡ number_in m (NextOf b) → n.own ≤ m.pool.wear → LinkHolds m.pool n.link → NextHolds m b
  next_holds b n is e low fine = record { shown = next_shown m.pool b n (number_in m (NextOf b)) is e low fine }

  pub next_low : (b : Buffer) (n : NextParts) → IsNext n → next_word n ≡ number_in m (NextOf b) → NextHolds m b → n.own ≤ m.pool.wear
  next_low b n is e h = shown_low m.pool b n (number_in m (NextOf b)) is e h.shown

  pub next_link : (b : Buffer) (n : NextParts) → IsNext n → next_word n ≡ number_in m (NextOf b) → NextHolds m b → LinkHolds m.pool n.link
  next_link b n is e h = shown_fine m.pool b n (number_in m (NextOf b)) is e h.shown

  -- what does not decode does not hold
  pub next_broken : (b : Buffer) → ((n : NextParts) → IsNext n → next_word n ≡ number_in m (NextOf b) → ⊥) → NextHolds m b → ⊥
  next_broken b fails h = let d = shown_next m.pool b (number_in m (NextOf b)) h.shown in fails d.0 d.1 d.2

  pub root_holds : (s : ℕ) (o : Option TagParts) → root_word o ≡ number_in m (Root s) → LinkHolds m.pool o → RootHolds m s
  root_holds s o e fine = record { shown = root_shown m.pool s o (number_in m (Root s)) e fine }

  pub root_link : (s : ℕ) (o : Option TagParts) → root_word o ≡ number_in m (Root s) → RootHolds m s → LinkHolds m.pool o
  root_link s o e h = shown_root_fine m.pool s o (number_in m (Root s)) e h.shown

  pub root_broken : (s : ℕ) → ((o : Option TagParts) → IsLink o → root_word o ≡ number_in m (Root s) → ⊥) → RootHolds m s → ⊥
  root_broken s fails h = let d = shown_root m.pool s (number_in m (Root s)) h.shown in fails d.0 d.1 d.2

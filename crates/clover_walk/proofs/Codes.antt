-- What the number at a tag's next word shows, and the turn that it makes.
use Rattle.std.proofs.Common.{◌≡◌, ◌≢◌, ℕ, ◌+◌, Bool, cond, refl, sym, ap, ◌∙◌, arith, eq-eqb, ne_eqb}
use Rattle.std.specs.Prelude.{Option, Some, None}
use Rattle.clover_words.specs.declared.pool.Pool.{Pool}
use Rattle.clover_words.specs.declared.word.Word.TheVariants.{Root, Short}
use Rattle.clover_words.specs.Tag.{TagParts, IsTag, tag_number, age}
use Rattle.clover_words.specs.Next.{NextParts, IsLink, IsNext, next_word, root_word, root_code}
use Rattle.clover_words.specs.Version.{unlinked}
use Rattle.clover_words.proofs.Versions.{age_tag}
use Rattle.clover_rule.specs.Memory.{Next, word}
use Rattle.clover_rule.specs.Learned.{turn_at}
use Rattle.clover_rule.specs.Told.{IsShown}
use Rattle.clover_rule.specs.Words.{next_of, next_code, root_of}
use Rattle.clover_rule.proofs.Codecs.{tag_option, next_of_word, tag_parts, parts_again, range_tag}
use Rattle.clover_rule.proofs.Ties.{next_again}
use Rattle.clover_walk.specs.Standing.{number_of}
use Rattle.clover_walk.specs.Walking.{Walking, followed, hops, turned, next_start, begins}

-- what the unlinked next word of a tag says
pub unlinked_says : (t : ℕ) → next_of (unlinked t) ≡ word (age t) None
unlinked_says t = next_again (age t) None (omega arith)

-- a number that is a next word, and shows the tag's generation unlinked, makes no turn
pub no_turn : (t x : ℕ) → next_code (next_of x) ≡ x → next_of x ≡ word (age t) None → (x ≡ unlinked t) × (turn_at t x ≡ 0)
no_turn t x code e = let q : x ≡ unlinked t = sym code ∙ ap next_code e in (q, ap (λ (b : _). cond b 0 1) (eq-eqb x (unlinked t) q))

-- one that shows anything else makes a turn
pub one_turn : (t x : ℕ) (n : Next) → next_of x ≡ n → n ≢ word (age t) None → turn_at t x ≡ 1
one_turn t x n e d = ap (λ (b : _). cond b 0 1) (ne_eqb x (unlinked t) (λ q. d (sym e ∙ ap next_of q ∙ unlinked_says t)))

-- a link as a number
pub link_number : (o : Option TagParts) → tag_option o ≡ number_of o
link_number None = refl
link_number (Some t) = refl

-- how a walk goes on by a next word that is decoded: at the tag's own generation, and at another one
read_next : (w : Walking) (t x : ℕ) (n : NextParts) → IsNext n → next_word n ≡ x → followed w t (next_of x) ≡ followed w t (word n.own (tag_option n.link))
read_next w t x n h e = ap (λ (z : Next). followed w t z) (ap next_of (sym e) ∙ next_of_word n h)

pub follow_own : (w : Walking) (t : TagParts) (n : NextParts) (x : ℕ) → IsTag t → IsNext n → next_word n ≡ x → n.own ≡ t.generation → followed w (tag_number t) (next_of x) ≡ hops w (tag_number t) (number_of n.link)
follow_own w t n x ht h e q =
    read_next w (tag_number t) x n h e
    ∙ ap (λ (b : Bool). cond b (hops w (tag_number t) (tag_option n.link)) (turned w (next_start w.start) (begins (next_start w.start)))) (eq-eqb n.own (age (tag_number t)) (q ∙ sym (age_tag t ht)))
    ∙ ap (λ (o : Option ℕ). hops w (tag_number t) o) (link_number n.link)

pub follow_stale : (w : Walking) (t : TagParts) (n : NextParts) (x : ℕ) → IsTag t → IsNext n → next_word n ≡ x → n.own ≢ t.generation → followed w (tag_number t) (next_of x) ≡ turned w (next_start w.start) (begins (next_start w.start))
follow_stale w t n x ht h e q =
    read_next w (tag_number t) x n h e
    ∙ ap (λ (b : Bool). cond b (hops w (tag_number t) (tag_option n.link)) (turned w (next_start w.start) (begins (next_start w.start)))) (ne_eqb n.own (age (tag_number t)) (λ z. q (z ∙ age_tag t ht)))

-- a shortcut decodes to its tag or to none
pub short_tag : (p : Pool) (s x : ℕ) → IsShown p (Short s) x → (o : Option TagParts) × IsLink o × (root_word o ≡ x) × (number_of o ≡ root_of x)
short_tag p s x h = go (root_of x) refl
  where
    go : (n : Option ℕ) → root_of x ≡ n → (o : Option TagParts) × IsLink o × (root_word o ≡ x) × (number_of o ≡ root_of x)
    go None e = (None, tt, ap root_code (sym e) ∙ h.0, sym e)
    go (Some t) e = (Some (tag_parts t), range_tag p t (h.1 t e), ap (λ (z : ℕ). 4398046511104 + z) (parts_again t) ∙ ap root_code (sym e) ∙ h.0, ap Some (parts_again t) ∙ sym e)

-- a root that leads to a tag decodes to it
pub root_tag : (p : Pool) (s x t : ℕ) → IsShown p (Root s) x → root_of x ≡ Some t → (u : TagParts) × IsTag u × (root_word (Some u) ≡ x) × (tag_number u ≡ t)
root_tag p s x t h e =
    (tag_parts t, range_tag p t (h.1 t e), ap (λ (z : ℕ). 4398046511104 + z) (parts_again t) ∙ ap root_code (sym e) ∙ h.0, parts_again t)

-- What the words of a version are in the parts of its tag.
use Prim.Native.Nat.{zero, suc}
use Rattle.std.proofs.Common.{◌≡◌, ℕ, ◌+◌, ◌-◌, ◌*◌, ◌/◌, ◌%◌, ◌^◌, ◌<◌, ap, arith}
use Rattle.std.specs.Prelude.{Some, None}
use Rattle.clover_words.specs.declared.word.Word.TheVariants.{Value as ValueOf}
use Rattle.clover_words.specs.Next.{next_word}
use Rattle.clover_words.specs.Tag.{TagParts, IsTag, tag_number, home, age}
use Rattle.clover_words.specs.Version.{buffer_at, content_at, unlinked, linked}

-- a tag's number says its buffer and its generation
pub home_tag : (t : TagParts) → IsTag t → home (tag_number t) ≡ t.node * 65536 + t.index
unfolding home
home_tag t h = let a = h.generation in let b = h.index in omega arith

pub age_tag : (t : TagParts) → IsTag t → age (tag_number t) ≡ t.generation
unfolding age
age_tag t h = let a = h.generation in omega arith

pub buffer_tag : (t : TagParts) → IsTag t → buffer_at (home (tag_number t)) ≡ record { node = t.node; index = t.index }
buffer_tag t h =
    let e = home_tag t h in let a = h.index in
    let q : home (tag_number t) / 65536 ≡ t.node = omega arith in
    let r : home (tag_number t) % 65536 ≡ t.index = omega arith in
    λ i. record { node = q i; index = r i }

-- a value word by its place
pub value_is : (b j : ℕ) → 0 < j → ValueOf (buffer_at b) (j - 1) ≡ content_at b j
value_is b zero less = absurd (omega arith)
value_is b (suc k) less = let e : suc k - 1 ≡ k = omega arith in ap (ValueOf (buffer_at b)) e

-- a tag's unlinked next word, and its link to another tag
pub unlinked_is : (t : TagParts) → IsTag t → unlinked (tag_number t) ≡ next_word (record { own = t.generation; link = None })
unlinked_is t h = ap (λ (a : ℕ). a * 2 ^ 43 + 0) (age_tag t h)

pub linked_is : (t u : TagParts) → IsTag t → linked (tag_number t) (tag_number u) ≡ next_word (record { own = t.generation; link = Some u })
linked_is t u h = ap (λ (a : ℕ). a * 2 ^ 43 + (2 ^ 42 + tag_number u)) (age_tag t h)

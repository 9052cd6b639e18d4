-- each word spells one thing: what the decoders' clauses say of words that are numbers of a list
use Rattle.std.proofs.Common.{◌≡◌, ℕ, ◌<◌, Option, Some, None, refl, ap, arith}
use Rattle.clover_words.specs.declared.meta.Kind.{Kind}
use Rattle.clover_words.specs.declared.meta.Kind.TheVariants.{Value, Tombstone}
use Rattle.clover_words.specs.Tag.{TagParts, IsTag, tag_number}
use Rattle.clover_words.specs.Next.{NextParts, IsLink, IsNext, root_word, next_word}
use Rattle.clover_words.specs.Meta.{MetaParts, IsVersion, IsMeta, meta_word}

-- a tag's number is below 2 ^ 42
pub tag_small : (t : TagParts) → IsTag t → tag_number t < 4398046511104
tag_small t h = omega arith

-- a tag, a next word and a meta word of these parts
abbrev tag_of : ℕ → ℕ → ℕ → TagParts
tag_of node index generation = record { node = node; index = index; generation = generation }

abbrev next_of : ℕ → Option TagParts → NextParts
next_of own link = record { own = own; link = link }

abbrev meta_of : Kind → ℕ → ℕ → MetaParts
meta_of kind flags length = record { kind = kind; flags = flags; length = length }

-- one number, one tag
pub one_tag : (t u : TagParts) → IsTag t → IsTag u → tag_number t ≡ tag_number u → t ≡ u
one_tag t u h k e =
    let node : t.node ≡ u.node = omega arith in
    let index : t.index ≡ u.index = omega arith in
    let generation : t.generation ≡ u.generation = omega arith in
    let same : tag_of t.node t.index t.generation ≡ tag_of u.node u.index u.generation = cc in
    same

-- a root is below 2 ^ 43
pub root_small : (a : Option TagParts) → IsLink a → root_word a < 8796093022208
root_small None h = omega arith
root_small (Some t) h = omega arith

-- one root, one target
pub one_link : (a b : Option TagParts) → IsLink a → IsLink b → root_word a ≡ root_word b → a ≡ b
one_link None None h k e = refl
one_link None (Some u) h k e = absurd (omega arith)
one_link (Some t) None h k e = absurd (omega arith)
one_link (Some t) (Some u) h k e = ap Some (one_tag t u h k (omega arith))

-- one next word, one generation and link
pub one_next : (m n : NextParts) → IsNext m → IsNext n → next_word m ≡ next_word n → m ≡ n
one_next m n h k e =
    let low = root_small m.link h.link in
    let low' = root_small n.link k.link in
    let own : m.own ≡ n.own = omega arith in
    let link : m.link ≡ n.link = one_link m.link n.link h.link k.link (omega arith) in
    let same : next_of m.own m.link ≡ next_of n.own n.link = cc in
    same

-- one meta word, one kind, flags and length
pub one_meta : (m n : MetaParts) → IsMeta m → IsMeta n → meta_word m ≡ meta_word n → m ≡ n
one_meta m n = one_version m.kind m.flags m.length n.kind n.flags n.length
  where
    one_version : (a : Kind) (f l : ℕ) (b : Kind) (g k : ℕ) → IsVersion a f l → IsVersion b g k
        → meta_word (meta_of a f l) ≡ meta_word (meta_of b g k) → meta_of a f l ≡ meta_of b g k
    one_version Value f l Value g k h j e =
        let flags : f ≡ g = omega (arith, h.0, h.1, j.0, j.1) in
        let length : l ≡ k = omega (arith, h.0, h.1, j.0, j.1) in
        cc
    one_version Value f l Tombstone g k h j e = absurd (omega (arith, h.0, h.1, j.0, j.1))
    one_version Tombstone f l Value g k h j e = absurd (omega (arith, h.0, h.1, j.0, j.1))
    one_version Tombstone f l Tombstone g k h j e =
        let flags : f ≡ g = omega (arith, h.0, j.0) in
        let length : l ≡ k = omega (arith, h.1, j.1) in
        cc

-- Lists of tags that have the same tags, and a tree that keeps one of them.
use Rattle.std.proofs.Common.{◌≡◌, ◌==◌, ◌⊎◌, ℕ, Bool, true, false, cond, not, List, [], ◌∷◌, ◌++◌, ◌↔◌, Option, Some, None, Contains, IsTrue, slice_index_or, inl, inr, subst, sym, ap, refl, ◌∙◌, arith, append-nil}
use Rattle.std.specs.Ordering.{nat_cmp}
use Rattle.std.specs.BTreeSet.{BTreeSet, contains, Updates, IsFromIterResult}
use Rattle.std.proofs.lemmas.Cmp.{nat_cmp_total}
use Rattle.std.proofs.lemmas.Map.Lookups.{exact_unsigned}
use Rattle.std.proofs.lemmas.Map.Views.{btree_set_contains_iff, btree_set_contains_from_list}
use Rattle.std.proofs.lemmas.List.Elements.{Contains-append_cases, Contains-append_left, Contains-append_right}
use Rattle.std.proofs.lemmas.Bool.{eq-eqb, eqb-true}
use Rattle.std.specs.Cmp.{unsigned_tied}
use Rattle.std.specs.Option.{option_to_list}
use Rattle.clover_map.specs.declared.call.Reply.{Reply}
use Rattle.clover_map.specs.Tags.{IsFresh, HasSameTags, new_tags}

pub same_back : (ts us : List ℕ) → HasSameTags ts us → HasSameTags us ts
same_back ts us h t = ((h t).1, (h t).0)

half_append : (ts us more : List ℕ) → ((t : ℕ) → Contains ts t → Contains us t) → (t : ℕ) → Contains (ts ++ more) t → Contains (us ++ more) t
half_append ts us more h t c = elim (Contains-append_cases ts more t c) [
  | inl a ↦ Contains-append_left us more t (h t a)
  | inr b ↦ Contains-append_right us more t b
]

-- the same tags with more behind both
pub same_append : (ts us more : List ℕ) → HasSameTags ts us → HasSameTags (ts ++ more) (us ++ more)
same_append ts us more h t = (half_append ts us more (λ x. (h x).0) t, half_append us ts more (λ x. (h x).1) t)

-- a tree has a tag exactly where its keys do
in_tree : (s : BTreeSet ℕ) (t : ℕ) → IsTrue (contains nat_cmp s t) ↔ Contains s.keys t
in_tree s t = btree_set_contains_iff nat_cmp_total exact_unsigned s t

-- one tag in a list of its own
alone : (t q : ℕ) → t ≡ q → Contains (t ∷ []) q
alone t q is = (0, omega arith, is)

from_alone : (t q : ℕ) → Contains (t ∷ []) q → t ≡ q
from_alone t q h =
    let P : ℕ → Type 0 = λ k. slice_index_or (t ∷ []) k q ≡ q in
    let first : h.0 ≡ 0 = omega (arith, h.1) in
    subst P first h.2

-- what the clause `added` of a tree's `insert` says of the tag
pub fresh_added : (s : BTreeSet ℕ) (t : ℕ) (added : Bool) → added ≡ not (contains nat_cmp s t) → IsTrue added ↔ IsFresh s.keys t
fresh_added s t added is =
    let has = in_tree s t in
    elim (contains nat_cmp s t) as (λ b. added ≡ not b → (IsTrue b ↔ Contains s.keys t) → IsTrue added ↔ IsFresh s.keys t) [
      | true ↦ λ e h. (λ yes. cc, λ fresh. absurd (fresh (h.0 refl)))
      | false ↦ λ e h. (λ yes is_in. let no : false ≡ true = h.1 is_in in cc, λ fresh. e)
    ] is has

to_list : (b here : Bool) (keys : List ℕ) (t q : ℕ) → (b ≡ true → t ≡ q) → (IsTrue here → Contains keys q) → IsTrue (cond b true here) → Contains (keys ++ t ∷ []) q
to_list true here keys t q is old h = Contains-append_right keys (t ∷ []) q (alone t q (is refl))
to_list false here keys t q is old h = Contains-append_left keys (t ∷ []) q (old h)

to_tree : (b here : Bool) → IsTrue here ⊎ (b ≡ true) → IsTrue (cond b true here)
to_tree true here h = refl
to_tree false here (inl stays) = stays
to_tree false here (inr is) = cc

-- what the clause `updates` of a tree's `insert` says of the tags
pub same_inserted : (s n : BTreeSet ℕ) (t : ℕ) → Updates nat_cmp s n t true → HasSameTags n.keys (s.keys ++ t ∷ [])
same_inserted s n t is q =
    let here = contains nat_cmp s q in
    let read : contains nat_cmp n q ≡ cond (t == q) true here = is.0 q ∙ ap (λ b. cond b true here) (unsigned_tied t q) in (
      λ h. to_list (t == q) here s.keys t q (eqb-true t q) (in_tree s q).0 (subst IsTrue read ((in_tree n q).1 h)),
      λ h. (in_tree n q).0 (subst IsTrue (sym read) (to_tree (t == q) here (elim (Contains-append_cases s.keys (t ∷ []) q h) [
        | inl old ↦ inl ((in_tree s q).1 old)
        | inr new ↦ inr (eq-eqb t q (from_alone t q new))
      ]))),
    )

-- what a tree of a list has
pub same_collected : (ts : List ℕ) (n : BTreeSet ℕ) → IsFromIterResult nat_cmp ts n → HasSameTags n.keys ts
same_collected ts n is q =
    let has = in_tree n q in
    let from = btree_set_contains_from_list nat_cmp_total exact_unsigned ts n is q in
    (λ h. from.0 (has.1 h), λ h. has.0 (from.1 h))

-- the tags known behind a reply that hands out a tag, and behind one that does not
pub same_learned : (old new : List ℕ) (reply : Reply) (o : Option ℕ) (t : ℕ) → new_tags reply ≡ option_to_list o → o ≡ Some t → HasSameTags new (old ++ t ∷ []) → HasSameTags new (old ++ new_tags reply)
same_learned old new reply o t is some same =
    subst (λ more. HasSameTags new (old ++ more)) (sym (is ∙ ap option_to_list some)) same

pub same_kept : (old new : List ℕ) (reply : Reply) (o : Option ℕ) → new_tags reply ≡ option_to_list o → o ≡ None → new ≡ old → HasSameTags new (old ++ new_tags reply)
same_kept old new reply o is none kept =
    let whole : old ++ new_tags reply ≡ new = ap (λ more. old ++ more) (is ∙ ap option_to_list none) ∙ append-nil old ∙ sym kept in
    subst (λ ts. HasSameTags new ts) (sym whole) (λ q. (λ h. h, λ h. h))

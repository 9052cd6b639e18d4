-- What callers may conclude about a node's cursors from the words of the contracts.
use Rattle.std.proofs.Common.{◌≡◌, ◌≢◌, ℕ, false, [], ◌∷◌, take, All, Option, Some, None, IfSome, option_to_list, nat_eq, refl, sym, ap, ◌∙◌, subst, ⊎_elim, ne_eqb}
use Rattle.std.specs.Cmp.{nat_eq_equiv}
use Rattle.std.specs.Option.{option_or, option_map_or}
use Rattle.std.proofs.lemmas.Bool.{eqb-false}
use Rattle.std.proofs.lemmas.List.Elements.{All-nil, All-cons, All-head, All-tail, All-take}
use Rattle.clover_words.specs.Tag.{TagParts}
use Rattle.clover_cache.specs.Cursors.{CursorList, cursor_of, others, after_find}
use Rattle.clover_cache.specs.Node.{Known, last_of, cursor_at, asked, IsSet}
use Rattle.clover_cache.proofs.Keeping.{by_answer, others-unfound}
use Rattle.clover_cache.proofs.Laws.{held, cursor_of-after_find, cursor_of-after_keep-other, All-after_find}

module _ (P : ℕ × TagParts → Type 0) where
  All-to_list : (last : Option (ℕ × TagParts)) → IfSome last P → All P (option_to_list last)
  All-to_list None holds = All-nil P
  All-to_list (Some pair) holds = All-cons P pair [] holds (All-nil P)

  held_first : (slot : ℕ) (tag : TagParts) (last list : CursorList) → All P last → All P list → (found : Option TagParts) → cursor_of slot last ≡ found → option_or found (cursor_of slot list) ≡ Some tag → P (slot, tag)
  held_first slot tag last list first each None none is = held P slot tag list each is
  held_first slot tag last list first each (Some t) some is = held P slot tag last first (some ∙ is)

  -- what holds of the one that was set last and of each pair of the list holds of the slot's cursor
  pub held_at : (slot : ℕ) (tag : TagParts) (known : Known) → IfSome known.last P → All P known.list → cursor_at slot known ≡ Some tag → P (slot, tag)
  held_at slot tag known first each = held_first slot tag (option_to_list known.last) known.list (All-to_list known.last first) each (last_of slot known) refl

  -- what holds of each pair of another slot holds of each of the others
  All-others : (slot : ℕ) (list : CursorList) → All (λ pair. pair.0 ≢ slot → P pair) list → All P (others slot list)
  All-others slot [] each = All-nil P
  All-others slot (pair ∷ list) each =
      let rest = All-others slot list (All-tail (λ p. p.0 ≢ slot → P p) pair list each) in
      by_answer (nat_eq slot pair.0)
      (λ same. rw same rest)
      (λ other. rw other (All-cons P pair (others slot list) (All-head (λ p. p.0 ≢ slot → P p) pair list each (λ same. eqb-false slot pair.0 other (sym same))) rest))

module _ (slot : ℕ) (known : Known) where
  -- the cursors stay, or the list alone is another
  by_last : (P : Known → Type 0) → P known → P (record known { list = after_find slot known.list }) → P (asked slot known)
  by_last P stays moves = either (last_of slot known)
    where
      either : (found : Option TagParts) → P (option_map_or (λ _. known) found (record known { list = after_find slot known.list }))
      either None = moves
      either (Some tag) = stays

  -- asking leaves the one that was set last
  pub last-asked : (asked slot known).last ≡ known.last
  last-asked = by_last (λ k. k.last ≡ known.last) refl refl

  -- asking changes no slot's cursor
  pub cursor_at-asked : (other : ℕ) → cursor_at other (asked slot known) ≡ cursor_at other known
  cursor_at-asked other = by_last (λ k. cursor_at other k ≡ cursor_at other known) refl (ap (option_or (last_of other known)) (cursor_of-after_find slot known.list other))

  -- what holds of each pair of the list holds of each after asking
  pub All-asked : (P : ℕ × TagParts → Type 0) → All P known.list → All P (asked slot known).list
  All-asked P each = by_last (λ k. All P k.list) each (All-after_find P slot known.list each)

module _ (slot : ℕ) (tag : TagParts) (before after : Known) (is_set : IsSet slot tag before after) where
  -- what was set is the slot's cursor
  pub cursor_at-set : cursor_at slot after ≡ Some tag
  cursor_at-set = rw (is_set.last, nat_eq_equiv.refl slot) refl

  -- setting gives no other slot a cursor: what another slot has then, the list had
  pub cursor_at-set-other : (other : ℕ) (found : TagParts) → other ≢ slot → cursor_at other after ≡ Some found → cursor_of other before.list ≡ Some found
  cursor_at-set-other other found differs is =
      let apart : nat_eq other slot ≡ false = ne_eqb other slot differs in
      let listed : cursor_of other after.list ≡ Some found = rw (is_set.last, apart) at is in
      ⊎_elim
      (λ kept. cursor_of-after_keep-other other slot tag found before.list differs (ap (cursor_of other) (sym kept) ∙ listed))
      (λ left. ap (cursor_of other) (sym left.1) ∙ listed)
      is_set.list

  -- what holds of each pair of another slot and of the one that is set holds of each after setting
  pub All-set_cursor : (P : ℕ × TagParts → Type 0) → All (λ pair. pair.0 ≢ slot → P pair) before.list → P (slot, tag) → All P after.list
  All-set_cursor P each new =
      let rest = All-others P slot before.list each in
      ⊎_elim
      (λ kept. subst (All P) (sym kept) (All-cons P (slot, tag) (take 63 (others slot before.list)) new (All-take P 63 (others slot before.list) rest)))
      (λ left. subst (All P) (others-unfound slot before.list left.0 ∙ sym left.1) rest)
      is_set.list

-- What a client remembers: its cursors where one is asked for, where names are added, where it starts a call and behind one record more, and at which cursor its next call may begin.
use Rattle.std.proofs.Common.{◌≡◌, ◌≢◌, ℕ, List, [], ◌∷◌, ◌++◌, inl, inr, refl, sym, ap, ◌∙◌, subst}
use Rattle.std.specs.Prelude.{Option, Some, None, IfSome, MatchOption, ◌⊎◌}
use Rattle.std.proofs.lemmas.List.Elements.{All-nil, All-weaker}
use Rattle.std.specs.Cmp.{nat_eq_equiv}
use Rattle.clover_words.specs.Tag.{TagParts, tag_number}
use Rattle.clover_map.specs.History.{key_of}
use Rattle.clover_map.specs.declared.call.Call.{Call}
use Rattle.clover_rule.specs.Lists.{Within}
use Rattle.clover_rule.proofs.Steps.{within_prefix}
use Rattle.clover_walk.specs.Standing.{number_of}
use Rattle.clover_walk.specs.Walking.{key_at}
use Rattle.clover_cache.specs.Node.{Known, cursor_at, asked, IsSet}
use Rattle.clover_cache.proofs.Known.{held_at, last-asked, All-asked, All-set_cursor}
use Rattle.clover_node.specs.Beginning.{NodeStarts, Refuses}
use Rattle.clover_node.specs.Node.{NodeState}
use Rattle.clover_node.specs.declared.answer.NodeRefusal.TheVariants.{NeedsStock}
use Rattle.clover_event.specs.Ends.{IsLatest, IsElsewhere, MayBegin}
use Rattle.clover_event.proofs.Bound.{AreBindings}
use Rattle.clover_run.specs.Client.{Remembers, Started}
use Rattle.clover_run.specs.Wanting.{slot_for}
use Rattle.clover_run.specs.declared.client.ClientState.{ClientState}
use Rattle.clover_run.specs.declared.want.Want.TheVariants.{Nothing, Stock}
use Rattle.clover_run.proofs.Names.{slot_within, slot_new, key_more}

-- what a client remembers by a pair of its list, and by the cursor that was set last
abbrev IsKept : List (ℕ × List ℕ) → List (List ℕ × ℕ) → ℕ × TagParts → Type 0
IsKept names h q = IsLatest (key_at names q.0) (tag_number q.1) h × Within (q.0, key_at names q.0) names

abbrev IsLast : List (ℕ × List ℕ) → List (List ℕ × ℕ) → ℕ × TagParts → Type 0
IsLast names h q = (rest : List (List ℕ × ℕ)) × (h ≡ (key_at names q.0, tag_number q.1) ∷ rest) × Within (q.0, key_at names q.0) names

-- a client that has made no call
pub remembers_none : (names : List (ℕ × List ℕ)) → Remembers names (record { last = None; list = [] }) []
remembers_none names = record { last = refl; list = All-nil (IsKept names []) }

-- one that asks for a cursor remembers the same
pub remembers_asked : (names : List (ℕ × List ℕ)) (s : ℕ) (k : Known) (h : List (List ℕ × ℕ)) → Remembers names k h → Remembers names (asked s k) h
remembers_asked names s k h r = record {
  last = subst (λ (o : Option (ℕ × TagParts)). MatchOption o (h ≡ []) (IsLast names h)) (sym (last-asked s k)) r.last;
  list = All-asked s k (IsKept names h) r.list;
}

-- and so does one that is told more names
pub remembers_more : (names added : List (ℕ × List ℕ)) (k : Known) (h : List (List ℕ × ℕ)) → Remembers names k h → Remembers (names ++ added) k h
remembers_more names added k h r = record { last = last k.last r.last; list = All-weaker (IsKept names h) (IsKept (names ++ added) h) kept k.list r.list }
  where
    same : (s : ℕ) → Within (s, key_at names s) names → key_at names s ≡ key_at (names ++ added) s
    same s w = sym (key_more names added s (key_at names s) w)

    there : (s : ℕ) → Within (s, key_at names s) names → Within (s, key_at (names ++ added) s) (names ++ added)
    there s w = subst (λ (key : List ℕ). Within (s, key) (names ++ added)) (same s w) (within_prefix (s, key_at names s) names added w)

    kept : (q : ℕ × TagParts) → IsKept names h q → IsKept (names ++ added) h q
    kept q (latest, w) = (subst (λ (key : List ℕ). IsLatest key (tag_number q.1) h) (same q.0 w) latest, there q.0 w)

    last : (o : Option (ℕ × TagParts)) → MatchOption o (h ≡ []) (IsLast names h) → MatchOption o (h ≡ []) (IsLast (names ++ added) h)
    last None e = e
    last (Some q) (rest, e, w) = (rest, e ∙ ap (λ (key : List ℕ). (key, tag_number q.1) ∷ rest) (same q.0 w), there q.0 w)

-- and one that starts a call
pub remembers_starts : (x y : ClientState) (call : Call) (h : List (List ℕ × ℕ)) → Started x y call → Remembers x.node.names x.node.caller.cursors h → Remembers y.node.names y.node.caller.cursors h
remembers_starts x y call h s r = go s.how
  where
    starts : (n : NodeState) → NodeStarts x.node call n → Remembers n.names n.caller.cursors h
    starts n t = subst (λ (l : List (ℕ × List ℕ)). Remembers l n.caller.cursors h) (sym (ap (λ (m : NodeState). m.names) t.kept)) (by_slot (slot_for (key_of call) x.node.names) refl)
      where
        by_slot : (o : Option ℕ) → slot_for (key_of call) x.node.names ≡ o → Remembers x.node.names n.caller.cursors h
        by_slot None e = subst (λ (k : Known). Remembers x.node.names k h) (sym (ap (λ (m : NodeState). m.caller.cursors) (t.unnamed (slot_new (key_of call) x.node.names e)))) r
        by_slot (Some slot) e = subst (λ (k : Known). Remembers x.node.names k h) (sym (t.named slot (slot_within (key_of call) x.node.names slot e)).1.cursors) (remembers_asked x.node.names slot x.node.caller.cursors h r)

    go : (NodeStarts x.node call y.node × (y.want ≡ Nothing)) ⊎ ((y.node ≡ x.node) × (y.want ≡ Stock) × Refuses x.node call NeedsStock) → Remembers y.node.names y.node.caller.cursors h
    go (inl (t, want)) = starts y.node t
    go (inr (same, want, refuses)) = subst (λ (n : NodeState). Remembers n.names n.caller.cursors h) (sym same) r

module _ (names : List (ℕ × List ℕ)) (are : AreBindings names) where
  -- an answer sets the cursor of its call's slot: a call on another key is the latest one there as before
  pub remembers_set : (s : ℕ) (t : TagParts) (k n : Known) (h : List (List ℕ × ℕ)) → Within (s, key_at names s) names → IsSet s t k n → Remembers names k h → Remembers names n ((key_at names s, tag_number t) ∷ h)
  remembers_set s t k n h named is r = record {
    last = subst (λ (o : Option (ℕ × TagParts)). MatchOption o (h1 ≡ []) (IsLast names h1)) (sym is.last) (h, refl, named);
    list = All-set_cursor s t k n is (IsKept names h1) (All-weaker (IsKept names h) (λ q. q.0 ≢ s → IsKept names h1 q) before k.list r.list) (inl refl, named);
  }
    where
      h1 : List (List ℕ × ℕ)
      h1 = (key_at names s, tag_number t) ∷ h

      before : (q : ℕ × TagParts) → IsKept names h q → q.0 ≢ s → IsKept names h1 q
      before q (latest, bound) apart = (inr ((λ e. apart (are.slot q.0 s (key_at names s) (subst (λ (key : List ℕ). Within (q.0, key) names) (sym e) bound) named)), latest), bound)

  -- at the cursor that a client has for the key's slot its call may begin, and where it has none without one
  pub may_begin : (k : Known) (h : List (List ℕ × ℕ)) (s : ℕ) (key : List ℕ) → Remembers names k h → Within (s, key) names → MayBegin h key (number_of (cursor_at s k))
  may_begin k h s key r named = go (cursor_at s k) refl
    where
      here : key_at names s ≡ key
      here = are.key s key named

      first : (o : Option (ℕ × TagParts)) → MatchOption o (h ≡ []) (IsLast names h) → IfSome o (IsKept names h)
      first None e = tt
      first (Some q) (rest, e, bound) = (subst (IsLatest (key_at names q.0) (tag_number q.1)) (sym e) (inl refl), bound)

      elsewhere : (o : Option (ℕ × TagParts)) → k.last ≡ o → MatchOption o (h ≡ []) (IsLast names h) → cursor_at s k ≡ None → IsElsewhere key h
      elsewhere None is e none = subst (IsElsewhere key) (sym e) tt
      elsewhere (Some q) is (rest, e, bound) none = subst (IsElsewhere key) (sym e) (λ same. has q is (are.slot q.0 s key (subst (λ (l : List ℕ). Within (q.0, l) names) same bound) named) none)
        where
          has : (q : ℕ × TagParts) → k.last ≡ Some q → q.0 ≡ s → cursor_at s k ≡ None → ⊥
          has q is same none =
              let last : k.last ≡ Some (s, q.1) = is ∙ ap (λ (z : ℕ). Some (z, q.1)) same in
              let there : cursor_at s k ≡ Some q.1 = rw (last, nat_eq_equiv.refl s) refl in
              let both : None ≡ Some q.1 = sym none ∙ there in
              absurd cc

      go : (o : Option TagParts) → cursor_at s k ≡ o → MayBegin h key (number_of o)
      go None none = elsewhere k.last refl r.last none
      go (Some t) is = subst (λ (l : List ℕ). IsLatest l (tag_number t) h) here (held_at (IsKept names h) s t k (first k.last r.last) r.list is).0

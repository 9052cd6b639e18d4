-- The law of marks: which commits a cut took is seen at the map that is left.
use Rattle.std.proofs.Common.{◌≡◌, ℕ, ◌≢◌, List, [], ◌∷◌, ◌++◌, append_assoc, ⊎_elim, Bool, true, false, cond, refl, sym, ap, ◌∙◌, arith, subst}
use Rattle.std.specs.Prelude.{Contains, Option, Some, None, filter_map}
use Rattle.std.specs.FinMap.{get}
use Rattle.std.specs.List.{cons_option}
use Rattle.std.specs.Str.{bytes_eq}
use Rattle.std.proofs.lemmas.List.Elements.{Contains-append_cases, Contains-append_left, Contains-append_right, filter-append, filter_map-append}
use Rattle.std.proofs.lemmas.Slice.Eq.{bytes_eq-Decides}
use Rattle.clover_map.specs.declared.bytes.Held.{Held}
use Rattle.clover_map.specs.declared.bytes.Value.{Value}
use Rattle.clover_map.specs.declared.call.Call.{Call}
use Rattle.clover_map.specs.declared.call.Call.TheVariants.{Put, Delete, Swap}
use Rattle.clover_map.specs.declared.call.Entry.{Entry}
use Rattle.clover_map.specs.declared.call.Reply.{Reply}
use Rattle.clover_map.specs.declared.call.Reply.TheVariants.{Stored, Deleted}
use Rattle.clover_map.specs.Does.{Does, held}
use Rattle.clover_map.specs.History.{commits, commits_to, key_of}
use Rattle.clover_map.specs.Legal.{Leads, Legal, handed, used_by}
use Rattle.clover_map.specs.Tagged.{Tagged}
use Rattle.clover_map.specs.Tags.{new_tags}
use Rattle.clover_rule.specs.History.{Version, commit_of, committed, commits_at, ends, entry_key, kept, Last, lost_in, pair_of, paired}
use Rattle.clover_rule.specs.Image.{sift}
use Rattle.clover_rule.specs.Laws.{AreUsed, MarkLaw, UsedLaw}
use Rattle.clover_rule.proofs.Cuts.{commits_kept, sift_append}
use Rattle.clover_rule.proofs.Histories.{commits_first, ends_more, leads_commits}
use Rattle.clover_rule.proofs.KeyMaps.{Map, changed, leads, shows, tag_in}
use Rattle.clover_rule.proofs.Keys.{eq_key}
use Rattle.clover_rule.proofs.TaggedMaps.{Permits, new_some, permits_step, shows_step}

-- a history leads to a map that shows what it leads to
leads_shows : (m n : Tagged) (used : List ℕ) (h : List Entry) → Leads m used h n → shows n ≡ leads (shows m) h
leads_shows m n used [] l = ap shows l
leads_shows m n used (e ∷ h) l = leads_shows l.0 n (used ++ new_tags e.reply) h l.2 ∙ ap (λ (x : Map). leads x h) (shows_step m used e.call e.reply l.0 l.1)

-- the commits at a key of two histories
commits_append : (k : List ℕ) (a b : List Entry) → commits_at k (a ++ b) ≡ commits_at k a ++ commits_at k b
commits_append k a b = ap (filter_map commit_of) (filter-append (commits_to k) a b) ∙ filter_map-append commit_of (commits a k) (commits b k)

back_empty : (xs ys : List Version) → xs ++ ys ≡ [] → ys ≡ []
back_empty [] ys e = e
back_empty (x ∷ xs) ys e = absurd cc

-- a tag in the map is used, and stays so behind a step
used_step : (m n : Tagged) (used : List ℕ) (c : Call) (r : Reply) → AreUsed m used → Does m used c r n → AreUsed n (used ++ new_tags r)
used_step m n used c r a d k x e = go (committed c r) refl (sym (ap (λ (f : Map). f k) (shows_step m used c r n d)) ∙ e)
  where
    old : get m k ≡ Some x → Contains (used ++ new_tags r) x.tag
    old q = Contains-append_left used (new_tags r) x.tag (a k x q)

    pair_tag : (t : ℕ) (v : Option Value) → paired t v ≡ Some x → t ≡ x.tag
    pair_tag t None q = absurd cc
    pair_tag t (Some v) q = let z : held t v ≡ x = cc in ap (λ (y : Held). y.tag) z

    new : (w : Version) → committed c r ≡ Some w → w.tag ≡ x.tag → Contains (used ++ new_tags r) x.tag
    new w q z = Contains-append_right used (new_tags r) x.tag (subst (λ (ts : List ℕ). Contains ts x.tag) (sym (new_some c r w q)) (subst (λ (t : ℕ). Contains (w.tag ∷ []) t) z (0, omega arith, refl)))

    go : (o : Option Version) → committed c r ≡ o → changed (shows m) (key_of c) o k ≡ Some x → Contains (used ++ new_tags r) x.tag
    go None q f = old f
    go (Some w) q f = by (bytes_eq (key_of c) k) f
      where
        by : (b : Bool) → cond b (pair_of w) (get m k) ≡ Some x → Contains (used ++ new_tags r) x.tag
        by true g = new w q (pair_tag w.tag w.value g)
        by false g = old g

used_along : (m n : Tagged) (used : List ℕ) (h : List Entry) → AreUsed m used → Leads m used h n → AreUsed n (used_by used h)
used_along m n used [] a l k x e = Contains-append_left used [] x.tag (a k x (ap (λ (y : Tagged). get y k) (sym l) ∙ e))
used_along m n used (e ∷ h) a l k x q = subst (λ (ts : List ℕ). Contains ts x.tag) (append_assoc used (new_tags e.reply) (handed h)) (used_along l.0 n (used ++ new_tags e.reply) h (used_step m l.0 used e.call e.reply a l.1) l.2 k x q)

-- what is left of a history hands out no other tags
handed_kept : (lost : ℕ → Bool) (h : List Entry) (t : ℕ) → Contains (handed (kept lost h)) t → Contains (handed h) t
handed_kept lost [] t c = c
handed_kept lost (e ∷ h) t c = go (lost_in lost (commit_of e)) (handed_kept lost h t) c
  where
    go : (b : Bool) → (Contains (handed (kept lost h)) t → Contains (handed h) t) → Contains (handed (cond b (kept lost h) (e ∷ kept lost h))) t → Contains (new_tags e.reply ++ handed h) t
    go true rec d = Contains-append_right (new_tags e.reply) (handed h) t (rec d)
    go false rec d = ⊎_elim (λ a. Contains-append_left (new_tags e.reply) (handed h) t a) (λ b. Contains-append_right (new_tags e.reply) (handed h) t (rec b)) (Contains-append_cases (new_tags e.reply) (handed (kept lost h)) t d)

pub used_law : UsedLaw
used_law lost first n used h a l k x e = ⊎_elim (λ c. Contains-append_left used (handed h) x.tag c) (λ c. Contains-append_right used (handed h) x.tag (handed_kept lost h x.tag c))
    (Contains-append_cases used (handed (kept lost h)) x.tag (used_along first n used (kept lost h) a l k x e))

-- a commit changes what its key has
changes : (x : Option Held) (used : List ℕ) (c : Call) (r : Reply) (w : Version) → committed c r ≡ Some w → Permits x used c r → ((h : Held) → x ≡ Some h → Contains used h.tag) → x ≢ pair_of w
changes x used (Put k v) (Stored t) w e d s q = let z : record { tag = t; value = Some v } ≡ w = cc in d (s (held t v) (q ∙ ap pair_of (sym z)))
changes x used (Swap k u v) (Stored t) w e d s q = let z : record { tag = t; value = Some v } ≡ w = cc in d.1 (s (held t v) (q ∙ ap pair_of (sym z)))
changes x used (Delete k) (Deleted t) w e d s q = let z : record { tag = t; value = None } ≡ w = cc in d.0 (ap tag_in (q ∙ ap pair_of (sym z)))
changes x used c r w e d s q = absurd cc

module _ (e : Entry) (back : List Entry) (w : Version) (is : commit_of e ≡ Some w) where
  -- before the entry its key does not have what it commits
  changed_there : (m : Tagged) (used : List ℕ) (front : List Entry) → Legal m used (front ++ e ∷ back) → AreUsed m used → leads (shows m) front (entry_key e) ≢ pair_of w
  changed_there m used [] l a q = changes (get m (entry_key e)) used e.call e.reply w is (permits_step m used e.call e.reply l.0 l.1) (a (entry_key e)) q
  changed_there m used (x ∷ front) l a q = changed_there l.0 (used ++ new_tags x.reply) front l.2 (used_step m l.0 used x.call x.reply a l.1)
      (ap (λ (f : Map). leads f front (entry_key e)) (shows_step m used x.call x.reply l.0 l.1) ∙ q)

  -- the entry is the last of its key
  last_commit : commits_at (entry_key e) back ≡ [] → commits_at (entry_key e) (e ∷ back) ≡ w ∷ []
  last_commit none = commits_first (entry_key e) e back
      ∙ ap (λ (b : Bool). cond b (cons_option (commit_of e) (commits_at (entry_key e) back)) (commits_at (entry_key e) back)) (eq_key (entry_key e) (entry_key e) refl)
      ∙ ap (λ (o : Option Version). cons_option o (commits_at (entry_key e) back)) is ∙ ap (λ (vs : List Version). w ∷ vs) none

-- a commit behind which the key has another one is not lost
earlier_kept : (lost : ℕ → Bool) (k : List ℕ) (front back : List Entry) → commits_at k back ≢ [] → Last lost (front ++ back) → sift lost (commits_at k front) ≡ commits_at k front
earlier_kept lost k [] back n l = refl
earlier_kept lost k (x ∷ front) back n l = subst (λ (vs : List Version). sift lost vs ≡ vs) (sym (commits_first k x front)) (go (earlier_kept lost k front back n l.1) (bytes_eq (entry_key x) k) (commit_of x) refl l.0)
  where
    more : entry_key x ≡ k → commits_at (entry_key x) (front ++ back) ≢ []
    more q none = n (back_empty (commits_at k front) (commits_at k back) (sym (commits_append k front back) ∙ ap (λ (j : List ℕ). commits_at j (front ++ back)) (sym q) ∙ none))

    go : sift lost (commits_at k front) ≡ commits_at k front → (b : Bool) (c : Option Version) → bytes_eq (entry_key x) k ≡ b → (lost_in lost c ≡ true → commits_at (entry_key x) (front ++ back) ≡ []) → sift lost (cond b (cons_option c (commits_at k front)) (commits_at k front)) ≡ cond b (cons_option c (commits_at k front)) (commits_at k front)
    go rest false c q f = rest
    go rest true None q f = rest
    go rest true (Some v) q f = by (lost v.tag) refl
      where
        by : (b : Bool) → lost v.tag ≡ b → cond b (sift lost (commits_at k front)) (v ∷ sift lost (commits_at k front)) ≡ v ∷ commits_at k front
        by true z = absurd (more ((bytes_eq-Decides (entry_key x) k).0 q) (f z))
        by false z = ap (λ (vs : List Version). v ∷ vs) rest

module _ (lost : ℕ → Bool) (first n : Tagged) (used : List ℕ) (front back : List Entry) (e : Entry) (w : Version) (last : Last lost (front ++ e ∷ back)) (to : Leads first used (kept lost (front ++ e ∷ back)) n) (is : commit_of e ≡ Some w) (none : commits_at (entry_key e) back ≡ []) where
  abbrev k : List ℕ
  k = entry_key e

  some : commits_at k (e ∷ back) ≢ []
  some z = absurd (let y : w ∷ [] ≡ [] = sym (last_commit e back w is none) ∙ z in cc)

  left : sift lost (commits_at k (front ++ e ∷ back)) ≡ commits_at k front ++ sift lost (w ∷ [])
  left = ap (sift lost) (commits_append k front (e ∷ back)) ∙ sift_append lost (commits_at k front) (commits_at k (e ∷ back))
      ∙ ap (λ (vs : List Version). vs ++ sift lost (commits_at k (e ∷ back))) (earlier_kept lost k front (e ∷ back) some last)
      ∙ ap (λ (vs : List Version). commits_at k front ++ sift lost vs) (last_commit e back w is none)

  -- the key has what it had before the entry, or what the entry commits
  pub has_then : get n k ≡ cond (lost w.tag) (leads (shows first) front k) (pair_of w)
  has_then = ap (λ (f : Map). f k) (leads_shows first n used (kept lost (front ++ e ∷ back)) to)
      ∙ leads_commits (shows first) (kept lost (front ++ e ∷ back)) k
      ∙ ap (ends (get first k)) (commits_kept lost k (front ++ e ∷ back) ∙ left)
      ∙ ends_more (get first k) (commits_at k front) (sift lost (w ∷ []))
      ∙ ap (λ (x : Option Held). ends x (sift lost (w ∷ []))) (sym (leads_commits (shows first) front k))
      ∙ by (lost w.tag)
    where
      by : (b : Bool) → ends (leads (shows first) front k) (cond b [] (w ∷ [])) ≡ cond b (leads (shows first) front k) (pair_of w)
      by true = refl
      by false = refl

pub mark_law : MarkLaw
mark_law lost first n used front back e w legal known last to is none = let has = has_then lost first n used front back e w last to is none in record {
  stands = λ s. has ∙ ap (λ (b : Bool). cond b (leads (shows first) front (entry_key e)) (pair_of w)) s;
  gone = λ g q. changed_there e back w is first used front legal known (sym (ap (λ (b : Bool). cond b (leads (shows first) front (entry_key e)) (pair_of w)) g) ∙ sym has ∙ q);
}

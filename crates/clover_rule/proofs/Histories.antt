-- Laws on histories.
use Rattle.std.proofs.Common.{◌≡◌, ℕ, zero, suc, ◌≢◌, List, [], ◌∷◌, ◌++◌, length, Bool, true, false, cond, refl, sym, ap, ◌∙◌, subst, arith, ◌&&◌, true≢false}
use Rattle.std.specs.Prelude.{filter_map, Option, Some, None}
use Rattle.clover_map.specs.declared.call.Call.{Call}
use Rattle.clover_map.specs.declared.call.Call.TheVariants.{Put, Delete, Swap}
use Rattle.clover_map.specs.declared.call.Reply.{Reply}
use Rattle.clover_map.specs.declared.call.Reply.TheVariants.{Stored, Deleted}
use Rattle.clover_map.specs.declared.call.Entry.{Entry}
use Rattle.clover_map.specs.declared.bytes.Held.{Held}
use Rattle.std.specs.List.{cons_option}
use Rattle.clover_rule.proofs.Keys.{ne_key}
use Rattle.std.specs.Str.{bytes_eq}
use Rattle.clover_rule.specs.History.{Version, entry_key, commit_of, pair_of, commits_at, ends, kept, lost_in, Silent, Unread, Last, committed}
use Rattle.clover_map.specs.History.{commits, commits_to, is_commit}
use Rattle.clover_map.specs.Legal.{Legal, used_by}
use Rattle.clover_map.specs.Tagged.{Tagged}
use Rattle.clover_map.specs.Tags.{new_tags}
use Rattle.std.specs.FinMap.{get}
use Rattle.std.proofs.lemmas.List.Elements.{Contains-append_left, filter-append, filter_map-append}
use Rattle.clover_map.proofs.Runs.{legal_leads, leads_push}
use Rattle.clover_rule.proofs.KeyMaps.{Map, shows, changed, after, leads}
use Rattle.clover_rule.proofs.TaggedMaps.{Permits, Fewer, does_permitted, permits_step, shows_step, legal_history, fewer_append}
use Rattle.clover_rule.specs.Lists.{Each, nth}

-- what commits a version is a commit, so a reply that is none commits nothing
commit_some : (c : Call) (r : Reply) (w : Version) → committed c r ≡ Some w → is_commit r ≡ true
commit_some (Put k v) (Stored t) w e = refl
commit_some (Delete k) (Deleted t) w e = refl
commit_some (Swap k x v) (Stored t) w e = refl
commit_some c r w e = absurd cc

no_commit : (o : Option Version) (b : Bool) → ((w : Version) → o ≡ Some w → b ≡ true) → b ≡ false → o ≡ None
no_commit None b f e = refl
no_commit (Some w) b f e = absurd (true≢false (sym (f w refl) ∙ e))

-- the commits at a key with one more entry in front
pub commits_first : (k : List ℕ) (e : Entry) (h : List Entry) → commits_at k (e ∷ h) ≡ cond (bytes_eq (entry_key e) k) (cons_option (commit_of e) (commits_at k h)) (commits_at k h)
commits_first k e h = go (is_commit e.reply) (bytes_eq (entry_key e) k) (no_commit (commit_of e) (is_commit e.reply) (commit_some e.call e.reply))
  where
    go : (r b : Bool) → (r ≡ false → commit_of e ≡ None) → filter_map commit_of (cond (r && b) (e ∷ commits h k) (commits h k)) ≡ cond b (cons_option (commit_of e) (commits_at k h)) (commits_at k h)
    go true true f = refl
    go true false f = refl
    go false true f = sym (ap (λ (o : Option Version). cons_option o (commits_at k h)) (f refl))
    go false false f = refl

ends_changed : (m : Map) (j k : List ℕ) (c : Option Version) (ws : List Version) → ends (changed m j c k) ws ≡ ends (m k) (cond (bytes_eq j k) (cons_option c ws) ws)
ends_changed m j k None ws = elim (bytes_eq j k) as (λ b. ends (m k) ws ≡ ends (m k) (cond b ws ws)) [ true ↦ refl | false ↦ refl ]
ends_changed m j k (Some w) ws = elim (bytes_eq j k) as (λ b. ends (cond b (pair_of w) (m k)) ws ≡ ends (m k) (cond b (w ∷ ws) ws)) [ true ↦ refl | false ↦ refl ]

-- what a history leads to at a key
pub leads_commits : (m : Map) (h : List Entry) (k : List ℕ) → leads m h k ≡ ends (m k) (commits_at k h)
leads_commits m [] k = refl
leads_commits m (e ∷ h) k = leads_commits (after m e) h k ∙ ends_changed m (entry_key e) k (commit_of e) (commits_at k h) ∙ ap (ends (m k)) (sym (commits_first k e h))

-- a legal history stays so with one more entry, if the map to which it leads permits it
pub legal_snoc : (m : Tagged) (used : List ℕ) (h : List Entry) (e : Entry) → Legal m used h → Permits (leads (shows m) h (entry_key e)) (used_by used h) e.call e.reply → Legal m used (h ++ e ∷ [])
legal_snoc m used h e l d =
    let n = legal_history m used h l in
    let o = does_permitted n.0 (used_by used h) (used_by used h) e.call e.reply (λ t c. c) (subst (λ (f : Map). Permits (f (entry_key e)) (used_by used h) e.call e.reply) (sym n.2) d) in
    legal_leads m o.0 used (h ++ e ∷ []) (leads_push m n.0 o.0 used h e n.1 o.1)

-- and with one more at the end
pub commits_snoc : (k : List ℕ) (h : List Entry) (e : Entry) → commits_at k (h ++ e ∷ []) ≡ commits_at k h ++ commits_at k (e ∷ [])
commits_snoc k h e = ap (filter_map commit_of) (filter-append (commits_to k) h (e ∷ [])) ∙ filter_map-append commit_of (commits h k) (commits (e ∷ []) k)

pub ends_more : (x : Option Held) (vs ws : List Version) → ends x (vs ++ ws) ≡ ends (ends x vs) ws
ends_more x [] ws = refl
ends_more x (v ∷ vs) ws = ends_more (pair_of v) vs ws

-- a list of versions ends with its last one
pub ends_last : (x : Option Held) (ws : List Version) (i : ℕ) (w : Version) → nth ws i ≡ Some w → length ws ≡ suc i → ends x ws ≡ pair_of w
ends_last x [] i w e l = absurd cc
ends_last x (y ∷ []) zero w e l = ap pair_of (let q : y ≡ w = cc in q)
ends_last x (y ∷ z ∷ ws) zero w e l = absurd (omega arith)
ends_last x (y ∷ ws) (suc i) w e l = ends_last (pair_of y) ws i w e (omega arith)

changed_same : (m n : Map) (j k : List ℕ) (c : Option Version) → n k ≡ m k → changed n j c k ≡ changed m j c k
changed_same m n j k None h = h
changed_same m n j k (Some w) h = ap (λ (x : Option Held). cond (bytes_eq j k) (pair_of w) x) h

changed_else : (m : Map) (j k : List ℕ) (c : Option Version) → k ≢ j → changed m j c k ≡ m k
changed_else m j k None h = refl
changed_else m j k (Some w) h = rw (ne_key j k (λ e. h (sym e)))

-- two maps agree at every key that a history names
abbrev Agree : Map → Map → List Entry → Type 0
Agree m n h = Each (λ (e : Entry). n (entry_key e) ≡ m (entry_key e)) h

agree_after : (m n : Map) (e : Entry) (h : List Entry) → Agree m n h → Agree (after m e) (after n e) h
agree_after m n e [] a = tt
agree_after m n e (x ∷ h) a = (changed_same m n (entry_key e) (entry_key x) (commit_of e) a.0, agree_after m n e h a.1)

agree_without : (m n : Map) (e : Entry) (h : List Entry) → Silent (entry_key e) h → Agree m n h → Agree (after m e) n h
agree_without m n e [] s a = tt
agree_without m n e (x ∷ h) s a = (a.0 ∙ sym (changed_else m (entry_key e) (entry_key x) (commit_of e) s.0), agree_without m n e h s.1 a.1)

-- without the commits of the lost tags the history stays legal, from any map that agrees and with fewer tags used
abbrev StaysLegal : (ℕ → Bool) → List Entry → Type 0
StaysLegal lost h = (m n : Tagged) (us vs : List ℕ) → Legal m us h → Unread lost h → Agree (shows m) (shows n) h → Fewer us vs → Legal n vs (kept lost h)

-- a history stays legal without commits that nobody read
pub kept_legal : (lost : ℕ → Bool) (h : List Entry) → StaysLegal lost h
kept_legal lost [] m n us vs l u a f = tt
kept_legal lost (e ∷ h) m n us vs l u a f = go (lost_in lost (commit_of e)) u.0 (kept_legal lost h)
  where
    ts : List ℕ
    ts = new_tags e.reply

    behind : shows l.0 ≡ after (shows m) e
    behind = shows_step m us e.call e.reply l.0 l.1

    permitted : Permits (get n (entry_key e)) us e.call e.reply
    permitted = subst (λ (x : Option Held). Permits x us e.call e.reply) (sym a.0) (permits_step m us e.call e.reply l.0 l.1)

    go : (b : Bool) → (b ≡ true → Silent (entry_key e) h) → StaysLegal lost h → Legal n vs (cond b (kept lost h) (e ∷ kept lost h))
    go true s more = more l.0 n (us ++ ts) vs l.2 u.1 (subst (λ (z : Map). Agree z (shows n) h) (sym behind) (agree_without (shows m) (shows n) e h (s refl) a.1)) (λ t c. Contains-append_left us ts t (f t c))
    go false s more =
        let o = does_permitted n us vs e.call e.reply f permitted in
        let there : shows o.0 ≡ after (shows n) e = shows_step n vs e.call e.reply o.0 o.1 in (
          o.0,
          o.1,
          more l.0 o.0 (us ++ ts) (vs ++ ts) l.2 u.1
              (subst (λ (z : Map). Agree z (shows o.0) h) (sym behind) (subst (λ (z : Map). Agree (after (shows m) e) z h) (sym there) (agree_after (shows m) (shows n) e h a.1)))
              (fewer_append us vs ts f),
        )

silent_none : (k : List ℕ) (h : List Entry) → Silent k h → commits_at k h ≡ []
silent_none k [] s = refl
silent_none k (e ∷ h) s = commits_first k e h ∙ ap (λ (b : Bool). cond b (cons_option (commit_of e) (commits_at k h)) (commits_at k h)) (ne_key (entry_key e) k s.0) ∙ silent_none k h s.1

pub unread_last : (lost : ℕ → Bool) (h : List Entry) → Unread lost h → Last lost h
unread_last lost [] u = tt
unread_last lost (e ∷ h) u = ((λ b. silent_none (entry_key e) h (u.0 b)), unread_last lost h u.1)

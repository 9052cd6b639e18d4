-- Steps of the tagged map: what the map shows at a key permits them, and what they and a legal history make of what it shows.
use Rattle.std.proofs.Common.{◌≡◌, ◌≢◌, ℕ, zero, suc, ◌<◌, ⊎_elim, List, [], ◌∷◌, ◌++◌, length, Bool, true, false, cond, refl, sym, ap, ◌∙◌, arith}
use mathlib.Core.Path.{fun_ext}
use Rattle.std.specs.Prelude.{Option, Some, None, Contains, slice_index_or}
use Rattle.std.specs.Ordering.{nat_cmp, eq_by_cmp}
use Rattle.std.specs.Cmp.{Equal-is, eq_by_cmp_equiv}
use Rattle.std.specs.Cmp.Lexicographic.{slice_cmp, nat_list_cmp_total}
use Rattle.std.specs.FinMap.{get, insert, remove, get-insert, get-remove}
use Rattle.std.proofs.lemmas.List.Elements.{Contains-append_cases, Contains-append_left, Contains-append_right}
use Rattle.clover_map.proofs.Kept.{exact_keys}
use Rattle.clover_map.specs.declared.bytes.Held.{Held}
use Rattle.clover_map.specs.declared.call.Call.{Call}
use Rattle.clover_map.specs.declared.call.Call.TheVariants.{Get, Put, Delete, Swap}
use Rattle.clover_map.specs.declared.call.Reply.{Reply}
use Rattle.clover_map.specs.declared.call.Reply.TheVariants.{Stored, Found, Absent, Deleted, Differs}
use Rattle.clover_map.specs.declared.call.Entry.{Entry}
use Rattle.clover_map.specs.History.{key_of}
use Rattle.clover_map.specs.Tagged.{Tagged}
use Rattle.clover_map.specs.Tags.{IsFresh, new_tags}
use Rattle.clover_map.specs.Does.{held, Does}
use Rattle.clover_map.specs.Legal.{Legal, Leads}
use Rattle.std.specs.Str.{bytes_eq}
use Rattle.clover_rule.specs.History.{Version, committed}
use Rattle.std.proofs.lemmas.Option.{same_Some}
use Rattle.clover_rule.specs.Lists.{Each}
use Rattle.clover_rule.proofs.KeyMaps.{Map, shows, at_key, tag_in, changed, leads}
use Rattle.clover_rule.proofs.Keys.{eq_key, ne_key, key_discrete}

same_test : (k q : List ℕ) → eq_by_cmp (slice_cmp nat_cmp) q k ≡ bytes_eq k q
same_test k q = go (key_discrete k q)
  where
    ties : (b : Bool) → eq_by_cmp (slice_cmp nat_cmp) q k ≡ b → k ≢ q → b ≡ false
    ties false e n = refl
    ties true e n = absurd (n (sym (exact_keys q k ((Equal-is (slice_cmp nat_cmp q k)).0 e))))

    go : Dec (k ≡ q) → eq_by_cmp (slice_cmp nat_cmp) q k ≡ bytes_eq k q
    go (yes e) = ap (λ (z : List ℕ). eq_by_cmp (slice_cmp nat_cmp) q z) e ∙ (eq_by_cmp_equiv nat_list_cmp_total).refl q ∙ sym (eq_key k q e)
    go (no n) = ties (eq_by_cmp (slice_cmp nat_cmp) q k) refl n ∙ sym (ne_key k q n)

pub shows_insert : (m : Tagged) (k : List ℕ) (h : Held) → shows (insert m k h) ≡ at_key (shows m) k (Some h)
shows_insert m k h = fun_ext (λ q. get-insert nat_list_cmp_total m k h q ∙ ap (λ (b : Bool). cond b (Some h) (get m q)) (same_test k q))

pub shows_remove : (m : Tagged) (k : List ℕ) → shows (remove m k) ≡ at_key (shows m) k None
shows_remove m k = fun_ext (λ q. get-remove nat_list_cmp_total m k q ∙ ap (λ (b : Bool). cond b None (get m q)) (same_test k q))

tag_there : (x : Option Held) (t : ℕ) → tag_in x ≡ Some t → (h : Held) × (x ≡ Some h) × (h.tag ≡ t)
tag_there None t e = absurd cc
tag_there (Some h) t e = (h, refl, cc)

some_there : (x : Option Held) → tag_in x ≢ None → (h : Held) × (x ≡ Some h)
some_there None n = absurd (n refl)
some_there (Some h) n = (h, refl)

-- what the map has at the call's key permits the reply
abbrev pub Permits : Option Held → List ℕ → Call → Reply → Type 0
Permits x used (Put k v) (Stored t) = IsFresh used t
Permits x used (Get k) (Found t v) = x ≡ Some (held t v)
Permits x used (Get k) Absent = x ≡ None
Permits x used (Delete k) (Deleted t) = (tag_in x ≢ None) × IsFresh used t
Permits x used (Delete k) Absent = x ≡ None
Permits x used (Swap k e v) (Stored t) = (tag_in x ≡ Some e) × IsFresh used t
Permits x used (Swap k e v) (Differs t) = (tag_in x ≡ Some t) × (t ≢ e)
Permits x used (Swap k e v) Absent = x ≡ None
Permits x used c r = ⊥

-- the second list has no tag that the first lacks
abbrev pub Fewer : List ℕ → List ℕ → Type 0
Fewer us vs = (t : ℕ) → Contains vs t → Contains us t

-- what is permitted is a step, and with fewer tags used too
pub does_permitted : (m : Tagged) (us vs : List ℕ) (c : Call) (r : Reply) → Fewer us vs → Permits (get m (key_of c)) us c r → (n : Tagged) × Does m vs c r n
does_permitted m us vs (Put k v) (Stored t) f d = (insert m k (held t v), (λ h. d (f t h), refl))
does_permitted m us vs (Get k) (Found t v) f d = (m, (d, refl))
does_permitted m us vs (Get k) Absent f d = (m, (d, refl))
does_permitted m us vs (Delete k) (Deleted t) f d = let h = some_there (get m k) d.0 in (remove m k, (h.0, h.1, λ z. d.1 (f t z), refl))
does_permitted m us vs (Delete k) Absent f d = (m, (d, refl))
does_permitted m us vs (Swap k e v) (Stored t) f d = let h = tag_there (get m k) e d.0 in (insert m k (held t v), (h.0, h.1, h.2, λ z. d.1 (f t z), refl))
does_permitted m us vs (Swap k e v) (Differs t) f d = let h = tag_there (get m k) t d.0 in (m, (h.0, h.1, h.2, d.1, refl))
does_permitted m us vs (Swap k e v) Absent f d = (m, (d, refl))
does_permitted m us vs c r f d = absurd d

-- a step is permitted
pub permits_step : (m : Tagged) (used : List ℕ) (c : Call) (r : Reply) (n : Tagged) → Does m used c r n → Permits (get m (key_of c)) used c r
permits_step m used (Put k v) (Stored t) n d = d.0
permits_step m used (Get k) (Found t v) n d = d.0
permits_step m used (Get k) Absent n d = d.0
permits_step m used (Delete k) (Deleted t) n d = (λ e. absurd (let z : ◌≡◌ {A = Option ℕ} (Some d.0.tag) None = sym (ap tag_in d.1) ∙ e in cc), d.2)
permits_step m used (Delete k) Absent n d = d.0
permits_step m used (Swap k e v) (Stored t) n d = (ap tag_in d.1 ∙ ap Some d.2, d.3)
permits_step m used (Swap k e v) (Differs t) n d = (ap tag_in d.1 ∙ ap Some d.2, d.3)
permits_step m used (Swap k e v) Absent n d = d.0
permits_step m used c r n d = absurd d

-- what the map shows behind a step
pub shows_step : (m : Tagged) (used : List ℕ) (c : Call) (r : Reply) (n : Tagged) → Does m used c r n → shows n ≡ changed (shows m) (key_of c) (committed c r)
shows_step m used (Put k v) (Stored t) n d = ap shows d.1 ∙ shows_insert m k (held t v)
shows_step m used (Get k) (Found t v) n d = ap shows d.1
shows_step m used (Get k) Absent n d = ap shows d.1
shows_step m used (Delete k) (Deleted t) n d = ap shows d.3 ∙ shows_remove m k
shows_step m used (Delete k) Absent n d = ap shows d.1
shows_step m used (Swap k e v) (Stored t) n d = ap shows d.4 ∙ shows_insert m k (held t v)
shows_step m used (Swap k e v) (Differs t) n d = ap shows d.4
shows_step m used (Swap k e v) Absent n d = ap shows d.1
shows_step m used c r n d = absurd d

-- a reply hands out the tag of the version that is committed, and none where none is
pub new_some : (c : Call) (r : Reply) (w : Version) → committed c r ≡ Some w → new_tags r ≡ w.tag ∷ []
new_some (Put k v) (Stored t) w e = ap (λ (x : Version). x.tag ∷ []) (same_Some (record { tag = t; value = Some v }) w e)
new_some (Delete k) (Deleted t) w e = ap (λ (x : Version). x.tag ∷ []) (same_Some (record { tag = t; value = None }) w e)
new_some (Swap k x v) (Stored t) w e = ap (λ (x : Version). x.tag ∷ []) (same_Some (record { tag = t; value = Some v }) w e)
new_some c r w e = absurd cc

pub new_none : (x : Option Held) (used : List ℕ) (c : Call) (r : Reply) → Permits x used c r → committed c r ≡ None → new_tags r ≡ []
new_none x used (Get k) (Found t v) d e = refl
new_none x used (Get k) Absent d e = refl
new_none x used (Delete k) Absent d e = refl
new_none x used (Swap k u v) (Differs t) d e = refl
new_none x used (Swap k u v) Absent d e = refl
new_none x used (Put k v) (Stored t) d e = absurd cc
new_none x used (Delete k) (Deleted t) d e = absurd cc
new_none x used (Swap k u v) (Stored t) d e = absurd cc
new_none x used c r d e = absurd d

-- more tags that are used in both
pub fewer_append : (us vs ts : List ℕ) → Fewer us vs → Fewer (us ++ ts) (vs ++ ts)
fewer_append us vs ts f t h = ⊎_elim (λ a. Contains-append_left us ts t (f t a)) (λ b. Contains-append_right us ts t b) (Contains-append_cases vs ts t h)

-- a legal history leads to a map that shows what it leads to
pub legal_history : (m : Tagged) (used : List ℕ) (h : List Entry) → Legal m used h → (n : Tagged) × Leads m used h n × (shows n ≡ leads (shows m) h)
legal_history m used [] l = (m, refl, refl)
legal_history m used (e ∷ h) l =
    let more = legal_history l.0 (used ++ new_tags e.reply) h l.2 in
    (more.0, (l.0, l.1, more.1), more.2 ∙ ap (λ (x : Map). leads x h) (shows_step m used e.call e.reply l.0 l.1))

-- a tag that differs from each of some is none of them
pub fresh_all : (us : List ℕ) (t : ℕ) → Each (λ (u : ℕ). u ≢ t) us → IsFresh us t
fresh_all [] t f h = omega (arith, h.1)
fresh_all (u ∷ us) t f h = go h.0 h.1 h.2 (fresh_all us t f.1)
  where
    go : (k : ℕ) → k < length (u ∷ us) → slice_index_or (u ∷ us) k t ≡ t → IsFresh us t → ⊥
    go zero b e rest = f.0 e
    go (suc k) b e rest = rest (k, omega arith, e)

-- in a legal history each value that was found was committed before
use Rattle.std.proofs.Common.{◌≡◌, ℕ, Bool, true, false, List, [], ◌∷◌, ◌++◌, Option, Some, None, refl, ap, subst, sym, ◌∙◌, append-nil, append_assoc}
use Rattle.std.specs.Prelude.{if◌then◌else◌}
use Rattle.std.specs.Cmp.Lexicographic.{slice_cmp, nat_list_cmp_total}
use Rattle.std.specs.FinMap.{get, insert, remove, empty, get-empty, get-insert, get-remove}
use Rattle.std.specs.Ordering.{nat_cmp, eq_by_cmp}
use Rattle.std.proofs.lemmas.Map.Lookups.{exact_bytes}
use Rattle.std.proofs.lemmas.Map.Views.{tells_apart}
use Rattle.clover_map.specs.Does.{Does, held}
use Rattle.clover_map.specs.Legal.{Legal}
use Rattle.clover_map.specs.Tagged.{Tagged}
use Rattle.clover_map.specs.Tags.{new_tags}
use Rattle.clover_map.specs.declared.bytes.Held.{Held}
use Rattle.clover_map.specs.declared.bytes.Value.{Value}
use Rattle.clover_map.specs.declared.call.Call.{Call}
use Rattle.clover_map.specs.declared.call.Call.TheVariants.{Get, Put, Delete, Swap}
use Rattle.clover_map.specs.declared.call.Entry.{Entry}
use Rattle.clover_map.specs.declared.call.Reply.{Reply}
use Rattle.clover_map.specs.declared.call.Reply.TheVariants.{Stored, Found, Absent, Deleted, Differs}
use Rattle.clover_rule.proofs.Steps.{within_last, within_prefix}
use Rattle.clover_main.specs.Performing.{Stores, IsCommitted, AllCommitted}

-- each pair of the map was committed in the history
AllKept : List Entry → Tagged → Type 0
AllKept h m = (k : List ℕ) (x : Held) → get m k ≡ Some x → IsCommitted h k x.tag x.value

still : (h : List Entry) (e : Entry) (k : List ℕ) (t : ℕ) (v : Value) → IsCommitted h k t v → IsCommitted (h ++ e ∷ []) k t v
still h e k t v (x, within, reply, stores) = (x, within_prefix x h (e ∷ []) within, reply, stores)

kept_still : (h : List Entry) (e : Entry) (m n : Tagged) → AllKept h m → n ≡ m → AllKept (h ++ e ∷ []) n
unfolding AllKept
kept_still h e m n all same k x is = still h e k x.tag x.value (all k x (ap (λ (w : Tagged). get w k) (sym same) ∙ is))

stored : (h : List Entry) (e : Entry) (m : Tagged) (k q : List ℕ) (t : ℕ) (v : Value) (x : Held) (b : Bool) → AllKept h m → e.reply ≡ Stored t → Stores k v e.call
    → eq_by_cmp (slice_cmp nat_cmp) q k ≡ b → (if b then Some (held t v) else get m q) ≡ Some x → IsCommitted (h ++ e ∷ []) q x.tag x.value
unfolding AllKept
stored h e m k q t v x true all reply stores is at =
    let here : IsCommitted (h ++ e ∷ []) k t v = (e, within_last e h, reply, stores) in
    let key : q ≡ k = tells_apart exact_bytes q k is in
    let same : held t v ≡ x = cc in
    subst (λ (y : Held). IsCommitted (h ++ e ∷ []) q y.tag y.value) same (subst (λ (j : List ℕ). IsCommitted (h ++ e ∷ []) j t v) (sym key) here)
stored h e m k q t v x false all reply stores is at = still h e q x.tag x.value (all q x at)

kept_insert : (h : List Entry) (e : Entry) (m n : Tagged) (k : List ℕ) (t : ℕ) (v : Value) → AllKept h m → e.reply ≡ Stored t → Stores k v e.call → n ≡ insert m k (held t v) → AllKept (h ++ e ∷ []) n
unfolding AllKept
kept_insert h e m n k t v all reply stores is q x at =
    stored h e m k q t v x (eq_by_cmp (slice_cmp nat_cmp) q k) all reply stores refl (sym (get-insert nat_list_cmp_total m k (held t v) q) ∙ ap (λ (w : Tagged). get w q) (sym is) ∙ at)

removed : (b : Bool) (o : Option Held) (x : Held) → (if b then None else o) ≡ Some x → o ≡ Some x
removed true o x e = cc
removed false o x e = e

kept_remove : (h : List Entry) (e : Entry) (m n : Tagged) (k : List ℕ) → AllKept h m → n ≡ remove m k → AllKept (h ++ e ∷ []) n
unfolding AllKept
kept_remove h e m n k all is q x at =
    still h e q x.tag x.value (all q x (removed (eq_by_cmp (slice_cmp nat_cmp) q k) (get m q) x (sym (get-remove nat_list_cmp_total m k q) ∙ ap (λ (w : Tagged). get w q) (sym is) ∙ at)))

does_keeps : (h : List Entry) (e : Entry) (m n : Tagged) (used : List ℕ) (c : Call) (r : Reply) → e.call ≡ c → e.reply ≡ r → AllKept h m → Does m used c r n → AllKept (h ++ e ∷ []) n
does_keeps h e m n used (Put k v) (Stored t) ec er all d = kept_insert h e m n k t v all er (subst (Stores k v) (sym ec) (refl, refl)) d.1
does_keeps h e m n used (Get k) (Found t v) ec er all d = kept_still h e m n all d.1
does_keeps h e m n used (Get k) Absent ec er all d = kept_still h e m n all d.1
does_keeps h e m n used (Delete k) (Deleted t) ec er all d = kept_remove h e m n k all d.3
does_keeps h e m n used (Delete k) Absent ec er all d = kept_still h e m n all d.1
does_keeps h e m n used (Swap k x v) (Stored t) ec er all d = kept_insert h e m n k t v all er (subst (Stores k v) (sym ec) (refl, refl)) d.4
does_keeps h e m n used (Swap k x v) (Differs t) ec er all d = kept_still h e m n all d.4
does_keeps h e m n used (Swap k x v) Absent ec er all d = kept_still h e m n all d.1
does_keeps h e m n used c r ec er all d = absurd d

-- what is found is in the map
found_kept : (h : List Entry) (m n : Tagged) (used : List ℕ) (k : List ℕ) (t : ℕ) (v : Value) → AllKept h m → Does m used (Get k) (Found t v) n → IsCommitted h k t v
unfolding AllKept
found_kept h m n used k t v all d = all k (held t v) d.0

found_here : (h : List Entry) (m n : Tagged) (used : List ℕ) (e : Entry) (k : List ℕ) (t : ℕ) (v : Value) → AllKept h m → e.call ≡ Get k → e.reply ≡ Found t v → Does m used e.call e.reply n → IsCommitted h k t v
found_here h m n used e k t v all ec er d =
    found_kept h m n used k t v all (subst (λ (r : Reply). Does m used (Get k) r n) er (subst (λ (c : Call). Does m used c e.reply n) ec d))

legal_on : (h es : List Entry) (m : Tagged) (used : List ℕ) → AllKept h m → Legal m used es
    → (mid after : List Entry) (e : Entry) (k : List ℕ) (t : ℕ) (v : Value) → es ≡ mid ++ e ∷ after → e.call ≡ Get k → e.reply ≡ Found t v → IsCommitted (h ++ mid) k t v
legal_on h [] m used all legal [] after e k t v is ec er = cc
legal_on h [] m used all legal (y ∷ mid) after e k t v is ec er = cc
legal_on h (x ∷ es) m used all (n, does, legal) [] after e k t v is ec er =
    let same : x ≡ e = cc in
    subst (λ l. IsCommitted l k t v) (sym (append-nil h)) (found_here h m n used x k t v all (ap (λ (y : Entry). y.call) same ∙ ec) (ap (λ (y : Entry). y.reply) same ∙ er) does)
legal_on h (x ∷ es) m used all (n, does, legal) (y ∷ mid) after e k t v is ec er =
    let same : x ≡ y = cc in
    let rest : es ≡ mid ++ e ∷ after = cc in
    subst (λ l. IsCommitted l k t v) (append_assoc h (x ∷ []) mid ∙ ap (λ (z : Entry). h ++ z ∷ mid) same)
    (legal_on (h ++ x ∷ []) es n (used ++ new_tags x.reply) (does_keeps h x m n used x.call x.reply refl refl all does) legal mid after e k t v rest ec er)

-- nothing is kept at first
kept_first : AllKept [] empty
unfolding AllKept
kept_first k x is = let none : None ≡ Some x = sym (get-empty (slice_cmp nat_cmp) k) ∙ is in cc

pub legal_committed : (m : Tagged) (used : List ℕ) (es : List Entry) → m ≡ empty → Legal m used es → AllCommitted es
legal_committed m used es none legal before after e k t v is ec er = legal_on [] es m used (subst (AllKept []) (sym none) kept_first) legal before after e k t v is ec er

-- More laws on histories, at one more entry.
use Rattle.std.proofs.Common.{◌≡◌, ℕ, zero, suc, ◌≢◌, List, [], ◌∷◌, ◌++◌, Bool, true, false, cond, refl, ap, ◌∙◌, inl, inr, ⊎_elim, subst, sym, arith, append_assoc}
use Rattle.std.specs.Prelude.{Option, Some, None, Contains}
use Rattle.clover_map.specs.declared.call.Entry.{Entry}
use Rattle.std.specs.List.{cons_option}
use Rattle.clover_rule.proofs.Histories.{commits_first}
use Rattle.clover_rule.proofs.Keys.{eq_key}
use Rattle.std.specs.Str.{bytes_eq}
use Rattle.clover_map.specs.Legal.{used_by, handed}
use Rattle.clover_rule.specs.History.{Version, commits_at, Unread, Silent, entry_key, commit_of, lost_in}
use Rattle.clover_map.specs.Tags.{IsFresh, new_tags}
use Rattle.clover_rule.specs.Lists.{nth, Within, Each}
use Rattle.clover_rule.proofs.TaggedMaps.{new_some}
use Rattle.clover_map.proofs.Runs.{handed_push}
use Rattle.std.proofs.lemmas.List.Elements.{Contains-append_left, Contains-append_right}
use Rattle.clover_rule.proofs.Tools.{each_both}

pub unread_snoc : (a b : ℕ → Bool) (h : List Entry) (e : Entry) → Unread a h → ((x : Entry) → Within x h → lost_in b (commit_of x) ≡ true → (lost_in a (commit_of x) ≡ true) × (entry_key e ≢ entry_key x)) → Unread b (h ++ e ∷ [])
unread_snoc a b [] e u f = ((λ p. tt), tt)
unread_snoc a b (x ∷ h) e u f = ((λ p. let q = f x (inl refl) p in silent_snoc h (u.0 q.0) q.1), unread_snoc a b h e u.1 (λ y p. f y (inr p)))
  where
    silent_snoc : (xs : List Entry) → Silent (entry_key x) xs → entry_key e ≢ entry_key x → Silent (entry_key x) (xs ++ e ∷ [])
    silent_snoc [] s d = (d, tt)
    silent_snoc (y ∷ ys) s d = (s.0, silent_snoc ys s.1 d)

-- the tag of each commit of a history is handed out in it
used_commit : (h : List Entry) (x : Entry) (y : Version) → Within x h → commit_of x ≡ Some y → Contains (handed h) y.tag
used_commit [] x y w c = absurd w
used_commit (z ∷ h) x y w c = ⊎_elim (λ q. Contains-append_left (new_tags z.reply) (handed h) y.tag (subst (λ (ts : List ℕ). Contains ts y.tag) (sym (new_some z.call z.reply y (ap commit_of q ∙ c))) (zero, omega arith, refl)))
    (λ q. Contains-append_right (new_tags z.reply) (handed h) y.tag (used_commit h x y q c)) w

pub fresh_commit : (used : List ℕ) (h : List Entry) (t : ℕ) → IsFresh (used_by used h) t → (x : Entry) (y : Version) → Within x h → commit_of x ≡ Some y → y.tag ≢ t
fresh_commit used h t f x y w c e = f (subst (Contains (used_by used h)) e (Contains-append_right used (handed h) y.tag (used_commit h x y w c)))

pub within_nth : {A : Type 0} (a : A) (xs : List A) → Within a xs → (i : ℕ) × (nth xs i ≡ Some a)
within_nth a [] w = absurd w
within_nth a (x ∷ xs) w = ⊎_elim (λ q. (zero, ap Some q)) (λ q. let r = within_nth a xs q in (suc r.0, r.1)) w

pub within_commits : (h : List Entry) (x : Entry) (y : Version) → Within x h → commit_of x ≡ Some y → Within y (commits_at (entry_key x) h)
within_commits [] x y w c = absurd w
within_commits (z ∷ h) x y w c = subst (Within y) (sym (commits_first (entry_key x) z h)) (⊎_elim (λ q. rw q (rw c (rw (eq_key (entry_key x) (entry_key x) refl) (inl refl)))) (λ q. more (bytes_eq (entry_key z) (entry_key x)) (commit_of z) (within_commits h x y q c)) w)
  where
    more : (b : Bool) (o : Option Version) → Within y (commits_at (entry_key x) h) → Within y (cond b (cons_option o (commits_at (entry_key x) h)) (commits_at (entry_key x) h))
    more true None d = d
    more true (Some v) d = inr d
    more false o d = d

pub within_back : {A : Type 0} (a : A) (xs ys : List A) → Within a ys → Within a (xs ++ ys)
within_back a [] ys w = w
within_back a (x ∷ xs) ys w = inr (within_back a xs ys w)

-- what holds of each used tag holds behind one more entry, if it does of the tags that this hands out
pub each_used : (P : ℕ → Type 0) (used : List ℕ) (h : List Entry) (e : Entry) → Each P (used_by used h) → Each P (new_tags e.reply) → Each P (used_by used (h ++ e ∷ []))
each_used P used h e a b = subst (Each P) (sym (ap (λ (ts : List ℕ). used ++ ts) (handed_push h e) ∙ sym (append_assoc used (handed h) (new_tags e.reply)))) (each_both P (used_by used h) (new_tags e.reply) a b)

-- Parts of a history with one more entry at its end.
use Rattle.std.proofs.Common.{◌≡◌, ◌≢◌, ◌==◌, ◌&&◌, ℕ, ◌+◌, Bool, true, false, cond, List, [], ◌∷◌, ◌++◌, length, filter, subst, sym, ap, refl, ◌∙◌, arith, append-nil}
use Rattle.std.proofs.lemmas.Bool.{eq-eqb, eqb-true, ne_eqb}
use Rattle.std.proofs.lemmas.List.Elements.{filter-append}
use Rattle.std.proofs.lemmas.Slice.Eq.{bytes_eq-Decides}
use Rattle.std.specs.Str.{bytes_eq}
use Rattle.clover_map.specs.declared.call.Entry.{Entry}
use Rattle.clover_map.specs.History.{own, IsNumbered, IsNumberedByClient, key_of, is_commit, commits_to, commits}

-- one more element that passes the test, and one that does not
kept : {X : Type 0} (p : X → Bool) (xs : List X) (x : X) → p x ≡ true → filter p (xs ++ x ∷ []) ≡ filter p xs ++ x ∷ []
kept p xs x is = filter-append p xs (x ∷ []) ∙ ap (λ b. filter p xs ++ cond b (x ∷ []) []) is

left_out : {X : Type 0} (p : X → Bool) (xs : List X) (x : X) → p x ≡ false → filter p (xs ++ x ∷ []) ≡ filter p xs
left_out p xs x is = filter-append p xs (x ∷ []) ∙ ap (λ b. filter p xs ++ cond b (x ∷ []) []) is ∙ append-nil (filter p xs)

-- a client's own entries behind one of its entries, and behind one of another client
pub own_push : (h : List Entry) (e : Entry) → own (h ++ e ∷ []) e.client ≡ own h e.client ++ e ∷ []
own_push h e = kept (λ x. x.client == e.client) h e (eq-eqb e.client e.client refl)

pub own_push_other : (h : List Entry) (e : Entry) (c : ℕ) → e.client ≢ c → own (h ++ e ∷ []) c ≡ own h c
own_push_other h e c apart = left_out (λ x. x.client == c) h e (ne_eqb e.client c apart)

-- the next number continues the numbers
pub numbered_push : (n : ℕ) (es : List Entry) (e : Entry) → IsNumbered n es → e.number ≡ n + length es → IsNumbered n (es ++ e ∷ [])
numbered_push n [] e h is = (omega arith, tt)
numbered_push n (x ∷ es) e h is = (h.0, numbered_push (n + 1) es e h.1 (omega arith))

-- and a client's next number its own
pub numbered_by_client_push : (h : List Entry) (e : Entry) → IsNumberedByClient h → e.number ≡ 1 + length (own h e.client) → IsNumberedByClient (h ++ e ∷ [])
numbered_by_client_push h e all is c =
    elim (e.client == c) as (λ b. (e.client == c) ≡ b → IsNumbered 1 (own (h ++ e ∷ []) c)) [
      | true ↦ λ same.
          let p : Entry → Bool = λ x. x.client == c in
          let here : e.client ≡ c = eqb-true e.client c same in
          let next : e.number ≡ 1 + length (own h c) = subst (λ d. e.number ≡ 1 + length (own h d)) here is in
          subst (IsNumbered 1) (sym (kept p h e same)) (numbered_push 1 (own h c) e (all c) next)
      | false ↦ λ apart. subst (IsNumbered 1) (sym (left_out (λ x. x.client == c) h e apart)) (all c)
    ] refl

-- a key's commits behind one to it, and behind any other entry
pub commits_push : (h : List Entry) (e : Entry) → is_commit e.reply ≡ true → commits (h ++ e ∷ []) (key_of e.call) ≡ commits h (key_of e.call) ++ e ∷ []
commits_push h e wrote =
    kept (commits_to (key_of e.call)) h e (ap (λ b. b && bytes_eq (key_of e.call) (key_of e.call)) wrote ∙ (bytes_eq-Decides (key_of e.call) (key_of e.call)).1 refl)

pub commits_push_read : (h : List Entry) (e : Entry) (k : List ℕ) → is_commit e.reply ≡ false → commits (h ++ e ∷ []) k ≡ commits h k
commits_push_read h e k read = left_out (commits_to k) h e (ap (λ b. b && bytes_eq (key_of e.call) k) read)

no_commit : (a b : Bool) → (b ≡ true → ⊥) → (a && b) ≡ false
no_commit true true h = absurd (h refl)
no_commit true false h = refl
no_commit false b h = refl

pub commits_push_other : (h : List Entry) (e : Entry) (k : List ℕ) → key_of e.call ≢ k → commits (h ++ e ∷ []) k ≡ commits h k
commits_push_other h e k apart = left_out (commits_to k) h e (no_commit (is_commit e.reply) (bytes_eq (key_of e.call) k) (λ same. apart ((bytes_eq-Decides (key_of e.call) k).0 same)))

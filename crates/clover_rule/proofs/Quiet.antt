-- Steps that change no word: a load teaches its own view, and nothing else changes.
use Rattle.std.proofs.Common.{◌≡◌, ℕ, ◌≤◌, ◌≢◌, ◌⊎◌, List, sym, ap, ◌∙◌, inl, inr, arith}
use native.Mathlib.Decide.{dec_le}
use mathlib.Core.Logic.{dite}
use Rattle.std.specs.Prelude.{Some}
use Rattle.clover_words.specs.Tag.{home, age}
use Rattle.clover_map.specs.declared.call.Entry.{Entry}
use Rattle.clover_map.specs.Tagged.{Tagged}
use Rattle.clover_rule.specs.History.{Version}
use Rattle.clover_rule.specs.Lists.{nth}
use Rattle.clover_rule.specs.Memory.{word, gen, Mem}
use Rattle.clover_rule.specs.Story.{Story, tag_in_version, tag_at, now_at, Core, Durable}
use Rattle.clover_rule.specs.Views.{Holds, IsLink, IsCopied, ViewOk, Basis, renewed}
use Rattle.clover_rule.specs.declared.view.View.{View}
use Rattle.clover_rule.proofs.Standings.{tag_within}
use Rattle.clover_rule.proofs.Steps.{nth_set, role_was, longest_was}

-- one view is renewed by another of the same role, which knows true facts and has the same history or the longer one
module _ (m0 : Tagged) (used : List ℕ) (m : Mem) (vs : List View) (st : Story) (h : List Entry) (r : Basis m0 used m vs st h)
    (id : ℕ) (v v' : View) (at : nth vs id ≡ Some v) (role : v'.pass.role ≡ v.pass.role) (past : v'.pass.history ≡ v.pass.history) (ok : ViewOk m st h id v') where
  views' : (i1 : ℕ) (v1 : View) → nth (renewed vs id v') i1 ≡ Some v1 → ViewOk m st h i1 v1
  views' i1 v1 q = go (nth_set vs id i1 v' v1 q)
    where
      go : ((i1 ≡ id) × (v' ≡ v1)) ⊎ ((i1 ≢ id) × (nth vs i1 ≡ Some v1)) → ViewOk m st h i1 v1
      go (inl a) = rw (a.0, ← a.1) ok
      go (inr a) = r.views i1 v1 a.1

  pub quiet : Basis m0 used m (renewed vs id v') st h
  quiet = record {
    core = r.core;
    tale = r.tale;
    bodies = r.bodies;
    spent = r.spent;
    bound = r.bound;
    keyed = r.keyed;
    views = views';
    numbered = λ i1 j1 c a b qa qb ra rb. let x1 = role_was vs id v v' at (sym role) i1 a qa in let y1 = role_was vs id v v' at (sym role) j1 b qb in r.numbered i1 j1 c x1.0 y1.0 x1.1 y1.1 (x1.2 ∙ ra) (y1.2 ∙ rb);
    longest = longest_was vs id v v' at h past r.longest;
  }

-- what a load of a durable tag's next word teaches
module _ (m : Mem) (st : Story) (c : Core m st) (s t : ℕ) (d : Durable st s t) where
  not_passed : gen (m.next (home t)) ≡ age t → st.gone s ≤ d.0
  not_passed g = dite (dec_le (st.gone s) d.0) (λ x. x) (λ n. let q = (c.passed s d.0 t d.1 (omega arith)).later in absurd (omega arith))

  pub loaded_link : (x : ℕ) → m.next (home t) ≡ word (age t) (Some x) → IsLink st (record { slot = s; from = t; to = x })
  loaded_link x f = let q = c.standing s d.0 t d.1 (not_passed (ap gen f)) in (d.0, d.1, let a : now_at st s d.0 t ≡ word (age t) (Some x) = sym q.now ∙ f in cc)

  -- a root that is loaded is durable
  pub loaded_root : (x : ℕ) → m.root s ≡ Some x → Durable st s x
  loaded_root x e = let a : tag_at st s (st.lead s) ≡ Some x = sym (c.root s) ∙ e in let b = tag_within st s (st.lead s) x a in (st.lead s, a, c.rooted s (omega arith))

  -- a word copied under it
  pub loaded_body : (w : Version) → nth (st.log s) d.0 ≡ Some w → ((g : st.gone s ≤ d.0) → Holds m w) → (j : ℕ) → IsCopied st (s, record { tag = t; place = j; word = m.body (home t) j })
  loaded_body w e f j = dite (dec_le (st.gone s) d.0)
      (λ g. (d.0, w, e, let q : Some w.tag ≡ Some t = sym (ap tag_in_version e) ∙ d.1 in cc, inl (λ y n. sym (f g j y n).0 ∙ (let q : w.tag ≡ t = let z : Some w.tag ≡ Some t = sym (ap tag_in_version e) ∙ d.1 in cc in ap (λ (x : ℕ). m.body (home x) j) q))))
      (λ g. (d.0, w, e, let q : Some w.tag ≡ Some t = sym (ap tag_in_version e) ∙ d.1 in cc, inr (omega arith)))

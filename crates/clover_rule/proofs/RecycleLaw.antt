-- The law of the recycling exchange over words, views and history.
use Rattle.std.proofs.Common.{◌≡◌, ℕ, suc, ◌≤◌, ◌≢◌, ◌⊎◌, List, refl, sym, ap, ◌∙◌, inl, inr, ⊎_elim, arith}
use native.Mathlib.Decide.{ℕ_discrete}
use mathlib.Core.Logic.{dite}
use Rattle.std.specs.Prelude.{Some, None}
use Rattle.clover_words.specs.Tag.{home, age}
use Rattle.clover_map.specs.declared.call.Entry.{Entry}
use Rattle.clover_map.specs.Tagged.{Tagged}
use Rattle.clover_rule.specs.Changes.{recycled_mem, recycled_story}
use Rattle.clover_map.specs.Legal.{used_by}
use Rattle.clover_rule.specs.Lists.{nth}
use Rattle.clover_rule.specs.Memory.{word, gen, Mem}
use Rattle.clover_rule.specs.Story.{Chained, Stocked, Taken, Story, Tale}
use Rattle.clover_rule.specs.Views.{ViewOk, Spent, Basis, renewed}
use Rattle.clover_rule.specs.declared.view.View.{View}
use Rattle.clover_rule.proofs.Tools.{upd_else}
use Rattle.clover_rule.proofs.Steps.{each_map, prefix_self, Grows, Leaves, view_kept, nth_set, role_was, longest_was}
use Rattle.clover_rule.proofs.Exchanging.{CanRecycle, recycle_core, stands, is, else_same, gone_cases, behind}

module _ (m0 : Tagged) (used : List ℕ) (m : Mem) (vs : List View) (st : Story) (h : List Entry) (r : Basis m0 used m vs st h)
    (id : ℕ) (v v' : View) (at : nth vs id ≡ Some v) (s x : ℕ) (l : CanRecycle m st s x) where
  abbrev m' : Mem
  m' = recycled_mem m x

  abbrev st' : Story
  st' = recycled_story st s x

  placed : st.place (home x) ≡ Chained s
  placed = (stands m st s x r.core l).placed

  now : gen (m.next (home x)) ≡ age x
  now = ap gen (stands m st s x r.core l).now

  next_is : m'.next (home x) ≡ word (suc (age x)) None
  next_is = is m st s x r.core l

  pub gens' : (b : ℕ) → gen (m.next b) ≤ gen (m'.next b)
  gens' b = dite (ℕ_discrete b (home x)) (λ d. let p = ap gen (ap m'.next d ∙ next_is) in let q = ap gen (ap m.next d) in let z = now in omega arith) (λ n. let p = ap gen (else_same m st s x r.core l b n) in omega arith)

  pub gone' : (s' : ℕ) → st.gone s' ≤ st'.gone s'
  gone' s' = ⊎_elim (λ d. let p = d.1 in let q = ap st.gone d.0 in omega arith) (λ d. let p = d.1 in omega arith) (gone_cases m st s x r.core l s')

  pub grows : Grows m st h m' st' h
  grows = record { versions = λ s1 i1 w1 z. z; sure = λ j. omega arith; gone = gone'; gens = gens'; names = prefix_self st.bindings; count = omega arith; history = prefix_self h }

  pub leaves : (j b : ℕ) → st.place b ≡ Stocked j → Leaves m st m' st' j b
  leaves j b o = let n : b ≢ home x = λ e. absurd (cc (ap st.place e, placed, o)) in
      record { place = upd_else st.place (home x) b Taken n ∙ o; next = else_same m st s x r.core l b n; body = λ y. refl; fbody = λ y. refl }

  kept : (j : ℕ) (w : View) → ViewOk m st h j w → ViewOk m' st' h j w
  kept j w = view_kept m st h m' st' h grows j w (leaves j) (λ c f. refl)

  pub spent_kept : (y : ℕ) → Spent m st y → Spent m' st' y
  spent_kept y (inl a) = inl (let q = gens' (home y) in omega arith)
  spent_kept y (inr a) = go (ℕ_discrete (home y) (home x))
    where
      go : Dec (home y ≡ home x) → Spent m' st' y
      go (yes d) = inl (let p = ap gen (ap m'.next d ∙ next_is) in let q = ap gen (ap m.next d) in let z = now in let w = a.2 in omega arith)
      go (no n) = inr (a.0, upd_else st.place (home x) (home y) Taken n ∙ a.1, a.2 ∙ sym (ap gen (else_same m st s x r.core l (home y) n)))

  tale' : Tale st' m0 used h
  tale' = record { legal = r.tale.legal; told = r.tale.told; began = r.tale.began; unread = r.tale.unread; settled = r.tale.settled; unbound = r.tale.unbound }

  module _ (role : v'.pass.role ≡ v.pass.role) (past : v'.pass.history ≡ v.pass.history) (ok : ViewOk m' st' h id v') where
    views' : (j : ℕ) (w : View) → nth (renewed vs id v') j ≡ Some w → ViewOk m' st' h j w
    views' j w q = go (nth_set vs id j v' w q)
      where
        go : ((j ≡ id) × (v' ≡ w)) ⊎ ((j ≢ id) × (nth vs j ≡ Some w)) → ViewOk m' st' h j w
        go (inl a) = rw (a.0, ← a.1) ok
        go (inr a) = kept j w (r.views j w a.1)

    pub recycle_rule : Basis m0 used m' (renewed vs id v') st' h
    recycle_rule = record {
      core = recycle_core m st s x r.core l;
      tale = tale';
      bodies = λ s1 i1 w1 e g. r.bodies s1 i1 w1 e (behind m st s x r.core l s1 i1 g);
      spent = each_map spent_kept (used_by used h) r.spent;
      bound = r.bound;
      keyed = r.keyed;
      views = views';
      numbered = λ i1 j1 c a b qa qb ra rb. let x1 = role_was vs id v v' at (sym role) i1 a qa in let y1 = role_was vs id v v' at (sym role) j1 b qb in r.numbered i1 j1 c x1.0 y1.0 x1.1 y1.1 (x1.2 ∙ ra) (y1.2 ∙ rb);
      longest = longest_was vs id v v' at h past r.longest;
    }

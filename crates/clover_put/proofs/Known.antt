-- What a put knew stays known by each of its accesses, and what its stores teach.
use Prim.Native.Nat.{zero, suc}
use native.Mathlib.Decide.{ℕ_discrete}
use mathlib.Core.Logic.{dite}
use Rattle.std.proofs.Common.{◌≡◌, ◌≢◌, ℕ, ◌+◌, ◌*◌, ◌<◌, ◌≤◌, List, [], ◌∷◌, ◌++◌, Bool, true, false, cond, eqb, ◌&&◌, refl, sym, ap, ◌∙◌, inl, inr, ⊎_elim, arith, subst, eqb-true, ne_eqb}
use Rattle.std.specs.Prelude.{Some}
use Rattle.std.proofs.lemmas.Option.{same_Some}
use Rattle.clover_words.specs.declared.word.Side.TheVariants.{Current, Flushed}
use Rattle.clover_words.specs.declared.pool.Pool.{Pool}
use Rattle.clover_words.specs.Tag.{home}
use Rattle.clover_words.specs.Version.{content_at}
use Rattle.clover_rule.specs.Knowing.{dropped}
use Rattle.clover_rule.specs.Lists.{nth, Within}
use Rattle.clover_rule.specs.Learned.{turn_of}
use Rattle.clover_rule.specs.Steps.{Step, number_of}
use Rattle.clover_rule.specs.declared.access.Act.{Act}
use Rattle.clover_rule.specs.declared.access.Act.TheVariants.{Store}
use Rattle.clover_rule.specs.declared.view.Content.{Content}
use Rattle.clover_rule.specs.declared.view.Link.{Link}
use Rattle.clover_rule.specs.declared.view.Role.{Role}
use Rattle.clover_rule.specs.declared.view.Role.TheVariants.{Client}
use Rattle.clover_rule.specs.declared.view.View.{View}
use Rattle.clover_rule.proofs.Steps.{within_prefix}
-- the layers above name these two from here
pub use Rattle.clover_rule.proofs.Steps.{within_last}
use Rattle.clover_walk.specs.Walking.{Walking, Stand, AtShort, AtRoot, AtTag, AtLink as OnLink, OnTail, Ended, StandsOn, Holds, begun, key_at, most_accesses}
use Rattle.clover_walk.proofs.Endings.{Stepped}
use Rattle.clover_put.specs.Holding.{Filled}
use Rattle.clover_put.specs.Putting.{Putting, body}

-- a list of accesses that has grown by one
pub within_more : {A : Type 0} (x y : A) (xs : List A) → Within x xs → Within x (xs ++ y ∷ [])
within_more x y xs w = within_prefix x xs (y ∷ []) w

-- what is stored at another place stays
pub dropped_else : (t j i : ℕ) (x : ℕ) (cs : List Content) → i ≢ j → Within (record { tag = t; place = i; word = x }) cs → Within (record { tag = t; place = i; word = x }) (dropped t j cs)
dropped_else t j i x [] d w = absurd w
dropped_else t j i x (c ∷ cs) d w = go (eqb c.tag t) (eqb c.place j) refl w (λ q. dropped_else t j i x cs d q)
  where
    go : (a b : Bool) → eqb c.place j ≡ b → Within (record { tag = t; place = i; word = x }) (c ∷ cs) → (Within (record { tag = t; place = i; word = x }) cs → Within (record { tag = t; place = i; word = x }) (dropped t j cs)) → Within (record { tag = t; place = i; word = x }) (cond (a && b) (dropped t j cs) (c ∷ dropped t j cs))
    go true true e u more = ⊎_elim (λ q. absurd (d (sym (ap (λ (z : Content). z.place) q) ∙ eqb-true c.place j e))) more u
    go true false e u more = ⊎_elim (λ q. inl q) (λ q. inr (more q)) u
    go false b e u more = ⊎_elim (λ q. inl q) (λ q. inr (more q)) u

-- where a walk stands is still known
pub stands_kept : (s : ℕ) (at : Stand) (v w : View) → ((q : ℕ × ℕ) → Within q v.pass.durable → Within q w.pass.durable) → ((l : Link) → Within l v.pass.links → Within l w.pass.links) → StandsOn s at v → StandsOn s at w
stands_kept s AtShort v w d k h = tt
stands_kept s AtRoot v w d k h = tt
stands_kept s (AtTag t) v w d k h = d (s, t) h
stands_kept s (OnLink t u) v w d k h = k (record { slot = s; from = t; to = u }) h
stands_kept s (OnTail t) v w d k h = d (s, t) h
stands_kept s Ended v w d k h = h

-- the walk's part of what is known, after an access that is not the walk's
pub walk_kept : (q : Walking) (v w : View) (a : Step) (x : ℕ) → Holds q v → Stepped a q.first x v w → turn_of a x ≡ 0
    → ((z : ℕ × ℕ) → Within z v.pass.durable → Within z w.pass.durable) → ((l : Link) → Within l v.pass.links → Within l w.pass.links) → Holds (begun q) w
walk_kept q v w a x h s e d k = record {
  pool = s.pool ∙ h.pool;
  client = subst (λ (r : Role). r ≡ Client (number_of r)) (sym s.role) h.client;
  named = subst (λ (ns : List (ℕ × List ℕ)). Within (q.slot, key_at ns q.slot) ns) (sym s.names) h.named;
  stand = stands_kept q.slot q.stand v w d k h.stand;
  turns = s.turns ∙ ap (λ (n : ℕ). cond q.first 0 v.pass.turns + n) e ∙ (let b : cond q.first 0 v.pass.turns + 0 ≡ cond q.first 0 v.pass.turns = omega arith in b) ∙ h.turns;
  below = h.below;
}

-- what is stored and flushed stays so where the step stores nothing
pub filled_kept : (c e : Putting) (m n : ℕ) (v w : View) (a : Act) → e.own ≡ c.own → body e ≡ body c → w.pass.written ≡ v.pass.written → w.pass.flushed ≡ v.pass.flushed → w.pass.since ≡ v.pass.since ++ a ∷ [] → Filled c m n v → Filled e m n w
filled_kept c e m n v w a eo eb ew ef es f = record {
  written = λ j x l q. let r = f.written j x l (ap (λ (b : List ℕ). nth b j) (sym eb) ∙ q) in (
    subst (λ (t : ℕ). Within (record { tag = t; place = j; word = x }) w.pass.written) (sym eo) (subst (Within (record { tag = c.own; place = j; word = x })) (sym ew) r.0),
    subst (λ (t : ℕ). Within (Store (content_at (home t) j) Current x) w.pass.since) (sym eo) (subst (Within (Store (content_at (home c.own) j) Current x)) (sym es) (within_more (Store (content_at (home c.own) j) Current x) a v.pass.since r.1)),
  );
  flushed = λ j x l q. let r = f.flushed j x l (ap (λ (b : List ℕ). nth b j) (sym eb) ∙ q) in (
    subst (λ (t : ℕ). Within (record { tag = t; place = j; word = x }) w.pass.flushed) (sym eo) (subst (Within (record { tag = c.own; place = j; word = x })) (sym ef) r.0),
    subst (λ (t : ℕ). Within (Store (content_at (home t) j) Flushed x) w.pass.since) (sym eo) (subst (Within (Store (content_at (home c.own) j) Flushed x)) (sym es) (within_more (Store (content_at (home c.own) j) Flushed x) a v.pass.since r.1)),
  );
}

-- one word more is stored
pub filled_stored : (c e : Putting) (j y : ℕ) (b : Bool) (v w : View) → e.own ≡ c.own → body e ≡ body c → b ≡ eqb j 0 → nth (body c) j ≡ Some y
    → w.pass.written ≡ record { tag = c.own; place = j; word = y } ∷ dropped c.own j v.pass.written → w.pass.since ≡ cond b [] v.pass.since ++ Store (content_at (home c.own) j) Current y ∷ []
    → Filled c j 0 v → Filled e (suc j) 0 w
filled_stored c e j y b v w eo eb first here ew es f = record {
  written = λ i x l q. let z = ap (λ (xs : List ℕ). nth xs i) (sym eb) ∙ q in
      let r = dite (ℕ_discrete i j) (λ d. now i x (same_Some y x (sym here ∙ ap (nth (body c)) (sym d) ∙ z)) d) (λ d. old i x (omega arith) z d) in
      (subst (λ (t : ℕ). Within (record { tag = t; place = i; word = x }) w.pass.written) (sym eo) r.0, subst (λ (t : ℕ). Within (Store (content_at (home t) i) Current x) w.pass.since) (sym eo) r.1);
  flushed = λ i x l q. absurd (omega arith);
}
  where
    now : (i x : ℕ) → y ≡ x → i ≡ j → Within (record { tag = c.own; place = i; word = x }) w.pass.written × Within (Store (content_at (home c.own) i) Current x) w.pass.since
    now i x d k = subst (λ (n : ℕ). Within (record { tag = c.own; place = n; word = x }) w.pass.written × Within (Store (content_at (home c.own) n) Current x) w.pass.since) (sym k)
        (subst (λ (n : ℕ). Within (record { tag = c.own; place = j; word = n }) w.pass.written × Within (Store (content_at (home c.own) j) Current n) w.pass.since) d
        (subst (Within (record { tag = c.own; place = j; word = y })) (sym ew) (inl refl), subst (Within (Store (content_at (home c.own) j) Current y)) (sym es) (within_last (Store (content_at (home c.own) j) Current y) (cond b [] v.pass.since))))

    older : (n : Bool) → n ≡ false → (z : Act) → Within z v.pass.since → Within z (cond n [] v.pass.since)
    older true k z h = absurd cc
    older false k z h = h

    old : (i x : ℕ) → i < j → nth (body c) i ≡ Some x → i ≢ j → Within (record { tag = c.own; place = i; word = x }) w.pass.written × Within (Store (content_at (home c.own) i) Current x) w.pass.since
    old i x l q d =
        let r = f.written i x l q in
        let later : b ≡ false = first ∙ ne_eqb j 0 (λ z. omega arith) in (
          subst (Within (record { tag = c.own; place = i; word = x })) (sym ew) (inr (dropped_else c.own j i x v.pass.written d r.0)),
          subst (Within (Store (content_at (home c.own) i) Current x)) (sym es) (within_more (Store (content_at (home c.own) i) Current x) (Store (content_at (home c.own) j) Current y) (cond b [] v.pass.since) (older b later (Store (content_at (home c.own) i) Current x) r.1)),
        )

-- one word more is flushed
pub filled_flushed : (c e : Putting) (n j y : ℕ) (v w : View) → e.own ≡ c.own → body e ≡ body c → nth (body c) j ≡ Some y
    → w.pass.written ≡ v.pass.written → w.pass.flushed ≡ record { tag = c.own; place = j; word = y } ∷ dropped c.own j v.pass.flushed → w.pass.since ≡ v.pass.since ++ Store (content_at (home c.own) j) Flushed y ∷ []
    → Filled c n j v → Filled e n (suc j) w
filled_flushed c e n j y v w eo eb here ew ef es f = record {
  written = λ i x l q. let r = f.written i x l (ap (λ (xs : List ℕ). nth xs i) (sym eb) ∙ q) in (
    subst (λ (t : ℕ). Within (record { tag = t; place = i; word = x }) w.pass.written) (sym eo) (subst (Within (record { tag = c.own; place = i; word = x })) (sym ew) r.0),
    subst (λ (t : ℕ). Within (Store (content_at (home t) i) Current x) w.pass.since) (sym eo) (subst (Within (Store (content_at (home c.own) i) Current x)) (sym es) (within_more (Store (content_at (home c.own) i) Current x) (Store (content_at (home c.own) j) Flushed y) v.pass.since r.1)),
  );
  flushed = λ i x l q. let z = ap (λ (xs : List ℕ). nth xs i) (sym eb) ∙ q in
      let r = dite (ℕ_discrete i j) (λ d. now i x (same_Some y x (sym here ∙ ap (nth (body c)) (sym d) ∙ z)) d) (λ d. old i x (omega arith) z d) in
      (subst (λ (t : ℕ). Within (record { tag = t; place = i; word = x }) w.pass.flushed) (sym eo) r.0, subst (λ (t : ℕ). Within (Store (content_at (home t) i) Flushed x) w.pass.since) (sym eo) r.1);
}
  where
    now : (i x : ℕ) → y ≡ x → i ≡ j → Within (record { tag = c.own; place = i; word = x }) w.pass.flushed × Within (Store (content_at (home c.own) i) Flushed x) w.pass.since
    now i x d k = subst (λ (m : ℕ). Within (record { tag = c.own; place = m; word = x }) w.pass.flushed × Within (Store (content_at (home c.own) m) Flushed x) w.pass.since) (sym k)
        (subst (λ (m : ℕ). Within (record { tag = c.own; place = j; word = m }) w.pass.flushed × Within (Store (content_at (home c.own) j) Flushed m) w.pass.since) d
        (subst (Within (record { tag = c.own; place = j; word = y })) (sym ef) (inl refl), subst (Within (Store (content_at (home c.own) j) Flushed y)) (sym es) (within_last (Store (content_at (home c.own) j) Flushed y) v.pass.since)))

    old : (i x : ℕ) → i < j → nth (body c) i ≡ Some x → i ≢ j → Within (record { tag = c.own; place = i; word = x }) w.pass.flushed × Within (Store (content_at (home c.own) i) Flushed x) w.pass.since
    old i x l q d =
        let r = f.flushed i x l q in (
          subst (Within (record { tag = c.own; place = i; word = x })) (sym ef) (inr (dropped_else c.own j i x v.pass.flushed d r.0)),
          subst (Within (Store (content_at (home c.own) i) Flushed x)) (sym es) (within_more (Store (content_at (home c.own) i) Flushed x) (Store (content_at (home c.own) j) Flushed y) v.pass.since r.1),
        )

-- so many accesses in so many turns are within the bound
times : (a b : ℕ) → 5 * suc a + b ≤ suc a * (b + 5)
times zero b = omega arith
times (suc a) b = let h = times a b in let e : suc (suc a) * (b + 5) ≡ suc a * (b + 5) + (b + 5) = refl_at (suc a) (b + 5) in omega arith
  where
    refl_at : (m n : ℕ) → suc m * n ≡ m * n + n
    refl_at m n = omega arith

pub bounded : (p : Pool) (k n turns : ℕ) → k ≤ 2 * n + 5 * turns + 7 → n ≤ suc p.words → k ≤ most_accesses p turns
bounded p k n turns h l =
    let a = times turns p.words in
    let e : turns + 1 ≡ suc turns = omega arith in
    subst (λ (m : ℕ). k ≤ m * (p.words + 5) + 2 * p.words + 4) (sym e) (omega arith)

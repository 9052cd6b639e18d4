-- A client's store of one copy of a content word of its own stock: what any change within a buffer of a stock
-- keeps, and the law for the current and for the flushed copy.
use Rattle.std.proofs.Common.{◌≡◌, ℕ, ◌≤◌, ◌≢◌, List, [], ◌∷◌, Bool, true, false, cond, eqb, refl, sym, ap, ◌∙◌, ⊎_elim, arith}
use native.Mathlib.Decide.{ℕ_discrete}
use mathlib.Core.Logic.{dite}
use Rattle.std.specs.Prelude.{◌&&◌, Some}
use Rattle.clover_words.specs.Tag.{home}
use Rattle.clover_map.specs.declared.call.Entry.{Entry}
use Rattle.clover_map.specs.Tagged.{Tagged}
use Rattle.clover_map.specs.Legal.{used_by}
use Rattle.clover_rule.specs.History.{Version}
use Rattle.clover_rule.specs.Knowing.{dropped, stored_view, stored_mem, flushed_view, flushed_mem}
use Rattle.clover_rule.specs.Lists.{Each, nth, upd, Within}
use Rattle.clover_rule.specs.Memory.{gen, Mem}
use Rattle.clover_rule.specs.Server.{Whole}
use Rattle.clover_rule.specs.Story.{Stocked, Taken, Story, tag_in_version}
use Rattle.clover_rule.specs.Views.{Owned, Stands, ViewOk, Basis, renewed}
use Rattle.clover_rule.specs.declared.view.Content.{Content}
use Rattle.clover_rule.specs.declared.view.Role.TheVariants.{Client}
use Rattle.clover_rule.specs.declared.view.View.{View}
use Rattle.clover_words.specs.declared.pool.Pool.{Pool}
use Rattle.clover_rule.proofs.Tools.{upd_same, upd_else, other_place}
use Rattle.clover_rule.proofs.Standings.{same_tag}
use Rattle.clover_rule.proofs.Steps.{each_map, each_within, prefix_self, Grows, view_kept, nth_set, role_was, longest_was}
use Rattle.clover_rule.proofs.ServerTools.{core_copy}
use Rattle.clover_rule.proofs.ClientSteps.{client_whole}
use Rattle.clover_rule.proofs.Stages.{grow_refl}
use Rattle.clover_rule.proofs.Staying.{help_kept}

-- the word at this place of the buffer of t
abbrev written : (ℕ → ℕ → ℕ) → ℕ → ℕ → ℕ → ℕ → ℕ → ℕ
written f t j x = upd f (home t) (upd (f (home t)) j x)

-- a seat's own tag, at whose place the copy has this word
abbrev Wrote : Mem → Story → ℕ → (ℕ → ℕ → ℕ) → Content → Type 0
Wrote m st id f c = Owned m st id c.tag × (f (home c.tag) c.place ≡ c.word)

-- what a seat knows that it wrote stays so where it writes one more word, and drops what stood there
module _ (m : Mem) (st : Story) (id : ℕ) (f : ℕ → ℕ → ℕ) (t j x : ℕ) (owned : Owned m st id t) where
  word_else : (b : ℕ) → b ≢ home t → written f t j x b ≡ f b
  word_else b d = upd_else f (home t) b (upd (f (home t)) j x) d

  word_here : written f t j x (home t) ≡ upd (f (home t)) j x
  word_here = upd_same f (home t) (upd (f (home t)) j x)

  word_kept : (c : Content) → Wrote m st id f c → eqb c.tag t && eqb c.place j ≡ false → Wrote m st id (written f t j x) c
  word_kept c a e = (
    a.0,
    dite (ℕ_discrete (home c.tag) (home t))
        (λ d. let same : c.tag ≡ t = same_tag c.tag t d (sym a.0.1 ∙ ap gen (ap m.next d) ∙ owned.1) in
        ap (λ (b : ℕ). written f t j x b c.place) d ∙ ap (λ (g : ℕ → ℕ). g c.place) word_here ∙ upd_else (f (home t)) j c.place x (other_place c.tag t j c.place same e) ∙ ap (λ (b : ℕ). f b c.place) (sym d) ∙ a.1)
        (λ d. ap (λ (g : ℕ → ℕ). g c.place) (word_else (home c.tag) d) ∙ a.1),
  )

  others_kept : (cs : List Content) → Each (Wrote m st id f) cs → Each (Wrote m st id (written f t j x)) (dropped t j cs)
  others_kept [] a = tt
  others_kept (c ∷ cs) a = go (eqb c.tag t && eqb c.place j) refl (others_kept cs a.1)
    where
      go : (b : Bool) → eqb c.tag t && eqb c.place j ≡ b → Each (Wrote m st id (written f t j x)) (dropped t j cs) → Each (Wrote m st id (written f t j x)) (cond b (dropped t j cs) (c ∷ dropped t j cs))
      go true e q = q
      go false e q = (word_kept c a.0 e, q)

  all_wrote : (cs : List Content) → Each (Wrote m st id f) cs → Each (Wrote m st id (written f t j x)) (record { tag = t; place = j; word = x } ∷ dropped t j cs)
  all_wrote cs a = ((owned, ap (λ (g : ℕ → ℕ). g j) word_here ∙ upd_same (f (home t)) j x), others_kept cs a)

module _ (l : Pool) (m0 : Tagged) (used : List ℕ) (m : Mem) (vs : List View) (st : Story) (h : List Entry) (w : Whole l m0 used m vs st h) (id : ℕ) (v : View) (at : nth vs id ≡ Some v) (n : ℕ) (role : v.pass.role ≡ Client n)
    (t : ℕ) (own : Within t v.pass.stock) where
  abbrev r : Basis m0 used m vs st h
  r = w.basis

  ok : ViewOk m st h id v
  ok = r.views id v at

  owned : Owned m st id t
  owned = each_within (Owned m st id) t v.pass.stock ok.stocked own

  -- content words changed in the buffer of t alone, and the seat knows what it wrote
  module _ (body fbody : ℕ → ℕ → ℕ) (body_else : (b : ℕ) → b ≢ home t → body b ≡ m.body b) (fbody_else : (b : ℕ) → b ≢ home t → fbody b ≡ m.fbody b)
      (stored flushed : List Content) (stored_ok : Each (Wrote m st id body) stored) (flushed_ok : Each (Wrote m st id fbody) flushed) where
    abbrev m1 : Mem
    m1 = record m { body = body; fbody = fbody }

    abbrev v' : View
    v' = record v { pass = record v.pass { written = stored; flushed = flushed } }

    ok' : ViewOk m1 st h id v'
    ok' = record {
      stocked = ok.stocked;
      apart = ok.apart;
      knows = let k = ok.knows in record { durable = k.durable; links = k.links; words = k.words; copied = k.copied };
      written = stored_ok;
      flushed = flushed_ok;
      named = ok.named;
      history = ok.history;
      calls = ok.calls;
    }

    grows : Grows m st h m1 st h
    grows = grow_refl m m1 st st h (λ a. refl) (λ a. refl) (λ a. refl) (λ a. refl) (prefix_self st.bindings) (omega arith)

    views' : (i : ℕ) (y : View) → nth (renewed vs id v') i ≡ Some y → ViewOk m1 st h i y
    views' i y q = ⊎_elim (λ a. rw (a.0, ← a.1) ok') (λ a. view_kept m st h m1 st h grows i y (λ b o.
        let away : b ≢ home t = λ d. a.0 (let s1 : Stocked i ≡ Stocked id = sym o ∙ ap st.place d ∙ owned.0 in cc) in
        record { place = o; next = refl; body = λ z. ap (λ (f : ℕ → ℕ). f z) (body_else b away); fbody = λ z. ap (λ (f : ℕ → ℕ). f z) (fbody_else b away) }) (λ c f. refl) (r.views i y a.1)) (nth_set vs id i v' y q)

    -- a standing version is in another buffer
    elsewhere : (s i : ℕ) (y : Version) → Stands st s i y → st.gone s ≤ i → home y.tag ≢ home t
    elsewhere s i y e g d = absurd (cc (ap st.place d, (r.core.standing s i y.tag (ap tag_in_version e) g).placed, owned.0))

    rule' : Basis m0 used m1 (renewed vs id v') st h
    rule' = record {
      core = core_copy m st r.core body fbody m.key m.fkey m.short m.count st.keys st.first st.bindings st.task st.slot_named;
      tale = r.tale;
      bodies = λ s i y e g k z q. let a = r.bodies s i y e g k z q in let d = elsewhere s i y e g in (ap (λ (f : ℕ → ℕ). f k) (body_else (home y.tag) d) ∙ a.0, ap (λ (f : ℕ → ℕ). f k) (fbody_else (home y.tag) d) ∙ a.1);
      spent = each_map (λ y a. a) (used_by used h) r.spent;
      bound = r.bound;
      keyed = r.keyed;
      views = views';
      numbered = λ i1 j1 c a b qa qb ra rb. let x1 = role_was vs id v v' at refl i1 a qa in let y1 = role_was vs id v v' at refl j1 b qb in r.numbered i1 j1 c x1.0 y1.0 x1.1 y1.1 (x1.2 ∙ ra) (y1.2 ∙ rb);
      longest = longest_was vs id v v' at h refl r.longest;
    }

    -- nor is a held buffer that of t
    held_off : (b : ℕ) → st.place b ≡ Taken → b ≢ home t
    held_off b e d = absurd (cc (ap st.place d, e, owned.0))

    within_own : Whole l m0 used m1 (renewed vs id v') st h
    within_own = let p = w.help in let a = p.ranged in client_whole l m0 used m vs st h w id v v' at n role refl m1 st h rule'
        (help_kept l m st m.fnext body fbody m.short st.place st.sure (λ s i q. q) (λ b e. (e, refl, body_else b (held_off b e), fbody_else b (held_off b e))) p
        record { tags = a.tags; own = a.own; below = a.below; ready = a.ready; worn = a.worn; fits = a.fits } p.stage.holds p.short)
        (λ sv e. record { task_is = e.task_is; directory = e.directory; roots = e.roots; books = e.books }) w.safe (λ cs a b. b)

  pub store_whole : (j x : ℕ) → Whole l m0 used (stored_mem m t j x) (renewed vs id (stored_view v t j x)) st h
  store_whole j x = within_own (written m.body t j x) m.fbody (word_else m st id m.body t j x owned) (λ b d. refl) (record { tag = t; place = j; word = x } ∷ dropped t j v.pass.written) v.pass.flushed (all_wrote m st id m.body t j x owned v.pass.written ok.written) ok.flushed

  pub flush_whole : (j x : ℕ) → Whole l m0 used (flushed_mem m t j x) (renewed vs id (flushed_view v t j x)) st h
  flush_whole j x = within_own m.body (written m.fbody t j x) (λ b d. refl) (word_else m st id m.fbody t j x owned) v.pass.written (record { tag = t; place = j; word = x } ∷ dropped t j v.pass.flushed) ok.written (all_wrote m st id m.fbody t j x owned v.pass.flushed ok.flushed)

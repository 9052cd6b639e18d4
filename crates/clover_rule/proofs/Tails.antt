-- What a number says beside itself: a bound slot has a root, and a tag that is found unlinked is the tail of its key.
use Rattle.std.proofs.Common.{◌≡◌, ℕ, zero, suc, ◌≤◌, List, [], ◌∷◌, ◌++◌, length, length-append, drop, refl, sym, ap, ◌∙◌, inl, inr, ⊎_elim, arith, subst}
use Rattle.std.specs.Prelude.{Option, Some, None}
use Rattle.clover_words.specs.declared.pool.Pool.{Pool}
use Rattle.clover_words.specs.declared.word.Word.TheVariants.{Next as NextOf, Count}
use Rattle.clover_words.specs.declared.word.Side.TheVariants.{Current}
use Rattle.clover_words.specs.Place.{IsWithin, copy_in}
use Rattle.clover_words.specs.Meta.{tombstone}
use Rattle.clover_words.specs.Tag.{home, age}
use Rattle.clover_words.specs.Version.{unlinked, buffer_at}
use Rattle.clover_map.specs.declared.bytes.Value.{Value}
use Rattle.clover_map.specs.declared.call.Entry.{Entry}
use Rattle.clover_map.specs.History.{key_of}
use Rattle.clover_map.specs.Tagged.{Tagged}
use Rattle.clover_rule.specs.Accesses.{IsTail}
use Rattle.clover_rule.specs.Content.{content, Fits, value_meta}
use Rattle.clover_rule.specs.History.{Version}
use Rattle.clover_rule.specs.Image.{tags}
use Rattle.clover_rule.specs.Lists.{nth, Within}
use Rattle.clover_rule.specs.Meets.{Meets}
use Rattle.clover_rule.specs.Memory.{Mem, word, gen}
use Rattle.clover_rule.specs.Chains.{Walk}
use Rattle.clover_rule.specs.Asks.{Asks}
use Rattle.clover_rule.specs.Learned.{found}
use Rattle.clover_rule.specs.Steps.{Step, ReadCount, AbsentCount, LoadNext, DecideNext, LinkNext, ReadRoot, ReadVersion, PassRoot, FreeRoot, StoreCount}
use Rattle.clover_rule.specs.Story.{Story, tag_at, tag_in_version}
use Rattle.clover_rule.specs.Told.{IsMetaWord, AreOneVersion, Says}
use Rattle.clover_rule.specs.Views.{IsCopied}
use Rattle.clover_rule.specs.Words.{mem_of, next_of}
use Rattle.clover_rule.specs.declared.view.View.{View}
use Rattle.clover_rule.proofs.Decide.{tail_durable, slot_bound, last, version, copied_word}
use Rattle.clover_rule.proofs.Bindings.{few_bindings}
use Rattle.clover_rule.proofs.Derived.{chains}
use Rattle.clover_rule.proofs.Keeping.{inside_of, read_next, read_root}
use Rattle.clover_rule.proofs.ServerKeeps.{version_says, pass_says, free_says, count_says}
use Rattle.clover_rule.proofs.Standings.{tag_past}
use Rattle.clover_rule.proofs.Steps.{each_within, within_prefix}
use Rattle.clover_rule.proofs.Ties.{next_again}

-- a list of versions ends with its last one
split_last : (ws : List Version) (i : ℕ) (w : Version) → nth ws i ≡ Some w → length ws ≡ suc i → (n : ℕ) → n ≤ i → (ts : List ℕ) × (tags (drop n ws) ≡ ts ++ w.tag ∷ [])
split_last [] i w e l n h = absurd cc
split_last (x ∷ []) zero w e l zero h = ([], let q : x ≡ w = (let z : Some x ≡ Some w = e in cc) in ap (λ (y : Version). y.tag ∷ []) q)
split_last (x ∷ []) zero w e l (suc n) h = absurd (omega arith)
split_last (x ∷ []) (suc i) w e l n h = absurd cc
split_last (x ∷ y ∷ ws) zero w e l n h = absurd (omega arith)
split_last (x ∷ y ∷ ws) (suc i) w e l zero h = let q = split_last (y ∷ ws) i w e (omega arith) zero (omega arith) in (x.tag ∷ q.0, ap (λ (ts : List ℕ). x.tag ∷ ts) q.1)
split_last (x ∷ y ∷ ws) (suc i) w e l (suc n) h = split_last (y ∷ ws) i w e (omega arith) n (omega arith)

-- the first word of a content is a version's meta word
head : (p : Pool) (y : ℕ) (o : Option Value) → Fits p o → ((z : ℕ) → nth (content o) 0 ≡ Some z → z ≡ y) → IsMetaWord p y
unfolding content
head p y None fits f = inl (sym (f tombstone refl))
head p y (Some u) fits f = inr (u, fits, sym (f (value_meta u) refl))

module _ (p : Pool) (first : Tagged) (used : List ℕ) (ws : List ℕ) (vs : List View) (st : Story) (h : List Entry) (r : Meets p first used ws vs st h) (id : ℕ) (v : View) (at : nth vs id ≡ Some v) where
  abbrev m : Mem
  m = mem_of p ws

  -- a known durable tag of a named slot that is found unlinked is the last of the chain from the root
  tail_is : (s t : ℕ) (k : List ℕ) → IsWithin p (NextOf (buffer_at (home t))) → Within (s, t) v.pass.durable → Within (s, k) v.pass.names → copy_in p ws (NextOf (buffer_at (home t))) Current ≡ unlinked t → IsTail m k t
  tail_is s t k hw tail name e =
      let w = r.whole in
      let f : m.next (home t) ≡ word (age t) None = read_next p ws (home t) (inside_of p (home t) hw) ∙ ap next_of e ∙ next_again (age t) None (omega arith) in
      let b = w.basis in
      let bound = slot_bound first used m vs st h b id v at s k t tail name f in
      let d = tail_durable first used m vs st h b id v at s k t tail name f in
      let x = version first used m vs st h b id v at s k t tail name f in
      let l = last first used m vs st h b id v at s k t tail name f in
      let low = b.core.rooted s (omega arith) in
      let most = b.core.sure_most s in
      let q = split_last (st.log s) d.0 x.0 x.1 l (st.lead s) (omega arith) in
      (s, q.0, w.help.keyed.current s k bound.0, subst (λ (ts : List ℕ). Walk m (m.root s) ts) (q.1 ∙ ap (λ (z : ℕ). q.0 ++ z ∷ []) x.2) ((chains m st b.core).walk s))

  -- what is copied of a known durable tag of a named slot that is found unlinked is its version's content
  one_version : (s t : ℕ) (k : List ℕ) → IsWithin p (NextOf (buffer_at (home t))) → Within (s, t) v.pass.durable → Within (s, k) v.pass.names → copy_in p ws (NextOf (buffer_at (home t))) Current ≡ unlinked t → AreOneVersion p s t v
  one_version s t k hw tail name e =
      let f : m.next (home t) ≡ word (age t) None = read_next p ws (home t) (inside_of p (home t) hw) ∙ ap next_of e ∙ next_again (age t) None (omega arith) in
      let b = r.whole.basis in
      let x = version first used m vs st h b id v at s k t tail name f in
      record { value = x.0.value; fits = r.whole.help.ranged.fits s _ x.0 x.1; words = copied_word first used m vs st h b id v at s k t tail name f }

  -- a named slot has a root
  root_is : (s : ℕ) (k : List ℕ) → Within (s, k) v.pass.names → (t : ℕ) × (m.root s ≡ Some t)
  root_is s k name =
      let b = r.whole.basis in
      let ok = b.views id v at in
      let bound = b.bound s k (subst (Within (s, k)) (sym ok.named.names.1) (within_prefix (s, k) v.pass.names ok.named.names.0 name)) in
      let low = b.core.rooted s (r.whole.help.keyed.filled s k bound.0) in
      let most = b.core.sure_most s in
      there (λ e. let past = tag_past st s (st.lead s) e in omega arith) (tag_at st s (st.lead s)) (b.core.root s)
    where
      there : (tag_at st s (st.lead s) ≡ None → ⊥) → (o : Option ℕ) → m.root s ≡ o → (t : ℕ) × (m.root s ≡ Some t)
      there n None e = absurd (n (sym (r.whole.basis.core.root s) ∙ e))
      there n (Some t) e = (t, e)

  -- a meta word copied of a tag that is found unlinked is a version's
  meta_is : (s t y : ℕ) → IsWithin p (NextOf (buffer_at (home t))) → copy_in p ws (NextOf (buffer_at (home t))) Current ≡ unlinked t → Within (s, record { tag = t; place = 0; word = y }) v.pass.copied → IsMetaWord p y
  meta_is s t y hw e q =
      let b = r.whole.basis in
      let ok = b.views id v at in
      let f : m.next (home t) ≡ word (age t) None = read_next p ws (home t) (inside_of p (home t) hw) ∙ ap next_of e ∙ next_again (age t) None (omega arith) in
      go f (each_within (IsCopied st) (s, record { tag = t; place = 0; word = y }) v.pass.copied ok.knows.copied q)
    where
      go : m.next (home t) ≡ word (age t) None → IsCopied st (s, record { tag = t; place = 0; word = y }) → IsMetaWord p y
      go f d = ⊎_elim (λ whole. head p y d.1.value (r.whole.help.ranged.fits s d.0 d.1 d.2) whole)
          (λ gone. let past = (r.whole.basis.core.passed s d.0 t (ap tag_in_version d.2 ∙ ap Some d.3) gone).later in let g = ap gen f in absurd (omega arith)) d.4

  -- the count is at least the names that the actor knows, and at most the slots
  counts_known : (length v.pass.names ≤ copy_in p ws Count Current) × (copy_in p ws Count Current ≤ p.slots)
  counts_known =
      let b = r.whole.basis in
      let ok = b.views id v at in
      let n = r.whole.help.naming in
      let c : copy_in p ws Count Current ≡ length st.bindings = n.counted in
      let e = ap length ok.named.names.1 in
      let few = few_bindings p.slots st.bindings n.once (λ q w. r.whole.help.keyed.slots q.0 q.1 (b.bound q.0 q.1 w).0) in
      (omega (arith, length-append v.pass.names ok.named.names.0), omega arith)

  pub says : (a : Step) → Asks p a v → Says p ws a v (found p a ws)
  says (LoadNext s t) asks = λ e y q. meta_is s t y asks.0 e q
  says (DecideNext s t c y) asks = λ e. (tail_is s t (key_of c) asks.0 asks.1.tail asks.1.name e, one_version s t (key_of c) asks.0 asks.1.tail asks.1.name e)
  says (LinkNext s u t c) asks = λ e. tail_is s u (key_of c) asks.0 asks.1.tail asks.1.name e
  says (ReadRoot s) asks = λ k name. let t = root_is s k name in (t.0, sym (read_root p ws s asks.0) ∙ t.1)
  says ReadCount asks = counts_known
  says (AbsentCount c) asks = counts_known
  says (ReadVersion s q) (hw, (i, e)) = version_says p first used ws vs st h r id v at s q hw i e
  says (PassRoot c) (hw, i) = pass_says p first used ws vs st h r id v at c hw i
  says (FreeRoot c) (hw, i) = free_says p first used ws vs st h r id v at c hw i
  says (StoreCount b n) (hw, (i, e)) = count_says p first used ws vs st h r id v at b n i
  says a asks = tt

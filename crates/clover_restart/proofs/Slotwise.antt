-- The slots of a sound image one by one.
use Rattle.std.proofs.Common.{◌≡◌, ◌≢◌, ℕ, zero, suc, ◌+◌, ◌-◌, ◌*◌, ◌<◌, ◌≤◌, List, [], ◌∷◌, ◌++◌, length, get_or, replicate, Bool, true, false, cond, eqb, eqb-true, ◌&&◌, ◌||◌, not, is_some, nat_lt, refl, sym, ap, ◌∙◌, inl, inr, ⊎_elim, subst, arith, append-nil, length-append, get_or-set_other, eq-eqb, ne_eqb, true≢false}
use native.Mathlib.Decide.{ℕ_discrete, dec_le}
use mathlib.Core.Logic.{dite}
use Rattle.std.specs.Prelude.{Option, Some, None, map}
use Rattle.std.specs.Option.{option_map}
use Rattle.std.proofs.lemmas.Bool.Decides.{nat_tests}
use Rattle.std.proofs.lemmas.Grind.{get_or-set_at}
use Rattle.std.proofs.lemmas.List.{length-map, length-replicate, get_or-replicate, get_or_past}
use Rattle.clover_words.specs.declared.pool.Pool.{Pool}
use Rattle.clover_words.specs.Meta.{tombstone}
use Rattle.clover_words.specs.Tag.{TagParts, tag_number, home}
use Rattle.clover_map.specs.declared.bytes.Held.{Held}
use Rattle.clover_map.specs.declared.bytes.Value.{Value}
use Rattle.clover_map.specs.Key.{IsKey}
use Rattle.clover_rule.specs.Content.{Fits, Spells, content, value_meta}
use Rattle.clover_rule.specs.History.{ends, paired}
use Rattle.clover_rule.specs.Image.{Image, Chain}
use Rattle.clover_rule.specs.Lists.{Within, nth}
use Rattle.clover_rule.specs.Restart.{AreBindings, clears, how_many, is_dead, is_kept, is_of, stands_on}
use Rattle.clover_rule.specs.Sound.{Sound, versions_of}
use Rattle.clover_rule.specs.declared.view.RestartStore.{RestartStore}
use Rattle.clover_rule.specs.declared.view.RestartStore.TheVariants.{ClearRoot, ClearFlushedRoot}
use Rattle.clover_rule.proofs.OneReading.{one_chain}
use Rattle.clover_rule.proofs.Spelling.{meta_apart, short_enough}
use Rattle.clover_rule.proofs.Ties.{test_below}
use Rattle.clover_alloc.specs.declared.line.Place.{Place}
use Rattle.clover_alloc.specs.declared.line.Place.TheVariants.{Free, Bound, Out}
use Rattle.clover_dir.specs.Directory.{Bindings, IsBound, IsDirectory, nothing_bound, root_of, with_binding}
use Rattle.clover_dir.specs.Names.{IsNew}
use Rattle.clover_restart.specs.Reading.{number_at}
use Rattle.clover_restart.specs.Slots.{AreRead, is_root, is_chained, kept_image, kept_root}
use Rattle.clover_restart.specs.Stores.{store_of}
use Rattle.clover_restart.specs.declared.slots.Slots.{Slots}
use Rattle.clover_restart.proofs.ChainMarks.{and_second, of_stands, some_is}

-- a slot more without a binding
bind_none : (im : Image) (s n m : ℕ) (list : List (ℕ × List ℕ)) → s + n ≡ m → AreBindings im s n list → im.root m ≡ None → AreBindings im s (suc n) list
bind_none im s zero m list e a r = subst (AreBindings im s 1) (sym a) (ap im.root (let f : s ≡ m = omega arith in f) ∙ r, refl)
bind_none im s (suc n) m [] e a r = (a.0, bind_none im (suc s) n m [] (omega arith) a.1 r)
bind_none im s (suc n) m (x ∷ xs) e a r = ⊎_elim {C = AreBindings im s (suc (suc n)) (x ∷ xs)}
    (λ b. inl (b.0, bind_none im (suc s) n m (x ∷ xs) (omega arith) b.1 r))
    (λ b. inr (b.0, b.1, b.2, b.3, bind_none im (suc s) n m xs (omega arith) b.4 r)) a

-- a slot more with one
bind_some : (im : Image) (s n m : ℕ) (list : List (ℕ × List ℕ)) (k : List ℕ) → s + n ≡ m → AreBindings im s n list → im.root m ≢ None → IsKey k → Spells (im.key m) k → AreBindings im s (suc n) (list ++ (m, k) ∷ [])
bind_some im s zero m list k e a r ik sp =
    let f : m ≡ s = omega arith in
    subst (λ (xs : List (ℕ × List ℕ)). AreBindings im s 1 (xs ++ (m, k) ∷ [])) (sym a) (inr ((λ q. r (ap im.root f ∙ q)), f, ik, subst (λ (z : ℕ). Spells (im.key z) k) f sp, refl))
bind_some im s (suc n) m [] k e a r ik sp = inl (a.0, bind_some im (suc s) n m [] k (omega arith) a.1 r ik sp)
bind_some im s (suc n) m (x ∷ xs) k e a r ik sp = ⊎_elim {C = AreBindings im s (suc (suc n)) (x ∷ (xs ++ (m, k) ∷ []))}
    (λ b. inl (b.0, bind_some im (suc s) n m (x ∷ xs) k (omega arith) b.1 r ik sp))
    (λ b. inr (b.0, b.1, b.2, b.3, bind_some im (suc s) n m xs k (omega arith) b.4 r ik sp)) a

-- what a binding of the list says
pub record IsBindingOf (im : Image) (n j : ℕ) (k : List ℕ) : Type 0 where
  pub below : j < n
  pub root : im.root j ≢ None
  pub key : IsKey k
  pub spells : Spells (im.key j) k

moved : (im : Image) (s n j : ℕ) (k : List ℕ) → IsBindingOf im (suc s + n) j k → IsBindingOf im (s + suc n) j k
moved im s n j k r = record { below = (let l = r.below in omega arith); root = r.root; key = r.key; spells = r.spells }

bound_here : (im : Image) (s n j : ℕ) (k : List ℕ) (x : ℕ × List ℕ) → x.0 ≡ s → im.root s ≢ None → IsKey x.1 → Spells (im.key s) x.1 → x ≡ (j, k) → IsBindingOf im (s + suc n) j k
bound_here im s n j k x a r ik sp e =
    let f : s ≡ j = sym a ∙ ap (λ (q : ℕ × List ℕ). q.0) e in
    record {
      below = omega arith;
      root = λ q. r (ap im.root f ∙ q);
      key = subst (λ (q : ℕ × List ℕ). IsKey q.1) e ik;
      spells = subst (λ (z : ℕ). Spells (im.key z) k) f (subst (λ (q : ℕ × List ℕ). Spells (im.key s) q.1) e sp);
    }

pub binding_of : (im : Image) (s n j : ℕ) (k : List ℕ) (list : List (ℕ × List ℕ)) → AreBindings im s n list → Within (j, k) list → IsBindingOf im (s + n) j k
binding_of im s zero j k list a w = absurd (subst (Within (j, k)) a w)
binding_of im s (suc n) j k [] a w = absurd w
binding_of im s (suc n) j k (x ∷ xs) a w = ⊎_elim
    (λ b. moved im s n j k (binding_of im (suc s) n j k (x ∷ xs) b.1 w))
    (λ b. ⊎_elim (λ e. bound_here im s n j k x b.1 b.0 b.2 b.3 e) (λ v. moved im s n j k (binding_of im (suc s) n j k xs b.4 v)) w) a

-- the stores that clear a slot's root, or none
abbrev pub clear_if : Bool → ℕ → List RestartStore
clear_if y s = cond y (ClearRoot s ∷ ClearFlushedRoot s ∷ []) []

cond_more : {A : Type 0} (y : Bool) (a b : A) (r q c : List A) → r ≡ q ++ c → cond y (a ∷ b ∷ r) r ≡ cond y (a ∷ b ∷ q) q ++ c
cond_more true a b r q c e = ap (λ (xs : List _). a ∷ b ∷ xs) e
cond_more false a b r q c e = e

clears_more : (f : ℕ → Bool) (s n m : ℕ) → s + n ≡ m → clears f s (suc n) ≡ clears f s n ++ clear_if (f m) m
clears_more f s zero m e = ap (λ (z : ℕ). clear_if (f z) z) (let g : s ≡ m = omega arith in g)
clears_more f s (suc n) m e = cond_more (f s) (ClearRoot s) (ClearFlushedRoot s) (clears f (suc s) (suc n)) (clears f (suc s) n) (clear_if (f m) m) (clears_more f (suc s) n m (omega arith))

above : (a b : ℕ) → b ≤ a → nat_lt a b ≡ false
above a b h = grind (arith, nat_tests)

below_next : (s n : ℕ) → s ≢ n → nat_lt s (suc n) ≡ nat_lt s n
below_next s n ne = dite (dec_le (suc s) n) (λ d. test_below s (suc n) (omega arith) ∙ sym (test_below s n d)) (λ d. above s (suc n) (omega arith) ∙ sym (above s n (omega arith)))

cond_none : {A : Type 0} (y : Bool) (x : Option A) → x ≡ None → cond y x None ≡ None
cond_none true x e = e
cond_none false x e = refl

none_cond : {A : Type 0} (y : Bool) (x : Option A) → x ≡ None → cond y None x ≡ None
none_cond true x e = refl
none_cond false x e = e

and_false : (y : Bool) → y && false ≡ false
and_false true = refl
and_false false = refl

pub not_true : (x y : Bool) → y ≡ not x → y ≡ true → x ≡ false
not_true true y e f = absurd (true≢false (sym f ∙ e))
not_true false y e f = refl

pub not_false : (x y : Bool) → y ≡ not x → y ≡ false → x ≡ true
not_false true y e f = refl
not_false false y e f = absurd (true≢false (sym e ∙ f))

not_not : (x : Bool) → not (not x) ≡ x
not_not true = refl
not_not false = refl

no_chain : (im : Image) (x : Option ℕ) (us : List ℕ) → x ≡ None → Chain im x us → us ≡ []
no_chain im x [] e c = refl
no_chain im x (u ∷ us) e c = absurd (subst (λ (y : Option ℕ). Chain im y (u ∷ us)) e c)

nth_map : {A B : Type 0} (f : A → B) (ts : List A) (i : ℕ) (d : A) → i < length ts → nth (map f ts) i ≡ Some (f (get_or ts i d))
nth_map f [] i d h = absurd (omega arith)
nth_map f (t ∷ ts) zero d h = refl
nth_map f (t ∷ ts) (suc i) d h = nth_map f ts i d (omega arith)

-- a list of versions ends in a value where its last one is one
some_paired : (t : ℕ) (o : Option Value) → is_some (paired t o) ≡ is_some o
some_paired t None = refl
some_paired t (Some v) = refl

ends_last : (us : List ℕ) (f : ℕ → Option Value) (x : Option Held) (i t : ℕ) → nth us i ≡ Some t → length us ≡ suc i → is_some (ends x (versions_of us f)) ≡ is_some (f i)
ends_last [] f x i t e h = absurd cc
ends_last (u ∷ []) f x zero t e h = some_paired u (f zero)
ends_last (u ∷ []) f x (suc i) t e h = absurd cc
ends_last (u ∷ v ∷ us) f x zero t e h = absurd (omega arith)
ends_last (u ∷ v ∷ us) f x (suc i) t e h = ends_last (v ∷ us) (λ (j : ℕ). f (suc j)) (paired u (f zero)) i t e (omega arith)

-- the first word of a content tells a tombstone
meta_tells : (p : Pool) (o : Option Value) (y : ℕ) → Fits p o → ((z : ℕ) → nth (content o) 0 ≡ Some z → y ≡ z) → is_some o ≡ not (eqb y tombstone)
unfolding content
meta_tells p None y f h = sym (ap not (eq-eqb y tombstone (h tombstone refl)))
meta_tells p (Some v) y f h = sym (ap not (ne_eqb y tombstone (λ e. meta_apart v.flags (length v.bytes) f.0 (short_enough p (length v.bytes) f.1) (sym (h (value_meta v) refl) ∙ e))))

-- a buffer that stands on a list is that of one of its tags
stands_at : (us : List ℕ) (b : ℕ) → stands_on us b ≡ true → (i : ℕ) × (t : ℕ) × (nth us i ≡ Some t) × (home t ≡ b)
stands_at [] b e = absurd (true≢false (sym e))
stands_at (u ∷ us) b e = go (eqb (home u) b) refl (stands_at us b) e
  where
    go : (y : Bool) → eqb (home u) b ≡ y → (stands_on us b ≡ true → (i : ℕ) × (t : ℕ) × (nth us i ≡ Some t) × (home t ≡ b)) → y || stands_on us b ≡ true → (i : ℕ) × (t : ℕ) × (nth (u ∷ us) i ≡ Some t) × (home t ≡ b)
    go true q rest f = (0, u, refl, eqb-true (home u) b q)
    go false q rest f = let r = rest f in (suc r.0, r.1, r.2, r.3)

marks_next : (a c r k : Bool) → (c ≡ true → r ≡ false) → cond a Bound (cond c Out (cond r Bound (cond k Out Free))) ≡ cond (a || r) Bound (cond (c || k) Out Free)
marks_next true c r k h = refl
marks_next false true r k h = ap (λ (y : Bool). cond y Bound Out) (sym (h refl))
marks_next false false r k h = refl

module _ (p : Pool) (im : Image) (sound : Sound p im) where
  abbrev dead : ℕ → Bool
  dead = is_dead p im sound

  abbrev kept : ℕ → Bool
  kept = is_kept p im sound

  abbrev root2 : ℕ → Option ℕ
  root2 = kept_root p im sound

  -- the roots of the slots below n
  abbrev shown : ℕ → ℕ → Option ℕ
  shown n s = cond (nat_lt s n) (root2 s) None

  shown_else : (n s : ℕ) → s ≢ n → shown (suc n) s ≡ shown n s
  shown_else n s ne = ap (λ (y : Bool). cond y (root2 s) None) (below_next s n ne)

  shown_none : (n s : ℕ) → root2 n ≡ None → shown (suc n) s ≡ shown n s
  shown_none n s e = dite (ℕ_discrete s n)
      (λ q. cond_none (nat_lt s (suc n)) (root2 s) (ap root2 q ∙ e) ∙ sym (cond_none (nat_lt s n) (root2 s) (ap root2 q ∙ e)))
      (λ q. shown_else n s q)

  one_more : (n : ℕ) → suc n ≡ n + 1
  one_more n = omega arith

  -- a slot more that keeps no root
  without : (n : ℕ) (a b : Slots) → map store_of b.stores.items ≡ map store_of a.stores.items ++ clear_if (dead n) n → b.marks.items ≡ a.marks.items → b.directory ≡ a.directory → root2 n ≡ None → kept n ≡ false
      → ((x : ℕ) → not (dead n) && is_of (im.root n) x ≡ false) → ((x : ℕ) → not (dead n) && stands_on (sound.chain n) x ≡ false) → AreRead p im sound n a → AreRead p im sound (n + 1) b
  without n a b es em ed kn ek ei ec r = subst (λ (m : ℕ). AreRead p im sound m b) (one_more n) (record {
    stores = es ∙ ap (λ (xs : List RestartStore). xs ++ clear_if (dead n) n) r.stores ∙ sym (clears_more dead 0 n n (omega arith));
    sized = ap (λ (ms : List Place). length ms) em ∙ r.sized;
    marks = λ q h. ap (λ (ms : List Place). get_or ms q Free) em ∙ r.marks q h ∙ sym (λ i. cond (ei (number_at p q) i || is_root p im sound n (number_at p q)) Bound (cond (ec (number_at p q) i || is_chained p im sound n (number_at p q)) Out Free));
    pool = ap (λ (d : Bindings). d.pool) ed ∙ r.pool;
    list = subst (λ (d : Bindings). AreBindings (kept_image p im sound) 0 (suc n) d.list) (sym ed) (bind_none (kept_image p im sound) 0 n n a.directory.list (omega arith) r.list kn);
    roots = λ s. ap (λ (d : Bindings). option_map tag_number (root_of d s)) ed ∙ r.roots s ∙ sym (shown_none n s kn);
    count = ap (λ (d : Bindings). length d.list) ed ∙ r.count ∙ sym (ap (λ (y : Bool). cond y (suc (how_many kept n)) (how_many kept n)) ek);
  })

  -- one without a root
  pub read_bare : (n : ℕ) (a : Slots) → im.root n ≡ None → AreRead p im sound n a → AreRead p im sound (n + 1) a
  read_bare n a e r =
      let d : dead n ≡ false = ap (λ (x : Option ℕ). is_some x && not (is_some (ends None (versions_of (sound.chain n) (sound.value n))))) e in
      let c : sound.chain n ≡ [] = no_chain im (im.root n) (sound.chain n) e (sound.walk n) in
      without n a a (sym (append-nil (map store_of a.stores.items)) ∙ ap (λ (y : Bool). map store_of a.stores.items ++ clear_if y n) (sym d)) refl refl (none_cond (dead n) (im.root n) e)
      (ap (λ (x : Option ℕ). is_some x && not (dead n)) e)
      (λ x. ap (λ (y : Option ℕ). not (dead n) && is_of y x) e ∙ and_false (not (dead n)))
      (λ x. ap (λ (us : List ℕ). not (dead n) && stands_on us x) c ∙ and_false (not (dead n))) r

  -- one whose chain ends in a tombstone
  pub read_dead : (n : ℕ) (a b : Slots) → dead n ≡ true → map store_of b.stores.items ≡ map store_of a.stores.items ++ ClearRoot n ∷ ClearFlushedRoot n ∷ [] → b.marks.items ≡ a.marks.items → b.directory ≡ a.directory → AreRead p im sound n a → AreRead p im sound (n + 1) b
  read_dead n a b d es em ed r =
      without n a b (es ∙ ap (λ (y : Bool). map store_of a.stores.items ++ clear_if y n) (sym d)) em ed (ap (λ (y : Bool). cond y None (im.root n)) d)
      (ap (λ (y : Bool). is_some (im.root n) && not y) d ∙ and_false (is_some (im.root n)))
      (λ x. ap (λ (y : Bool). not y && is_of (im.root n) x) d)
      (λ x. ap (λ (y : Bool). not y && stands_on (sound.chain n) x) d) r

  -- a slot with this root version and this chain
  module _ (n : ℕ) (t : TagParts) (ts : List TagParts) (root : im.root n ≡ Some (tag_number t)) (chain : Chain im (Some (tag_number t)) (map tag_number ts)) where
    pub chain_is : sound.chain n ≡ map tag_number ts
    chain_is = one_chain im (Some (tag_number t)) (sound.chain n) (map tag_number ts) (subst (λ (x : Option ℕ). Chain im x (sound.chain n)) root (sound.walk n)) chain

    pub some_tag : 1 ≤ length ts
    some_tag = go ts chain
      where
        go : (us : List TagParts) → Chain im (Some (tag_number t)) (map tag_number us) → 1 ≤ length us
        go [] c = absurd c
        go (u ∷ us) c = omega arith

    -- is dead where its last version is a tombstone
    pub dead_by : (last : TagParts) → last ≡ get_or ts (length ts - 1) last → dead n ≡ eqb (im.body (home (tag_number last)) 0) tombstone
    dead_by last is =
        let i : ℕ = length ts - 1 in let some = some_tag in
        let at : nth (sound.chain n) i ≡ Some (tag_number last) = ap (λ (us : List ℕ). nth us i) chain_is ∙ nth_map tag_number ts i last (omega arith) ∙ ap (λ (u : TagParts). Some (tag_number u)) (sym is) in
        let long : length (sound.chain n) ≡ suc i = ap (λ (us : List ℕ). length us) chain_is ∙ length-map ts tag_number ∙ (let z : length ts ≡ suc i = omega arith in z) in
        let has = sound.contents n i (tag_number last) at in
        let ends_in = ends_last (sound.chain n) (sound.value n) None i (tag_number last) at long ∙ meta_tells p (sound.value n i) (im.body (home (tag_number last)) 0) has.0 (λ z q. has.1 0 z q) in
        (λ j. is_some (root j) && not (ends_in j)) ∙ not_not (eqb (im.body (home (tag_number last)) 0) tombstone)

    module _ (a b : Slots) (alive : dead n ≡ false) (r : AreRead p im sound n a) where
      -- none of its buffers is the root version of another slot
      apart : (x : ℕ) → stands_on (map tag_number ts) x ≡ true → is_root p im sound n x ≡ false
      apart x e = go (is_root p im sound n x) refl
        where
          go : (y : Bool) → is_root p im sound n x ≡ y → y ≡ false
          go false q = refl
          go true q = absurd (some_is ⊥ (λ (s : ℕ). not (dead s) && is_of (im.root s) x) n (λ s l f.
              let here = stands_at (sound.chain n) x (ap (λ (us : List ℕ). stands_on us x) chain_is ∙ e) in
              let there = stands_at (sound.chain s) x (of_stands im x (im.root s) (sound.chain s) (sound.walk s) (and_second (not (dead s)) (is_of (im.root s) x) f)) in
              let same = (sound.once s n there.0 here.0 there.1 here.1 there.2 here.2 (here.3 ∙ sym there.3)).0 in omega arith) q)

      pub read_kept : (k : List ℕ) → n < p.slots → b.stores.items ≡ a.stores.items → length b.marks.items ≡ length a.marks.items
          → ((q : ℕ) → q < p.nodes * p.buffers → get_or b.marks.items q Free ≡ cond (eqb (home (tag_number t)) (number_at p q)) Bound (cond (stands_on (map tag_number ts) (number_at p q)) Out (get_or a.marks.items q Free)))
          → IsKey k → Spells (im.key n) k → IsDirectory a.directory → b.directory ≡ with_binding a.directory n k t → AreRead p im sound (n + 1) b
      read_kept k slot es el em ik sp dir ed =
          let kept_here : root2 n ≡ Some (tag_number t) = ap (λ (y : Bool). cond y None (im.root n)) alive ∙ root in
          let list : b.directory.list ≡ a.directory.list ++ (n, k) ∷ [] = ap (λ (d : Bindings). d.list) ed in
          subst (λ (m : ℕ). AreRead p im sound m b) (one_more n) (record {
            stores = ap (λ (xs : List _). map store_of xs) es ∙ r.stores ∙ sym (clears_more dead 0 n n (omega arith) ∙ ap (λ (y : Bool). clears dead 0 n ++ clear_if y n) alive ∙ append-nil (clears dead 0 n));
            sized = el ∙ r.sized;
            marks = λ q h.
                let x : ℕ = number_at p q in
                em q h
                ∙ ap (λ (m : Place). cond (eqb (home (tag_number t)) x) Bound (cond (stands_on (map tag_number ts) x) Out m)) (r.marks q h)
                ∙ marks_next (eqb (home (tag_number t)) x) (stands_on (map tag_number ts) x) (is_root p im sound n x) (is_chained p im sound n x) (apart x)
                ∙ sym (λ i. cond ((not (alive i) && is_of (root i) x) || is_root p im sound n x) Bound (cond ((not (alive i) && stands_on (chain_is i) x) || is_chained p im sound n x) Out Free));
            pool = ap (λ (d : Bindings). d.pool) ed ∙ r.pool;
            list = subst (λ (l : List (ℕ × List ℕ)). AreBindings (kept_image p im sound) 0 (suc n) l) (sym list) (bind_some (kept_image p im sound) 0 n n a.directory.list k (omega arith) r.list (λ q. absurd (let z : Some (tag_number t) ≡ None = sym kept_here ∙ q in cc)) ik sp);
            roots = λ s. ap (λ (d : Bindings). option_map tag_number (root_of d s)) ed ∙ dite (ℕ_discrete s n)
                (λ q. ap (option_map tag_number) (get_or-set_at a.directory.roots n s (Some t) None q (let z = dir.sized ∙ ap (λ (o : Pool). o.slots) r.pool in omega arith)) ∙ sym kept_here ∙ sym (ap root2 q) ∙ sym (ap (λ (y : Bool). cond y (root2 s) None) (test_below s (suc n) (omega arith))))
                (λ q. ap (option_map tag_number) (get_or-set_other a.directory.roots n s (Some t) None q) ∙ r.roots s ∙ sym (shown_else n s q));
            count = ap (λ (l : List (ℕ × List ℕ)). length l) list ∙ length-append a.directory.list ((n, k) ∷ []) ∙ (let z : length a.directory.list + 1 ≡ suc (length a.directory.list) = omega arith in z) ∙ ap suc r.count
                ∙ sym (λ i. cond (is_some (root i) && not (alive i)) (suc (how_many kept n)) (how_many kept n));
          })

  -- no binding of the slots below n is of slot n, or has its key
  pub not_bound : (n : ℕ) (d : Bindings) → AreBindings (kept_image p im sound) 0 n d.list → IsBound n d → ⊥
  not_bound n d a b = let r = binding_of (kept_image p im sound) 0 n n b.0 d.list a b.1 in let l = r.below in omega arith

  pub not_named : (n t : ℕ) (k : List ℕ) (list : List (ℕ × List ℕ)) → AreBindings (kept_image p im sound) 0 n list → im.root n ≡ Some t → Spells (im.key n) k → IsNew k list
  not_named n t k list a e sp s w =
      let r = binding_of (kept_image p im sound) 0 n s k list a w in
      go r (im.root s) refl
    where
      go : IsBindingOf (kept_image p im sound) (0 + n) s k → (x : Option ℕ) → im.root s ≡ x → ⊥
      go r None q = r.root (none_cond (dead s) (im.root s) q)
      go r (Some u) q = let same = sound.same n s t u k e q r.key sp r.spells in let l = r.below in omega arith

  -- no slot was read
  pub read_none : (a : Slots) → a.stores.items ≡ [] → a.marks.items ≡ replicate (p.nodes * p.buffers) Free → a.directory ≡ nothing_bound p → AreRead p im sound 0 a
  read_none a es em ed = record {
    stores = ap (λ (xs : List _). map store_of xs) es;
    sized = ap (λ (ms : List Place). length ms) em ∙ length-replicate (p.nodes * p.buffers) Free;
    marks = λ q h. ap (λ (ms : List Place). get_or ms q Free) em ∙ get_or-replicate (p.nodes * p.buffers) q Free Free h;
    pool = ap (λ (d : Bindings). d.pool) ed;
    list = ap (λ (d : Bindings). d.list) ed;
    roots = λ s. ap (λ (d : Bindings). option_map tag_number (root_of d s)) ed ∙ ap (option_map tag_number) (no_root s) ∙ sym (ap (λ (y : Bool). cond y (root2 s) None) (above s 0 (omega arith)));
    count = ap (λ (d : Bindings). length d.list) ed;
  }
    where
      no_root : (s : ℕ) → root_of (nothing_bound p) s ≡ None
      no_root s = dite (dec_le (suc s) p.slots) (λ d. get_or-replicate p.slots s None None d) (λ d. get_or_past (replicate p.slots None) s None (let l = length-replicate {A = Option TagParts} p.slots None in omega arith))

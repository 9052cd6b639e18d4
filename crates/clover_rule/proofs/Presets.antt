-- The rule holds of the preset pool.
use Rattle.std.proofs.Common.{◌≡◌, ℕ, zero, suc, ◌+◌, ◌<◌, List, [], ◌∷◌, length, Bool, true, false, cond, eqb, ltb, ◌&&◌, refl, sym, ap, ◌∙◌, inl, inr, ⊎_elim, arith, subst, eq-eqb, ne_eqb, eqb-true}
use native.Mathlib.Decide.{ℕ_discrete, dec_le}
use mathlib.Core.Logic.{dite}
use Rattle.std.specs.Prelude.{Option, Some, None}
use Rattle.clover_words.specs.declared.pool.Pool.{Pool}
use Rattle.clover_words.specs.Tag.{home, age}
use Rattle.std.specs.FinMap.{get}
use Rattle.clover_map.specs.Tagged.{Tagged}
use Rattle.clover_rule.specs.Content.{Spells, InRange, inside}
use Rattle.std.specs.Str.{bytes_eq}
use Rattle.clover_rule.specs.History.{ends}
use Rattle.clover_rule.specs.Image.{Image, Chain}
use Rattle.clover_rule.specs.Lists.{nth, Within}
use Rattle.clover_rule.specs.Meets.{InStocks}
use Rattle.clover_rule.specs.Memory.{Mem, word}
use Rattle.clover_rule.specs.Opening.{Opens, Owners}
use Rattle.clover_rule.specs.Preset.{PresetWords, PresetKeys, PresetViews, PresetLaw, bindings_from}
use Rattle.clover_rule.specs.Server.{Whole}
use Rattle.clover_rule.specs.Sound.{Sound, versions_of}
use Rattle.clover_rule.specs.Story.{Chained, Stocked, Free, Worn}
use Rattle.clover_rule.specs.Words.{mem_of}
use Rattle.clover_rule.specs.declared.view.View.{View}
use Rattle.clover_rule.proofs.Tools.{nth_some, nth_none}
use Rattle.clover_rule.proofs.Keys.{key_discrete, eq_key, ne_key}
use Rattle.clover_rule.proofs.Spelling.{dead_word, one_key}
use Rattle.clover_rule.proofs.Opening.{opened, open_whole, placed, rest_place}
use Rattle.clover_rule.proofs.TwelveParts.{rule_holds}

-- the first slot with a key
position : List ℕ → ℕ → List (List ℕ) → ℕ
position k s [] = s
position k s (j ∷ ks) = cond (bytes_eq j k) s (position k (suc s) ks)

position_here : (keys : List (List ℕ)) (k : List ℕ) (s n : ℕ) → ((r : ℕ) → nth keys r ≡ Some k → r ≡ n) → nth keys n ≡ Some k → position k s keys ≡ n + s
unfolding position
position_here [] k s n f e = absurd cc
position_here (j ∷ ks) k s n f e = go (key_discrete j k) n f e (λ m g z. position_here ks k (suc s) m g z)
  where
    go : Dec (j ≡ k) → (n : ℕ) → ((r : ℕ) → nth (j ∷ ks) r ≡ Some k → r ≡ n) → nth (j ∷ ks) n ≡ Some k → ((m : ℕ) → ((r : ℕ) → nth ks r ≡ Some k → r ≡ m) → nth ks m ≡ Some k → position k (suc s) ks ≡ m + suc s) → cond (bytes_eq j k) s (position k (suc s) ks) ≡ n + s
    go (yes d) n f e rest = ap (λ (b : Bool). cond b s (position k (suc s) ks)) (eq_key j k d) ∙ (let z : 0 ≡ n = f 0 (ap Some d) in omega arith)
    go (no d) zero f e rest = absurd (d (let z : Some j ≡ Some k = e in cc))
    go (no d) (suc n) f e rest = ap (λ (b : Bool). cond b s (position k (suc s) ks)) (ne_key j k d) ∙ rest n (λ r z. let q = f (suc r) z in omega arith) e ∙ (let q : n + suc s ≡ suc n + s = omega arith in q)

within_bindings : (keys : List (List ℕ)) (n s : ℕ) (k : List ℕ) → Within (s, k) (bindings_from n keys) → (i : ℕ) × (nth keys i ≡ Some k) × (i + n ≡ s)
within_bindings [] n s k w = absurd w
within_bindings (j ∷ ks) n s k w = ⊎_elim (λ q. (0, ap Some (ap (λ (x : ℕ × List ℕ). x.1) q), let z : n ≡ s = ap (λ (x : ℕ × List ℕ). x.0) q in omega arith)) (λ q. let r = within_bindings ks (suc n) s k q in (suc r.0, r.1, let z = r.2 in omega arith)) w

binding_at : (keys : List (List ℕ)) (n i s : ℕ) (k : List ℕ) → nth (bindings_from n keys) i ≡ Some (s, k) → i + n ≡ s
binding_at [] n i s k e = absurd cc
binding_at (x ∷ ks) n zero s k e = let z : n ≡ s = ap slot_in e in omega arith
  where
    slot_in : Option (ℕ × List ℕ) → ℕ
    slot_in None = 0
    slot_in (Some q) = q.0
binding_at (x ∷ ks) n (suc i) s k e = let r = binding_at ks (suc n) i s k e in omega arith

bindings_within : (keys : List (List ℕ)) (n i : ℕ) (k : List ℕ) → nth keys i ≡ Some k → Within (i + n, k) (bindings_from n keys)
bindings_within [] n i k e = absurd cc
bindings_within (j ∷ ks) n zero k e = inl (let q : j ≡ k = (let z : Some j ≡ Some k = e in cc) in let z : n ≡ 0 + n = omega arith in cc)
bindings_within (j ∷ ks) n (suc i) k e = inr (subst (λ (z : ℕ). Within (z, k) (bindings_from (suc n) ks)) (let z : i + suc n ≡ suc i + n = omega arith in z) (bindings_within ks (suc n) i k e))

bindings_length : (keys : List (List ℕ)) (n : ℕ) → length (bindings_from n keys) ≡ length keys
bindings_length [] n = refl
bindings_length (k ∷ ks) n = ap suc (bindings_length ks (suc n))

-- the slot whose tombstone is in a buffer
spot_of : (ℕ → ℕ) → ℕ → ℕ → Option (ℕ × ℕ)
spot_of tomb zero b = None
spot_of tomb (suc n) b = cond (eqb (home (tomb n)) b) (Some (n, 0)) (spot_of tomb n b)

spot_there : (tomb : ℕ → ℕ) (n b s i : ℕ) → spot_of tomb n b ≡ Some (s, i) → (s < n) × (i ≡ 0) × (home (tomb s) ≡ b)
unfolding spot_of
spot_there tomb zero b s i e = absurd cc
spot_there tomb (suc n) b s i e = go (eqb (home (tomb n)) b) refl e (λ z. spot_there tomb n b s i z)
  where
    go : (x : Bool) → eqb (home (tomb n)) b ≡ x → cond x (Some (n, 0)) (spot_of tomb n b) ≡ Some (s, i) → (spot_of tomb n b ≡ Some (s, i) → (s < n) × (i ≡ 0) × (home (tomb s) ≡ b)) → (s < suc n) × (i ≡ 0) × (home (tomb s) ≡ b)
    go true q f rest = let a : n ≡ s = ap slot f in (omega arith, sym (ap rank f), ap (λ (z : ℕ). home (tomb z)) (sym a) ∙ eqb-true (home (tomb n)) b q)
      where
        slot : Option (ℕ × ℕ) → ℕ
        slot None = 0
        slot (Some p) = p.0

        rank : Option (ℕ × ℕ) → ℕ
        rank None = 0
        rank (Some p) = p.1
    go false q f rest = let a = rest f in (let z = a.0 in omega arith, a.1, a.2)

spot_here : (tomb : ℕ → ℕ) (n s : ℕ) → s < n → ((r : ℕ) → r < n → home (tomb r) ≡ home (tomb s) → r ≡ s) → spot_of tomb n (home (tomb s)) ≡ Some (s, 0)
unfolding spot_of
spot_here tomb zero s h f = absurd (omega arith)
spot_here tomb (suc n) s h f = go (ℕ_discrete (home (tomb n)) (home (tomb s))) (λ b. spot_here tomb n s b (λ r z. f r (omega arith)))
  where
    go : Dec (home (tomb n) ≡ home (tomb s)) → (s < n → spot_of tomb n (home (tomb s)) ≡ Some (s, 0)) → cond (eqb (home (tomb n)) (home (tomb s))) (Some (n, 0)) (spot_of tomb n (home (tomb s))) ≡ Some (s, 0)
    go (yes d) rest = ap (λ (b : Bool). cond b (Some (n, 0)) (spot_of tomb n (home (tomb s)))) (eq-eqb (home (tomb n)) (home (tomb s)) d) ∙ ap (λ (z : ℕ). Some (z, 0)) (f n (omega arith) d)
    go (no d) rest = ap (λ (b : Bool). cond b (Some (n, 0)) (spot_of tomb n (home (tomb s)))) (ne_eqb (home (tomb n)) (home (tomb s)) d) ∙ rest (dite (ℕ_discrete s n) (λ e. absurd (d (ap (λ (z : ℕ). home (tomb z)) (sym e)))) (λ e. omega arith))

abbrev root_chain : Option ℕ → List ℕ
root_chain None = []
root_chain (Some t) = t ∷ []

module _ (p : Pool) (keys : List (List ℕ)) (tomb : ℕ → ℕ) (m : Mem) (w : PresetWords p keys tomb m) (k : PresetKeys p keys tomb) (first : Tagged) (empty : (q : List ℕ) → get first q ≡ None) where
  abbrev pub im : Image
  im = record { next = λ (b : ℕ). word 0 None; root = m.root; body = m.body; key = m.key }

  -- a root is a tombstone
  root_is : (s t : ℕ) → m.root s ≡ Some t → (s < length keys) × (t ≡ tomb s)
  root_is s t e = dite (dec_le (suc s) (length keys)) (λ d. (d, let z : Some t ≡ Some (tomb s) = sym e ∙ (w.rooted s d).0 in cc)) (λ n. absurd (let z : ◌≡◌ {A = Option ℕ} None (Some t) = sym (w.unrooted s (omega arith)).0 ∙ e in cc))

  key_at : (s t : ℕ) → m.root s ≡ Some t → (j : List ℕ) × (nth keys s ≡ Some j)
  key_at s t e = nth_some keys s (root_is s t e).0

  spells : (s : ℕ) (j : List ℕ) → nth keys s ≡ Some j → Spells (m.key s) j
  spells s j e i x q = w.key s i x j e q

  young_root : (s t : ℕ) → m.root s ≡ Some t → age t ≡ 0
  young_root s t e = let r = root_is s t e in ap age r.1 ∙ k.young s r.0

  range : (s t : ℕ) → m.root s ≡ Some t → InRange p t
  range s t e = let r = root_is s t e in (ap (λ (z : ℕ). inside p (home z)) r.1 ∙ k.in_pool s r.0, let z = young_root s t e in let y = p.some_wear in omega arith)

  walks : (s : ℕ) (x : Option ℕ) → m.root s ≡ x → Chain im x (root_chain x)
  walks s None e = tt
  walks s (Some t) e = (refl, sym (young_root s t e), tt)

  first_is : (x : Option ℕ) (i t : ℕ) → nth (root_chain x) i ≡ Some t → (x ≡ Some t) × (i ≡ 0)
  first_is None i t e = absurd cc
  first_is (Some u) zero t e = (e, refl)
  first_is (Some u) (suc i) t e = absurd cc

  pub sound : Sound p im
  sound = record {
    own = λ b. omega arith;
    target = λ b t e. absurd cc;
    root = range;
    key = λ s t e. let a = key_at s t e in (a.0, k.keys_are s a.0 a.1, spells s a.0 a.1);
    same = λ s1 s2 t1 t2 j e1 e2 ik q1 q2. let a = key_at s1 t1 e1 in let b = key_at s2 t2 e2 in
        k.differ s2 s1 j (b.1 ∙ ap Some (one_key (m.key s2) b.0 j (k.keys_are s2 b.0 b.1) ik (spells s2 b.0 b.1) q2)) (a.1 ∙ ap Some (one_key (m.key s1) a.0 j (k.keys_are s1 a.0 a.1) ik (spells s1 a.0 a.1) q1));
    chain = λ (s : ℕ). root_chain (m.root s);
    walk = λ s. walks s (m.root s) refl;
    once = λ s1 s2 i1 i2 t1 t2 e1 e2 q. let a = first_is (m.root s1) i1 t1 e1 in let b = first_is (m.root s2) i2 t2 e2 in let c = root_is s1 t1 a.0 in let d = root_is s2 t2 b.0 in
        (k.apart s2 s1 d.0 c.0 (ap home (sym d.1) ∙ q ∙ ap home c.1), b.1 ∙ sym a.1);
    value = λ (s i : ℕ). None;
    contents = λ s i t e. let a = first_is (m.root s) i t e in let c = root_is s t a.0 in (tt, λ j y q. let d = dead_word j y q in ap (m.body (home t)) d.0 ∙ ap (λ (z : ℕ). m.body (home z) 0) c.1 ∙ w.body s c.0 ∙ sym d.1);
    inside = λ s t e. let c = root_is s t e in let z = c.0 in let y = k.room in omega arith;
  }

  root_at : (s : ℕ) → s < length keys → m.root s ≡ Some (tomb s)
  root_at s h = (w.rooted s h).0

  same_root : (s : ℕ) → m.froot s ≡ m.root s
  same_root s = dite (dec_le (suc s) (length keys)) (λ d. (w.rooted s d).1 ∙ sym (w.rooted s d).0) (λ n. (w.unrooted s (omega arith)).1 ∙ sym (w.unrooted s (omega arith)).0)

  no_spot : (b : ℕ) → spot_of tomb (length keys) b ≡ None → (s : ℕ) → s < length keys → home (tomb s) ≡ b → ⊥
  no_spot b e s h q = let z : ◌≡◌ {A = Option (ℕ × ℕ)} None (Some (s, 0)) = sym e ∙ ap (spot_of tomb (length keys)) (sym q) ∙ spot_here tomb (length keys) s h (λ r l d. k.apart r s l h d) in absurd cc

  dead_ends : (s : ℕ) (x : Option ℕ) → ends None (versions_of (root_chain x) (λ (i : ℕ). None)) ≡ None
  dead_ends s None = refl
  dead_ends s (Some t) = refl

  pub opens : Opens p im sound first [] m
  unfolding sound
  opens = record {
    next = λ b. w.next b;
    root = λ s. (refl, same_root s);
    body = λ b j. (refl, w.bodies b j);
    key = λ s j. (refl, w.flushed_keys s j);
    short = w.short;
    spot = λ (b : ℕ). spot_of tomb (length keys) b;
    on = λ s i t e. let a = first_is (m.root s) i t e in let c = root_is s t a.0 in
        ap (λ (z : ℕ). spot_of tomb (length keys) (home z)) c.1 ∙ spot_here tomb (length keys) s c.0 (λ r l d. k.apart r s l c.0 d) ∙ ap (λ (z : ℕ). Some (s, z)) (sym a.1);
    from = λ b s i e. let a = spot_there tomb (length keys) b s i e in (tomb s, ap (λ (x : Option ℕ). nth (root_chain x) i) (root_at s a.0) ∙ ap (nth (tomb s ∷ [])) a.1, a.2);
    off = λ b e. refl;
    keys = λ (s : ℕ). nth keys s;
    keyed = λ s t e. let a = key_at s t e in (a.0, a.1, spells s a.0 a.1);
    valid = k.keys_are;
    bare = λ s e. nth_none keys s (dite (dec_le (suc s) (length keys)) (λ d. absurd (let z : ◌≡◌ {A = Option ℕ} None (Some (tomb s)) = sym e ∙ root_at s d in cc)) (λ n. omega arith));
    bindings = bindings_from 0 keys;
    listed = λ s j e. subst (λ (z : ℕ). Within (z, j) (bindings_from 0 keys)) (let z : s + 0 ≡ s = omega arith in z) (bindings_within keys 0 s j e);
    bound = λ s j e. let a = within_bindings keys 0 s j e in ap (nth keys) (let z = a.2 in let y : s ≡ a.0 = omega arith in y) ∙ a.1;
    once = λ i j s a b e f. let x = binding_at keys 0 i s a e in let y = binding_at keys 0 j s b f in omega arith;
    count = w.count ∙ sym (bindings_length keys 0);
    slot_named = λ (j : List ℕ). position j 0 keys;
    found = λ s j e. position_here keys j 0 s (λ r z. k.differ r s j z e) e ∙ (let z : s + 0 ≡ s = omega arith in z);
    map_is = λ s j e. dead_ends s (m.root s) ∙ sym (empty j);
    map_else = λ j e. empty j;
    used_is = tt;
  }

  module _ (owner : ℕ → Option ℕ) (vs : List View) (v : PresetViews p keys tomb owner m vs) where
    pub owners : Owners p im opens.spot owner
    unfolding opens
    owners = record {
      off = λ b i e. none b (spot_of tomb (length keys) b) refl i e;
      in_pool = v.in_pool;
      young = λ b i e. let z = p.some_wear in omega arith;
    }
      where
        none : (b : ℕ) (x : Option (ℕ × ℕ)) → spot_of tomb (length keys) b ≡ x → (i : ℕ) → owner b ≡ Some i → spot_of tomb (length keys) b ≡ None
        none b None q i e = q
        none b (Some (s, j)) q i e = let a = spot_there tomb (length keys) b s j q in absurd (v.off b i e s a.0 a.2)

    pub preset_whole : Whole p first [] m vs (opened p im sound first [] m opens owner owners) []
    unfolding opens
    preset_whole = open_whole p im sound first [] m opens owner owners vs v.starts v.numbered v.some (λ i y e q. absurd (v.unserved i y e q)) (λ i j y z e f q g. absurd (v.unserved i y e q)) (λ i j n y z e f q g. absurd (v.unserved i y e q))

    pub preset_stocks : InStocks vs (opened p im sound first [] m opens owner owners)
    unfolding opens
    preset_stocks b i e = go (spot_of tomb (length keys) b) (owner b) (inside p b && ltb 0 p.wear) refl e
      where
        go : (x : Option (ℕ × ℕ)) (y : Option ℕ) (t : Bool) → owner b ≡ y → placed x (rest_place y t) ≡ Stocked i → (z : View) × (nth vs i ≡ Some z) × (u : ℕ) × Within u z.pass.stock × (home u ≡ b)
        go (Some q) y t f g = absurd (let z : Chained q.0 ≡ Stocked i = g in cc)
        go None (Some j) t f g = v.held b i (f ∙ ap Some (let z : Stocked j ≡ Stocked i = g in cc))
        go None None true f g = absurd (let z : Free ≡ Stocked i = g in cc)
        go None None false f g = absurd (let z : Worn ≡ Stocked i = g in cc)

pub preset_law : PresetLaw
preset_law p first ws vs keys tomb owner sized decodes same empty words ks views =
    rule_holds p first [] ws vs (opened p (im p keys tomb (mem_of p ws) words ks first empty) (sound p keys tomb (mem_of p ws) words ks first empty) first [] (mem_of p ws) (opens p keys tomb (mem_of p ws) words ks first empty) owner (owners p keys tomb (mem_of p ws) words ks first empty owner vs views)) []
    (record {
      sized = sized;
      decodes = decodes;
      same = same;
      still = λ i v e. ap (λ (z : View). z.plan) (sym (views.starts i v e).nothing);
      stocks = preset_stocks p keys tomb (mem_of p ws) words ks first empty owner vs views;
      whole = preset_whole p keys tomb (mem_of p ws) words ks first empty owner vs views;
    })

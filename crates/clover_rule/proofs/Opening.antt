-- After a restart the rule holds of the new run.
use Rattle.std.proofs.Common.{◌≡◌, ℕ, zero, suc, ◌<◌, ◌≤◌, ◌≢◌, ◌⊎◌, List, [], ◌∷◌, length, append-nil, Bool, true, false, ltb, refl, sym, ap, ◌∙◌, inl, inr, ⊎_elim, arith, subst, true≢false}
use Rattle.std.specs.Prelude.{Option, Some, None}
use Rattle.std.proofs.lemmas.Bool.{lt-ltb}
use Rattle.std.proofs.lemmas.Bool.Decides.{nat_tests}
use Rattle.clover_words.specs.Tag.{home, age}
use Rattle.clover_map.specs.declared.bytes.Value.{Value}
use Rattle.clover_map.specs.Tagged.{Tagged}
use Rattle.clover_rule.specs.Content.{content, InRange, Spells, inside, Fits}
use Rattle.clover_rule.specs.History.{Version}
use Rattle.clover_rule.specs.Image.{Image, Chain}
use Rattle.clover_rule.specs.Lists.{Within, nth}
use Rattle.clover_rule.specs.Memory.{word, gen, link, Mem}
use Rattle.clover_rule.specs.Opening.{Owners, Starts, Opens}
use Rattle.clover_rule.specs.Server.{Serves, Ready, Help, Whole}
use Rattle.clover_rule.specs.Sound.{Sound, versions_of}
use Rattle.clover_rule.specs.Story.{Stocked, Place, Chained, Free, Worn, Taken, Loose, Story, tag_in_version, tag_at, now_at, Core, Tale, Standing, only}
use Rattle.clover_rule.specs.Views.{Owned, OwnCalls, ViewOk, Numbered, Spent}
use Rattle.clover_rule.specs.declared.view.Role.{Role}
use Rattle.clover_rule.specs.declared.view.Role.TheVariants.{Client, Serving, Granting, Noting, Joined, Restarting}
use Rattle.clover_rule.specs.declared.view.ServerTask.TheVariants.{Idle}
use Rattle.clover_rule.specs.declared.view.View.{View}
use Rattle.clover_words.specs.declared.pool.Pool.{Pool}
use Rattle.clover_rule.proofs.Tools.{nth_within, each_both}
use Rattle.clover_rule.proofs.Standings.{tag_within, word_is}
use Rattle.clover_rule.proofs.Steps.{each_map}
use Rattle.std.specs.Prelude.{◌&&◌}

versions_at : (ts : List ℕ) (f : ℕ → Option Value) (i : ℕ) (w : Version) → nth (versions_of ts f) i ≡ Some w → (nth ts i ≡ Some w.tag) × (w.value ≡ f i)
versions_at [] f i w e = absurd cc
versions_at (t ∷ ts) f zero w e = let z : record { tag = t; value = f zero } ≡ w = cc in (ap (λ (x : Version). Some x.tag) z, ap (λ (x : Version). x.value) (sym z))
versions_at (t ∷ ts) f (suc i) w e = versions_at ts (λ (j : ℕ). f (suc j)) i w e

pub versions_tag : (ts : List ℕ) (f : ℕ → Option Value) (i : ℕ) → tag_in_version (nth (versions_of ts f) i) ≡ nth ts i
versions_tag [] f i = refl
versions_tag (t ∷ ts) f zero = refl
versions_tag (t ∷ ts) f (suc i) = versions_tag ts (λ (j : ℕ). f (suc j)) i

chain_link : (im : Image) (us : List ℕ) (x : Option ℕ) → Chain im x us → (i t : ℕ) → nth us i ≡ Some t → (gen (im.next (home t)) ≡ age t) × (link (im.next (home t)) ≡ nth us (suc i))
chain_link im [] x c i t e = absurd cc
chain_link im (u ∷ us) None c i t e = absurd c
chain_link im (u ∷ us) (Some y) c zero t e = let z : y ≡ t = let z1 : u ≡ t = cc in c.0 ∙ z1 in (ap (λ (a : ℕ). gen (im.next (home a))) (sym z) ∙ c.1 ∙ ap age z, ap (λ (a : ℕ). link (im.next (home a))) (sym z) ∙ head us (link (im.next (home y))) c.2)
  where
    head : (vs : List ℕ) (o : Option ℕ) → Chain im o vs → o ≡ nth vs zero
    head [] None c = refl
    head [] (Some a) c = absurd c
    head (b ∷ vs) None c = absurd c
    head (b ∷ vs) (Some a) c = ap Some c.0
chain_link im (u ∷ us) (Some y) c (suc i) t e = chain_link im us (link (im.next (home y))) c.2 i t e

pub chain_head : (im : Image) (us : List ℕ) (x : Option ℕ) → Chain im x us → x ≡ nth us zero
chain_head im [] None c = refl
chain_head im [] (Some a) c = absurd c
chain_head im (u ∷ us) None c = absurd c
chain_head im (u ∷ us) (Some a) c = ap Some c.0

abbrev pub rest_place : Option ℕ → Bool → Place
rest_place (Some i) t = Stocked i
rest_place None true = Free
rest_place None false = Worn

abbrev pub placed : Option (ℕ × ℕ) → Place → Place
placed (Some p) q = Chained p.0
placed None q = q

abbrev pub slot_in : Option (ℕ × ℕ) → ℕ
slot_in None = 0
slot_in (Some p) = p.0

abbrev pub rank_in : Option (ℕ × ℕ) → ℕ
rank_in None = 0
rank_in (Some p) = p.1

abbrev pub has : Option (List ℕ) → Bool
has None = false
has (Some x) = true

module _ (l : Pool) (im : Image) (sound : Sound l im) (m0 : Tagged) (used : List ℕ) (m : Mem) (o : Opens l im sound m0 used m) (owner : ℕ → Option ℕ) (own : Owners l im o.spot owner) where
  abbrev ready_test : ℕ → Bool
  ready_test b = inside l b && ltb (gen (im.next b)) l.wear

  abbrev pub opened : Story
  opened = record {
    log = λ (s : ℕ). versions_of (sound.chain s) (sound.value s);
    gone = λ (s : ℕ). 0;
    sure = λ (s : ℕ). length (versions_of (sound.chain s) (sound.value s));
    slot_of = λ (t : ℕ). slot_in (o.spot (home t));
    rank = λ (t : ℕ). rank_in (o.spot (home t));
    place = λ (b : ℕ). placed (o.spot b) (rest_place (owner b) (ready_test b));
    lead = λ (s : ℕ). 0;
    flead = λ (s : ℕ). 0;
    named = λ (s : ℕ). has (o.keys s);
    keys = o.keys;
    first = λ (s : ℕ). versions_of (sound.chain s) (sound.value s);
    bindings = o.bindings;
    task = Idle;
    slot_named = o.slot_named;
  }

  on_chain : (s i t : ℕ) → tag_at opened s i ≡ Some t → nth (sound.chain s) i ≡ Some t
  on_chain s i t e = sym (versions_tag (sound.chain s) (sound.value s) i) ∙ e

  at_chain : (s i t : ℕ) → tag_at opened s i ≡ Some t → Standing m opened s i t
  at_chain s i t e =
      let a = on_chain s i t e in
      let c = chain_link im (sound.chain s) (im.root s) (sound.walk s) i t a in
      let n : im.next (home t) ≡ now_at opened s i t = word_is (im.next (home t)) (age t) (tag_at opened s (suc i)) c.0 (c.1 ∙ sym (versions_tag (sound.chain s) (sound.value s) (suc i))) in
      record {
        placed = ap (λ (p : Option (ℕ × ℕ)). placed p (rest_place (owner (home t)) (ready_test (home t)))) (o.on s i t a);
        now = (o.next (home t)).0 ∙ n;
        safe = (o.next (home t)).1 ∙ n ∙ ap (word (age t)) (keep (tag_at opened s (suc i)) refl);
      }
    where
      keep : (x : Option ℕ) → tag_at opened s (suc i) ≡ x → tag_at opened s (suc i) ≡ only (ltb (suc i) (opened.sure s)) (tag_at opened s (suc i))
      keep None q = rw q (sym (none (ltb (suc i) (opened.sure s))))
        where
          none : (b : Bool) → ◌≡◌ {A = Option ℕ} (only b None) None
          none true = refl
          none false = refl
      keep (Some u) q = let z = tag_within opened s (suc i) u q in sym (ap (λ (b : Bool). only b (tag_at opened s (suc i))) (lt-ltb (suc i) (opened.sure s) z))

  off_chain : (b : ℕ) → Loose (opened.place b) → o.spot b ≡ None
  off_chain b f = go (o.spot b) f
    where
      go : (x : Option (ℕ × ℕ)) → Loose (placed x (rest_place (owner b) (ready_test b))) → x ≡ None
      go None f = refl
      go (Some p) f = absurd f

  never_held : (b : ℕ) → opened.place b ≢ Taken
  never_held b = go (o.spot b) (owner b) (ready_test b)
    where
      go : (x : Option (ℕ × ℕ)) (y : Option ℕ) (t : Bool) → placed x (rest_place y t) ≢ Taken
      go (Some p) y t e = absurd cc
      go None (Some i) t e = absurd cc
      go None None true e = absurd cc
      go None None false e = absurd cc

  chained_at : (b s : ℕ) → opened.place b ≡ Chained s → (i : ℕ) × (t : ℕ) × (tag_at opened s i ≡ Some t) × (0 ≤ i) × (home t ≡ b)
  chained_at b s e = go (o.spot b) refl e
    where
      go : (x : Option (ℕ × ℕ)) → o.spot b ≡ x → placed x (rest_place (owner b) (ready_test b)) ≡ Chained s → (i : ℕ) × (t : ℕ) × (tag_at opened s i ≡ Some t) × (0 ≤ i) × (home t ≡ b)
      go (Some (s1, i)) q f = let z : s1 ≡ s = cc in let a = o.from b s1 i q in (i, a.0, ap (λ (x : ℕ). tag_at opened x i) (sym z) ∙ versions_tag (sound.chain s1) (sound.value s1) i ∙ a.1, omega arith, a.2)
      go None q f = absurd (none (owner b) (ready_test b) f)
        where
          none : (y : Option ℕ) (t : Bool) → rest_place y t ≢ Chained s
          none (Some i) t g = absurd cc
          none None true g = absurd cc
          none None false g = absurd cc

  pub open_core : Core m opened
  open_core = record {
    spotted = λ s i t e. let a = o.on s i t (on_chain s i t e) in (ap slot_in a, ap rank_in a);
    passed = λ s i t e g. absurd (omega arith);
    standing = λ s i t e g. at_chain s i t e;
    sure_most = λ s. omega arith;
    sure_all = λ s. omega arith;
    rooted = λ s q. q;
    bare = λ s q. refl;
    led = λ s. (omega arith, omega arith, omega arith);
    root = λ s. (o.root s).0 ∙ chain_head im (sound.chain s) (im.root s) (sound.walk s) ∙ sym (versions_tag (sound.chain s) (sound.value s) 0);
    froot = λ s. inl ((o.root s).1 ∙ chain_head im (sound.chain s) (im.root s) (sound.walk s) ∙ sym (versions_tag (sound.chain s) (sound.value s) 0));
    loose = λ b f. (ap link (o.next b).0 ∙ o.off b (off_chain b f), (o.next b).1 ∙ sym (o.next b).0);
    held = λ b f. absurd (never_held b f);
    chained = λ b s e. chained_at b s e;
  }

  -- a slot is bound exactly where it has a root
  root_case : (s : ℕ) → ((o.keys s ≡ None) × (im.root s ≡ None)) ⊎ ((k : List ℕ) × (t : ℕ) × (o.keys s ≡ Some k) × (im.root s ≡ Some t) × Spells (im.key s) k)
  root_case s = go (im.root s) refl
    where
      go : (x : Option ℕ) → im.root s ≡ x → ((o.keys s ≡ None) × (im.root s ≡ None)) ⊎ ((k : List ℕ) × (t : ℕ) × (o.keys s ≡ Some k) × (im.root s ≡ Some t) × Spells (im.key s) k)
      go None e = inl (o.bare s e, e)
      go (Some t) e = let a = o.keyed s t e in inr (a.0, t, a.1, e, a.2)

  bound_root : (s : ℕ) (k : List ℕ) → o.keys s ≡ Some k → (t : ℕ) × (im.root s ≡ Some t) × Spells (im.key s) k
  bound_root s k e = ⊎_elim (λ a. absurd (cc (a.0, e))) (λ a. let z : a.0 ≡ k = let z1 : Some a.0 ≡ Some k = sym a.2 ∙ e in cc in (a.1, a.3, subst (Spells (im.key s)) z a.4)) (root_case s)

  none_chain : (s : ℕ) → im.root s ≡ None → length (opened.log s) ≡ 0
  none_chain s e = go (sound.chain s) (subst (λ (x : Option ℕ). Chain im x (sound.chain s)) e (sound.walk s)) (sound.value s)
    where
      go : (us : List ℕ) → Chain im None us → (f : ℕ → Option Value) → length (versions_of us f) ≡ 0
      go [] c f = refl
      go (u ∷ us) c f = absurd c

  pub open_help : Help l m opened
  open_help = record {
    ranged = record {
      tags = λ s i t e. let a = on_chain s i t e in range s i t a;
      own = λ b. let z = ap gen (o.next b).0 in let z1 = sound.own b in omega arith;
      below = λ b. let z = ap gen (o.next b).0 in let z1 = ap gen (o.next b).1 in omega arith;
      ready = λ b f. ready_of b (o.spot b) (owner b) (ready_test b) refl refl f;
      worn = λ b i f. worn_of b i (o.spot b) (owner b) (ready_test b) refl f;
      fits = λ s i w e. let a = versions_at (sound.chain s) (sound.value s) i w e in subst (Fits l) (sym a.1) (sound.contents s i w.tag a.0).0;
    };
    keyed = record {
      current = λ s k e j x q. (o.key s j).0 ∙ (bound_root s k e).2 j x q;
      flushed = λ s k e j x q. (o.key s j).1 ∙ (bound_root s k e).2 j x q;
      bare = λ s e. ⊎_elim (λ a. none_chain s a.1) (λ a. absurd (cc (a.2, e))) (root_case s);
      nameless = λ s e. ap has e;
      valid = o.valid;
      filled = λ s k e. let a = bound_root s k e in let b : tag_at opened s 0 ≡ Some a.0 = sym (open_core.root s) ∙ (o.root s).0 ∙ a.1 in tag_within opened s 0 a.0 b;
      slots = λ s k e. let a = bound_root s k e in sound.inside s a.0 a.1;
    };
    naming = record { counted = o.count; found = o.found; listed = λ s k e f. o.listed s k e; waiting = λ s k e f. absurd (true≢false (sym (ap has e) ∙ f)); once = o.once };
    stage = record { settled = λ s q. (refl, refl); holds = λ b e. absurd (never_held b e); names = λ s k e. inl (ap has e); here = tt };
    short = λ s t e. absurd (cc (o.short s, e));
  }
    where
      range : (s i t : ℕ) → nth (sound.chain s) i ≡ Some t → InRange l t
      range s zero t e = sound.root s t (chain_head im (sound.chain s) (im.root s) (sound.walk s) ∙ e)
      range s (suc i) t e = before (nth (sound.chain s) i) refl
        where
          short_list : (us : List ℕ) (i : ℕ) → nth us i ≡ None → nth us (suc i) ≡ None
          short_list [] i q = refl
          short_list (u ∷ us) zero q = absurd cc
          short_list (u ∷ us) (suc i) q = short_list us i q

          before : (x : Option ℕ) → nth (sound.chain s) i ≡ x → InRange l t
          before None q = absurd (cc (short_list (sound.chain s) i q, e))
          before (Some u) q = let c = chain_link im (sound.chain s) (im.root s) (sound.walk s) i u q in sound.target (home u) t (c.1 ∙ e)

      ready_of : (b : ℕ) (x : Option (ℕ × ℕ)) (y : Option ℕ) (t : Bool) → owner b ≡ y → ready_test b ≡ t → Ready (placed x (rest_place y t)) → (inside l b ≡ true) × (gen (m.next b) < l.wear)
      ready_of b (Some p) y t g e f = absurd f
      ready_of b None (Some i) t g e f = (own.in_pool b i g, let z = ap gen (o.next b).0 in let a = own.young b i g in omega arith)
      ready_of b None None false g e f = absurd f
      ready_of b None None true g e f = let z = ap gen (o.next b).0 in let a = both (inside l b) (gen (im.next b)) l.wear e in (a.0, let c = a.1 in omega arith)
        where
          both : (a : Bool) (c d : ℕ) → a && ltb c d ≡ true → (a ≡ true) × (c < d)
          both a c d q = grind (arith, nat_tests)

      worn_of : (b : ℕ) → inside l b ≡ true → (x : Option (ℕ × ℕ)) (y : Option ℕ) (t : Bool) → ready_test b ≡ t → placed x (rest_place y t) ≡ Worn → gen (m.next b) ≡ l.wear
      worn_of b i (Some p) y t e f = absurd cc
      worn_of b i None (Some j) t e f = absurd cc
      worn_of b i None None true e f = absurd cc
      worn_of b i None None false e f = let z = ap gen (o.next b).0 in let y = sound.own b in let a : l.wear ≤ gen (im.next b) = out (inside l b) (gen (im.next b)) l.wear i e in omega arith
        where
          out : (a : Bool) (c d : ℕ) → a ≡ true → a && ltb c d ≡ false → d ≤ c
          out a c d q e = grind (arith, nat_tests)

  pub open_tale : Tale opened m0 used []
  open_tale = record {
    legal = tt;
    told = λ s k e. sym (append-nil (opened.log s));
    began = o.map_is;
    unread = tt;
    settled = λ s i w e. nth_within (opened.log s) i w e;
    unbound = λ k f. (o.map_else k f, refl);
  }

  -- the rule of the new run, over views that begin it
  module _ (vs : List View) (starts : (i : ℕ) (v : View) → nth vs i ≡ Some v → Starts m o.bindings owner i v) (numbered : Numbered vs) (some : (i : ℕ) × (v : View) × (nth vs i ≡ Some v))
      (serves : (i : ℕ) (v : View) → nth vs i ≡ Some v → v.pass.role ≡ Serving → Serves l m opened Idle v.server)
      (one : (i j : ℕ) (v w : View) → nth vs i ≡ Some v → nth vs j ≡ Some w → v.pass.role ≡ Serving → w.pass.role ≡ Serving → i ≡ j)
      (made : (i j n : ℕ) (v w : View) → nth vs i ≡ Some v → nth vs j ≡ Some w → v.pass.role ≡ Serving → w.pass.role ≡ Client n → Within n v.server.clients) where
    in_stock : (i t : ℕ) → (owner (home t) ≡ Some i) × (gen (m.next (home t)) ≡ age t) → Owned m opened i t
    in_stock i t d = (ap (λ (x : Option (ℕ × ℕ)). placed x (rest_place (owner (home t)) (ready_test (home t)))) (own.off (home t) i d.0) ∙ ap (λ (y : Option ℕ). rest_place y (ready_test (home t))) d.0, d.1)

    none_own : (ro : Role) → OwnCalls ro [] []
    none_own (Client c) = refl
    none_own Serving = tt
    none_own Granting = tt
    none_own Noting = tt
    none_own Joined = tt
    none_own Restarting = tt

    view_starts : (i : ℕ) (v : View) → Starts m o.bindings owner i v → ViewOk m opened [] i v
    view_starts i v s = subst (ViewOk m opened [] i) s.nothing record {
      stocked = each_map (in_stock i) v.pass.stock s.stock;
      apart = s.apart;
      named = record { names = s.names; added = inl refl; most = s.most };
      history = ([], refl);
      calls = none_own v.pass.role;
      knows = record { durable = tt; links = tt; words = tt; copied = tt };
      written = tt;
      flushed = tt;
    }

    pub open_whole : Whole l m0 used m vs opened []
    open_whole = record {
      basis = record {
        core = open_core;
        tale = open_tale;
        bodies = λ s i w e g j y q. let a = versions_at (sound.chain s) (sound.value s) i w e in let b = (sound.contents s i w.tag a.0).1 j y (ap (λ (x : Option Value). nth (content x) j) (sym a.1) ∙ q) in ((o.body (home w.tag) j).0 ∙ b, (o.body (home w.tag) j).1 ∙ b);
        spent = each_both (Spent m opened) used [] (each_map (λ t d. ⊎_elim (λ a. inl (let z = ap gen (o.next (home t)).0 in omega arith)) (λ a. inr (a.0, ap (λ (p : Option (ℕ × ℕ)). placed p (rest_place (owner (home t)) (ready_test (home t)))) a.2, a.3 ∙ sym (ap gen (o.next (home t)).0))) d.1) used o.used_is) tt;
        bound = λ s k q. let a = o.bound s k q in (a, ap has a);
        keyed = λ s1 s2 k e f. sym (o.found s1 k e) ∙ o.found s2 k f;
        views = λ i y e. view_starts i y (starts i y e);
        numbered = numbered;
        longest = (some.0, some.1, some.2, ap (λ (y : View). y.pass.history) (sym (starts some.0 some.1 some.2).nothing));
      };
      help = open_help;
      serves = serves;
      one = one;
      safe = each_both (λ (t : ℕ). (age t < l.wear) × (age t ≤ gen (m.fnext (home t)))) used [] (each_map (λ t d. (d.0, let z = ap gen (o.next (home t)).1 in ⊎_elim (λ a. omega arith) (λ a. let b = a.3 in omega arith) d.1)) used o.used_is) tt;
      made = made;
      entered = λ i y e q. tt;
    }

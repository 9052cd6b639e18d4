-- The law of reopening: behind all stores of a restart a run may begin.
use Rattle.std.proofs.Common.{◌≡◌, ℕ, suc, ◌<◌, ◌≤◌, ◌≢◌, ◌⊎◌, ◌&&◌, List, [], ◌∷◌, length, Bool, true, false, cond, is_some, not, nat_lt, refl, sym, ap, ◌∙◌, inl, inr, arith, subst, true≢false}
use native.Mathlib.Decide.{ℕ_discrete, dec_le}
use mathlib.Core.Logic.{dite}
use mathlib.Core.Path.{fun_ext}
use Rattle.std.specs.Prelude.{Option, Some, None}
use Rattle.std.specs.FinMap.{get}
use Rattle.clover_words.specs.declared.pool.Pool.{Pool}
use Rattle.clover_words.specs.Place.{durable_words}
use Rattle.clover_words.specs.Tag.{home, age}
use Rattle.clover_map.specs.declared.bytes.Held.{Held}
use Rattle.clover_map.specs.Key.{IsKey}
use Rattle.clover_map.specs.Tagged.{Tagged}
use Rattle.clover_rule.specs.Content.{inside, Spells}
use Rattle.clover_rule.specs.Cut.{IsUsedIn, Rests, StandsFor, image_of}
use Rattle.clover_rule.specs.History.{ends}
use Rattle.clover_rule.specs.Image.{Image, Chain}
use Rattle.clover_rule.specs.Laws.{ReopenLaw}
use Rattle.clover_rule.specs.Lists.{Each, Within, nth}
use Rattle.clover_rule.specs.Memory.{Mem, gen, link, word}
use Rattle.clover_rule.specs.Opening.{Opens, opened_book}
use Rattle.clover_rule.specs.Restart.{AreBindings, Reopens, how_many, is_kept, remains, restarted_words, stands_on}
use Rattle.clover_rule.specs.Sound.{Sound, Restarting, versions_of}
use Rattle.clover_rule.specs.Words.{mem_of}
use Rattle.clover_rule.proofs.CutImages.{outside_image}
use Rattle.clover_rule.proofs.RestartBindings.{all_counted, each_binding, each_listed, slot_of, slot_there, slots_once}
use Rattle.clover_rule.proofs.RestartBooks.{below_found, found_on, spot_books}
use Rattle.clover_rule.proofs.RestartedLaw.{read_again, restarted_decodes, restarted_left, restarted_length, restarted_mem, restarted_short}
use Rattle.clover_rule.proofs.Restarted.{Restarted, image_in}
use Rattle.clover_rule.proofs.Restarts.{restart_chain, restart_ends, restart_sound, shown_chain}
use Rattle.clover_rule.proofs.Spelling.{one_key}
use Rattle.clover_rule.proofs.Spots.{spot, spot_from, spot_on}
use Rattle.clover_rule.proofs.Steps.{each_map}
use Rattle.clover_rule.proofs.Stopped.{dead_end, gone}
use Rattle.clover_rule.proofs.Ties.{both, test_below}

module _ (p : Pool) (im : Image) (sound : Sound p im) (m : Mem) (after : Restarted p im sound m) (left : Restarting p im sound (image_in m)) (n : Tagged) (stands : StandsFor p im sound n)
    (used : List ℕ) (ages : Each (IsUsedIn p im) used) (worn : (b : ℕ) → gen (im.next b) ≡ p.wear → link (im.next b) ≡ None) (outside : (b : ℕ) → inside p b ≡ false → im.next b ≡ word 0 None) where
  abbrev pub im2 : Image
  im2 = image_in m

  abbrev pub sound2 : Sound p im2
  sound2 = restart_sound p im sound im2 left

  abbrev dead : ℕ → Bool
  dead = gone p im sound

  -- a slot that has a root has the image's, and is not dead
  rooted_still : (s t : ℕ) → im2.root s ≡ Some t → (im.root s ≡ Some t) × (dead s ≡ false)
  rooted_still s t e = go (dead s) refl (sym (after.root s).0 ∙ e)
    where
      go : (x : Bool) → dead s ≡ x → cond x None (im.root s) ≡ Some t → (im.root s ≡ Some t) × (dead s ≡ false)
      go true q e = absurd cc
      go false q e = (e, q)

  still_rooted : (s t : ℕ) → im.root s ≡ Some t → dead s ≡ false → im2.root s ≡ Some t
  still_rooted s t e q = (after.root s).0 ∙ ap (λ (x : Bool). cond x None (im.root s)) q ∙ e

  -- a slot whose chain has a tag has a root
  has_root : (s i t : ℕ) → nth (sound.chain s) i ≡ Some t → (u : ℕ) × (im.root s ≡ Some u)
  has_root s i t e = go (im.root s) refl (sound.walk s)
    where
      nil : (us : List ℕ) → Chain im None us → nth us i ≡ Some t → ⊥
      nil [] c q = absurd cc
      nil (u ∷ us) c q = c

      go : (x : Option ℕ) → im.root s ≡ x → Chain im x (sound.chain s) → (u : ℕ) × (im.root s ≡ Some u)
      go (Some u) q c = (u, q)
      go None q c = absurd (nil (sound.chain s) c e)

  -- a buffer that remains stands on a chain of what is left
  stands_still : (b : ℕ) → remains p im sound b ≡ true → (q : ℕ × ℕ) × (spot p im2 sound2 b ≡ Some q)
  stands_still b e =
      let a = below_found (λ (s : ℕ). not (dead s) && stands_on (sound.chain s) b) p.slots e in
      let c = both (not (dead a.0)) (stands_on (sound.chain a.0) b) a.2 in
      let f = found_on (sound.chain a.0) b c.1 in
      let r = has_root a.0 f.0 f.1 f.2 in
      let shown : nth (sound2.chain a.0) f.0 ≡ Some f.1 = ap (λ (us : List ℕ). nth us f.0) (restart_chain p im sound im2 left a.0) ∙ ap (λ (x : Option ℕ). nth (shown_chain x (sound.chain a.0)) f.0) (still_rooted a.0 r.0 r.1 (alive (dead a.0) c.0)) ∙ f.2 in
      ((a.0, f.0), ap (spot p im2 sound2) (sym f.3) ∙ spot_on p im2 sound2 a.0 f.0 f.1 shown)
    where
      alive : (x : Bool) → not x ≡ true → x ≡ false
      alive true q = absurd cc
      alive false q = refl

  -- a buffer that is not below the wear is at it
  at_wear : (b : ℕ) → nat_lt (gen (im.next b)) p.wear ≡ false → gen (im.next b) ≡ p.wear
  at_wear b l = let o = sound.own b in dite (dec_le (suc (gen (im.next b))) p.wear) (λ d. absurd (true≢false (sym (test_below (gen (im.next b)) p.wear d) ∙ l))) (λ d. omega arith)

  -- a buffer on no chain is unlinked
  off_chain : (b : ℕ) → spot p im2 sound2 b ≡ None → link (im2.next b) ≡ None
  off_chain b e = ap link (after.next b).0 ∙ go (inside p b) (remains p im sound b) (nat_lt (gen (im.next b)) p.wear) refl refl refl
    where
      go : (x y z : Bool) → inside p b ≡ x → remains p im sound b ≡ y → nat_lt (gen (im.next b)) p.wear ≡ z → link (cond (x && (not y && z)) (word (suc (gen (im.next b))) None) (im.next b)) ≡ None
      go false y z i r l = ap link (outside b i)
      go true true z i r l = absurd (let a = stands_still b r in cc (a.1, e))
      go true false true i r l = refl
      go true false false i r l = worn b (at_wear b l)

  -- a used tag is below its buffer's generation, or is the one that stands there
  used_still : Each (λ (t : ℕ). (age t < p.wear) × ((age t < gen (im2.next (home t))) ⊎ ((s : ℕ) × (i : ℕ) × (spot p im2 sound2 (home t) ≡ Some (s, i)) × (age t ≡ gen (im2.next (home t)))))) used
  used_still = each_map (λ t a. (a.1, one t a.1 a.2 (inside p (home t)) (remains p im sound (home t)) (nat_lt (gen (im.next (home t))) p.wear) a.0 refl refl (ap gen (after.next (home t)).0))) used ages
    where
      one : (t : ℕ) → age t < p.wear → age t ≤ gen (im.next (home t)) → (x y z : Bool) → x ≡ true → remains p im sound (home t) ≡ y → nat_lt (gen (im.next (home t))) p.wear ≡ z → gen (im2.next (home t)) ≡ gen (cond (x && (not y && z)) (word (suc (gen (im.next (home t)))) None) (im.next (home t)))
          → (age t < gen (im2.next (home t))) ⊎ ((s : ℕ) × (i : ℕ) × (spot p im2 sound2 (home t) ≡ Some (s, i)) × (age t ≡ gen (im2.next (home t))))
      one t h a true true z i r l e = let q = stands_still (home t) r in dite (ℕ_discrete (age t) (gen (im.next (home t)))) (λ d. inr (q.0.0, q.0.1, q.1, d ∙ sym e)) (λ d. inl (omega arith))
      one t h a true false true i r l e = inl (omega arith)
      one t h a true false false i r l e = inl (let o = at_wear (home t) l in omega arith)
      one t h a false y z i r l e = absurd (true≢false (sym i))

  -- the key of a slot that has a root
  key_at : (s : ℕ) (x : Option ℕ) → im2.root s ≡ x → Option (List ℕ)
  key_at s None e = None
  key_at s (Some t) e = Some (sound2.key s t e).0

  pub keys : ℕ → Option (List ℕ)
  keys s = key_at s (im2.root s) refl

  key_there : (s t : ℕ) → im2.root s ≡ Some t → (k : List ℕ) × (keys s ≡ Some k) × IsKey k × Spells (im2.key s) k
  unfolding keys key_at
  key_there s t e = go (im2.root s) refl e
    where
      go : (x : Option ℕ) (q : im2.root s ≡ x) → x ≡ Some t → (k : List ℕ) × (key_at s x q ≡ Some k) × IsKey k × Spells (im2.key s) k
      go None q f = absurd cc
      go (Some u) q f = let a = sound2.key s u q in (a.0, refl, a.1, a.2)

  key_here : (s : ℕ) (k : List ℕ) → keys s ≡ Some k → (t : ℕ) × (im2.root s ≡ Some t) × IsKey k × Spells (im2.key s) k
  unfolding keys key_at
  key_here s k e = go (im2.root s) refl e
    where
      go : (x : Option ℕ) (q : im2.root s ≡ x) → key_at s x q ≡ Some k → (t : ℕ) × (im2.root s ≡ Some t) × IsKey k × Spells (im2.key s) k
      go None q f = absurd cc
      go (Some u) q f = let a = sound2.key s u q in let z : a.0 ≡ k = let z1 : Some a.0 ≡ Some k = f in cc in (u, q, subst IsKey z a.1, subst (Spells (im2.key s)) z a.2)

  key_bare : (s : ℕ) → im2.root s ≡ None → keys s ≡ None
  unfolding keys key_at
  key_bare s e = go (im2.root s) refl e
    where
      go : (x : Option ℕ) (q : im2.root s ≡ x) → x ≡ None → key_at s x q ≡ None
      go None q f = refl
      go (Some u) q f = absurd cc

  -- a slot with a root has the key that its words spell
  key_is : (s : ℕ) (k : List ℕ) → im2.root s ≢ None → IsKey k → Spells (im2.key s) k → keys s ≡ Some k
  key_is s k r ik sp = go (im2.root s) refl
    where
      go : (x : Option ℕ) → im2.root s ≡ x → keys s ≡ Some k
      go None e = absurd (r e)
      go (Some t) e = let a = key_there s t e in a.1 ∙ ap Some (one_key (im2.key s) a.0 k a.2 ik a.3 sp)

  -- what the map has at the keys that are left, and elsewhere
  map_here : (s : ℕ) (k : List ℕ) → keys s ≡ Some k → ends None (versions_of (sound2.chain s) (sound2.value s)) ≡ get n k
  map_here s k e = let a = key_here s k e in let r = rooted_still s a.0 a.1 in restart_ends p im sound im2 left s ∙ sym (stands.bound s a.0 k r.0 a.2 (λ j x q. sym (after.key s j).0 ∙ a.3 j x q))

  map_else : (k : List ℕ) → ((s : ℕ) → keys s ≢ Some k) → get n k ≡ None
  map_else k f = go (get n k) refl
    where
      no_slot : (h : Held) → get n k ≡ Some h → (s t : ℕ) → im.root s ≡ Some t → Spells (im.key s) k → ⊥
      no_slot h q s t e sp = alive (dead s) refl
        where
          alive : (x : Bool) → dead s ≡ x → ⊥
          alive true d = absurd (let z = dead_end p im sound s d in let y = stands.bound s t k e (stands.keys k h q) sp in cc (z, y, q))
          alive false d = let r = still_rooted s t e d in f s (key_is s k (λ z. absurd (cc (r, z))) (stands.keys k h q) (λ j x y. (after.key s j).0 ∙ sp j x y))

      go : (x : Option Held) → get n k ≡ x → get n k ≡ None
      go None q = q
      go (Some h) q = stands.unbound k (no_slot h q)

  -- as many slots have a root as were kept
  kept_count : m.count ≡ how_many (λ (s : ℕ). is_some (im2.root s)) p.slots
  kept_count = after.count ∙ ap (λ (f : ℕ → Bool). how_many f p.slots) (fun_ext one)
    where
      one : (s : ℕ) → is_kept p im sound s ≡ is_some (im2.root s)
      one s = go (im.root s) (dead s) ∙ sym (ap is_some (after.root s).0)
        where
          go : (x : Option ℕ) (d : Bool) → is_some x && not d ≡ is_some (cond d None x)
          go None true = refl
          go None false = refl
          go (Some t) true = refl
          go (Some t) false = refl

  module _ (list : List (ℕ × List ℕ)) (are : AreBindings im2 0 p.slots list) (short : (s : ℕ) → m.short s ≡ None) where
    bound : (s : ℕ) (k : List ℕ) → Within (s, k) list → keys s ≡ Some k
    bound s k w = let b = each_binding im2 0 p.slots list are (s, k) w in key_is s k b.rooted b.valid b.spells

    listed : (s : ℕ) (k : List ℕ) → keys s ≡ Some k → Within (s, k) list
    listed s k e =
        let a = key_here s k e in
        let w = each_listed im2 0 p.slots list are s (omega arith) (let h = sound2.inside s a.0 a.1 in omega arith) (λ z. absurd (let y = a.1 in cc (y, z))) in
        subst (λ (j : List ℕ). Within (s, j) list) (let q = bound s w.0 w.1 in let z : Some w.0 ≡ Some k = sym q ∙ e in cc) w.1

    found : (s : ℕ) (k : List ℕ) → keys s ≡ Some k → slot_of list k ≡ s
    found s k e =
        let a = key_here s k e in
        let b = key_here (slot_of list k) k (bound (slot_of list k) k (slot_there list k s (listed s k e))) in
        sound2.same s (slot_of list k) a.0 b.0 k a.1 b.1 a.2 a.3 b.3

    pub opens : Opens p im2 sound2 n used m
    opens = record {
      next = λ b. (refl, (after.next b).1 ∙ sym (after.next b).0);
      root = λ s. (refl, (after.root s).1 ∙ sym (after.root s).0);
      body = λ b j. (refl, (after.body b j).1 ∙ sym (after.body b j).0);
      key = λ s j. (refl, (after.key s j).1 ∙ sym (after.key s j).0);
      short = short;
      spot = spot p im2 sound2;
      on = spot_on p im2 sound2;
      from = spot_from p im2 sound2;
      off = off_chain;
      keys = keys;
      keyed = λ s t e. let a = key_there s t e in (a.0, a.1, a.3);
      valid = λ s k e. (key_here s k e).2;
      bare = key_bare;
      bindings = list;
      listed = listed;
      bound = bound;
      once = slots_once im2 0 p.slots list are;
      count = kept_count ∙ all_counted im2 p.slots list are;
      slot_named = slot_of list;
      found = found;
      map_is = map_here;
      map_else = map_else;
      used_is = used_still;
    }

    pub opens_spot : (b : ℕ) → opens.spot b ≡ spot p im2 sound2 b
    unfolding opens
    opens_spot b = refl

    pub opens_bindings : opens.bindings ≡ list
    unfolding opens
    opens_bindings = refl

module _ (p : Pool) (n : Tagged) (used im : List ℕ) (list : List (ℕ × List ℕ)) (a : Rests p im n used) (sized : length im ≡ durable_words p) (are : AreBindings (image_of p (restarted_words p im a.sound.reads)) 0 p.slots list) where
  abbrev ws : List ℕ
  ws = restarted_words p im a.sound.reads

  abbrev again : Sound p (image_of p ws)
  again = read_again p im a.sound sized

  -- what is said above of the image and of what its restart left
  abbrev begins : Opens p (image_of p ws) again n used (mem_of p ws)
  begins = opens p (image_of p im) a.sound.reads (mem_of p ws) (restarted_mem p im a.sound sized) (restarted_left p im a.sound sized) n a.stands used a.ages a.worn (outside_image p im) list are (restarted_short p im a.sound sized)

  spot_is : (b : ℕ) → begins.spot b ≡ spot p (image_of p ws) again b
  spot_is b = opens_spot p (image_of p im) a.sound.reads (mem_of p ws) (restarted_mem p im a.sound sized) (restarted_left p im a.sound sized) n a.stands used a.ages a.worn (outside_image p im) list are (restarted_short p im a.sound sized) b

  list_is : begins.bindings ≡ list
  list_is = opens_bindings p (image_of p im) a.sound.reads (mem_of p ws) (restarted_mem p im a.sound sized) (restarted_left p im a.sound sized) n a.stands used a.ages a.worn (outside_image p im) list are (restarted_short p im a.sound sized)

  pub reopens : Reopens p n used ws list
  reopens = record {
    opening = record { sized = restarted_length p im a.sound sized; decodes = restarted_decodes p im a.sound sized; image = image_of p ws; sound = again; opens = begins };
    bindings = list_is;
    roots = λ s. refl;
    books = λ other b i. ap (λ (x : Option (ℕ × ℕ)). opened_book p (image_of p ws) x b) (spot_is b) ∙ spot_books p (image_of p ws) again other b;
  }

pub reopen_law : ReopenLaw
reopen_law p n used im list a sized are = reopens p n used im list a sized are

-- The preset pool meets the rule.
use Rattle.std.proofs.Common.{◌≡◌, ℕ, suc, ◌+◌, ◌-◌, ◌*◌, ◌/◌, ◌%◌, ◌<◌, ◌≤◌, ◌&&◌, List, [], ◌∷◌, length, Bool, true, false, cond, nat_lt, refl, sym, ap, ◌∙◌, subst, arith}
use Rattle.std.proofs.lemmas.Bool.{le-ltb}
use Rattle.std.proofs.Math.Nat.{mul-le-mul_left}
use Rattle.std.specs.Prelude.{Option, Some, None}
use Rattle.std.specs.FinMap as finite
use Rattle.std.specs.FinMap.{get-empty}
use Rattle.std.specs.Ordering.{nat_cmp}
use Rattle.std.specs.Cmp.Lexicographic.{slice_cmp}
use Rattle.clover_words.specs.declared.pool.Pool.{Pool}
use Rattle.clover_words.specs.declared.setup.Setup.{Setup}
use Rattle.clover_words.specs.declared.word.Word.{Word}
use Rattle.clover_words.specs.declared.word.Word.TheVariants.{Next as NextOf, Meta, Value as ValueOf, Root, Key, Short, Count}
use Rattle.clover_words.specs.declared.word.Side.{Side}
use Rattle.clover_words.specs.declared.word.Side.TheVariants.{Current, Flushed}
use Rattle.clover_words.specs.Place.{HasSide, copy_in, pool_words}
use Rattle.clover_words.proofs.Places.{split}
use Rattle.clover_words.specs.Pack.{words_of}
use Rattle.clover_words.specs.Preset.{buffers_total, tombstone_number, dealt_number}
use Rattle.clover_words.specs.Meta.{tombstone}
use Rattle.clover_words.specs.Tag.{home}
use Rattle.clover_words.specs.Next.{root_code}
use Rattle.clover_words.specs.Version.{buffer_at, content_at}
use Rattle.clover_map.specs.Key.{IsKey}
use Rattle.clover_rule.specs.Content.{inside, spelling, words_from}
use Rattle.clover_rule.specs.Lists.{nth, Within}
use Rattle.clover_rule.specs.Meets.{Decodes, IsCode}
use Rattle.clover_rule.specs.Memory.{word, gen}
use Rattle.clover_rule.specs.Opening.{Starts}
use Rattle.clover_rule.specs.Preset.{PresetWords, PresetKeys, PresetViews, bindings_from}
use Rattle.clover_rule.specs.Rule.{Rule, longest}
use Rattle.clover_rule.specs.Words.{root_of, next_of, guarded, mem_of}
use Rattle.clover_rule.specs.declared.view.Role.TheVariants.{Client, Serving}
use Rattle.clover_rule.specs.declared.view.View.{View}
use Rattle.clover_rule.proofs.Longest.{longest_law}
use Rattle.clover_rule.proofs.Presets.{preset_law}
use Rattle.clover_rule.proofs.Spelling.{length_words}
use Rattle.clover_rule.proofs.Steps.{prefix_self}
use Rattle.clover_rule.proofs.Tools.{nth_within, nth_some}
use Rattle.clover_rule.proofs.Ties.{guard, guard_true, both, below, test_below, buffer_in, content_in, content_side, root_again, and_true}
use Rattle.clover_plain.specs.Preset.{tag_at, tomb, preset_word, key_word, or_zero, IsPreset, dealt_from, start_view, AreDistinct}
use Rattle.clover_plain.proofs.Dealing.{tag_young, tag_inside, number_tag, one_number, number_at, home_number, dealt_each, dealt_once, within_dealt}

-- both sides of a guard are one value
same_guard : {A : Type 0} (b : Bool) (x y : A) → (b ≡ true → x ≡ y) → guarded b x y ≡ y
same_guard true x y h = h refl
same_guard false x y h = refl

module _ (s : Setup) (keys : List (List ℕ)) (ws : List ℕ) (sized : length ws ≡ pool_words s.pool) (set : IsPreset s keys ws)
    (room : length keys ≤ s.pool.slots) (total : s.pool.slots ≤ buffers_total s.pool) (are : (i : ℕ) (k : List ℕ) → nth keys i ≡ Some k → IsKey k) (differ : AreDistinct keys) where
  abbrev p : Pool
  p = s.pool

  root_code_again : (b : Bool) (t : ℕ) → root_code (root_of (cond b (root_code (Some t)) 0)) ≡ cond b (root_code (Some t)) 0
  root_code_again true t = ap root_code (root_again (Some t))
  root_code_again false t = refl

  code_is : (w : Word) → IsCode w (preset_word s keys w)
  code_is (NextOf b) = refl
  code_is (Meta b) = tt
  code_is (ValueOf b k) = tt
  code_is (Root n) = root_code_again (nat_lt n (length keys)) (tomb p n)
  code_is (Key n k) = tt
  code_is (Short n) = refl
  code_is Count = tt

  decodes : Decodes p ws
  decodes w side h i = subst (IsCode w) (sym (set w side h i)) (code_is w)

  tomb_below : (n : ℕ) → n < length keys → tombstone_number p n < buffers_total p
  tomb_below n h = omega arith

  next_at : (b : ℕ) (side : Side) → HasSide (NextOf (buffer_at b)) side → guarded (inside p b) (next_of (copy_in p ws (NextOf (buffer_at b)) side)) (word 0 None) ≡ word 0 None
  next_at b side h = same_guard (inside p b) (next_of (copy_in p ws (NextOf (buffer_at b)) side)) (word 0 None) (λ e. ap next_of (set (NextOf (buffer_at b)) side (buffer_in p b e) h))

  rooted : (n : ℕ) (side : Side) → HasSide (Root n) side → n < length keys → guarded (nat_lt n p.slots) (root_of (copy_in p ws (Root n) side)) None ≡ Some (tomb p n)
  rooted n side i h =
      let b : n < p.slots = omega arith in
      guard_true (nat_lt n p.slots) (root_of (copy_in p ws (Root n) side)) (Some (tomb p n)) None (test_below n p.slots b)
      (ap root_of (set (Root n) side b i ∙ ap (λ (t : Bool). cond t (root_code (Some (tomb p n))) 0) (test_below n (length keys) h)) ∙ root_again (Some (tomb p n)))

  unrooted : (n : ℕ) (side : Side) → HasSide (Root n) side → length keys ≤ n → guarded (nat_lt n p.slots) (root_of (copy_in p ws (Root n) side)) None ≡ None
  unrooted n side i h = same_guard (nat_lt n p.slots) (root_of (copy_in p ws (Root n) side)) None
      (λ e. ap root_of (set (Root n) side (below n p.slots e) i ∙ ap (λ (t : Bool). cond t (root_code (Some (tomb p n))) 0) (le-ltb n (length keys) h)))

  tombs : (n : ℕ) → n < length keys → guarded (inside p (home (tomb p n)) && nat_lt 0 (1 + p.words)) (copy_in p ws (content_at (home (tomb p n)) 0) Current) 0 ≡ tombstone
  tombs n h =
      let b = home (tomb p n) in
      let q = tomb_below n h in
      let i = tag_inside p (tombstone_number p n) q in
      let e : buffers_total p - 1 - number_at p b ≡ n = ap (λ (z : ℕ). buffers_total p - 1 - z) (number_tag p (tombstone_number p n) q) ∙ (let z : buffers_total p - 1 - tombstone_number p n ≡ n = omega arith in z) in
      guard_true (inside p b && nat_lt 0 (1 + p.words)) (copy_in p ws (content_at b 0) Current) tombstone 0 (and_true (inside p b) (nat_lt 0 (1 + p.words)) i (test_below 0 (1 + p.words) (omega arith)))
      (set (Meta (buffer_at b)) Current (buffer_in p b i) tt ∙ ap (λ (t : Bool). cond t tombstone 0) (ap (λ (z : ℕ). nat_lt z (length keys)) e ∙ test_below n (length keys) h))

  bodies : (b j : ℕ) → guarded (inside p b && nat_lt j (1 + p.words)) (copy_in p ws (content_at b j) Flushed) 0 ≡ guarded (inside p b && nat_lt j (1 + p.words)) (copy_in p ws (content_at b j) Current) 0
  bodies b j = guard (inside p b && nat_lt j (1 + p.words)) _ _ 0 (λ e.
      let q = both (inside p b) (nat_lt j (1 + p.words)) e in
      let w = content_in p b j q.0 (below j (1 + p.words) q.1) in
      set (content_at b j) Flushed w (content_side b j Flushed) ∙ sym (set (content_at b j) Current w (content_side b j Current)))

  spelled_below : (k : List ℕ) (j x : ℕ) → IsKey k → nth (spelling k) j ≡ Some x → j < 32
  unfolding spelling
  spelled_below k j x i e = let z = nth_within (words_from (length k ∷ k) 0 (words_of (length (length k ∷ k)))) j x e in let q = length_words (length k ∷ k) 0 (words_of (length (length k ∷ k))) in let m = i.1 in omega arith

  keyed : (n j x : ℕ) (k : List ℕ) → nth keys n ≡ Some k → nth (spelling k) j ≡ Some x → guarded (nat_lt n p.slots && nat_lt j 32) (copy_in p ws (Key n j) Current) 0 ≡ x
  keyed n j x k e f =
      let a : n < p.slots = (let z = nth_within keys n k e in omega arith) in
      let b : j < 32 = spelled_below k j x (are n k e) f in
      guard_true (nat_lt n p.slots && nat_lt j 32) (copy_in p ws (Key n j) Current) x 0 (and_true (nat_lt n p.slots) (nat_lt j 32) (test_below n p.slots a) (test_below j 32 b))
      (set (Key n j) Current (a, b) tt ∙ ap (λ (o : Option (List ℕ)). key_word o j) e ∙ ap or_zero f)

  flushed_keys : (n j : ℕ) → guarded (nat_lt n p.slots && nat_lt j 32) (copy_in p ws (Key n j) Flushed) 0 ≡ guarded (nat_lt n p.slots && nat_lt j 32) (copy_in p ws (Key n j) Current) 0
  flushed_keys n j = guard (nat_lt n p.slots && nat_lt j 32) _ _ 0 (λ e.
      let q = both (nat_lt n p.slots) (nat_lt j 32) e in
      let w : (n < p.slots) × (j < 32) = (below n p.slots q.0, below j 32 q.1) in
      set (Key n j) Flushed w tt ∙ sym (set (Key n j) Current w tt))

  preset_words : PresetWords p keys (tomb p) (mem_of p ws)
  preset_words = record {
    next = λ b. (next_at b Current tt, next_at b Flushed tt);
    rooted = λ n h. (rooted n Current tt h, rooted n Flushed tt h);
    unrooted = λ n h. (unrooted n Current tt h, unrooted n Flushed tt h);
    body = tombs;
    bodies = bodies;
    key = keyed;
    flushed_keys = flushed_keys;
    short = λ n. same_guard (nat_lt n p.slots) (root_of (copy_in p ws (Short n) Current)) None (λ e. ap root_of (set (Short n) Current (below n p.slots e) tt));
    count = set Count Current tt tt;
  }

  preset_keys : PresetKeys p keys (tomb p)
  preset_keys = record {
    keys_are = are;
    differ = differ;
    room = room;
    young = λ n h. tag_young p (tombstone_number p n) (tomb_below n h);
    in_pool = λ n h. tag_inside p (tombstone_number p n) (tomb_below n h);
    apart = λ n m h i e. let z = one_number p (tombstone_number p n) (tombstone_number p m) (tomb_below n h) (tomb_below m i) e in omega arith;
  }

  -- the seat whose client has a buffer
  abbrev owner_of : Bool → ℕ → Option ℕ
  owner_of b n = cond (b && nat_lt (n + p.slots) (buffers_total p)) (Some (n % s.clients)) None

  abbrev owner : ℕ → Option ℕ
  owner b = owner_of (inside p b) (number_at p b)

  owner_is : (b i : ℕ) → owner b ≡ Some i → (inside p b ≡ true) × (number_at p b + p.slots < buffers_total p) × (number_at p b % s.clients ≡ i)
  owner_is b i e = go (inside p b) (nat_lt (number_at p b + p.slots) (buffers_total p)) refl refl e
    where
      go : (x y : Bool) → inside p b ≡ x → nat_lt (number_at p b + p.slots) (buffers_total p) ≡ y → cond (x && y) (Some (number_at p b % s.clients)) None ≡ Some i → (inside p b ≡ true) × (number_at p b + p.slots < buffers_total p) × (number_at p b % s.clients ≡ i)
      go true true f g e = (f, below _ _ g, let z : Some (number_at p b % s.clients) ≡ Some i = e in cc)
      go true false f g e = absurd (let z : ◌≡◌ {A = Option ℕ} None (Some i) = e in cc)
      go false y f g e = absurd (let z : ◌≡◌ {A = Option ℕ} None (Some i) = e in cc)

  -- a dealt buffer is its client's
  owned : (i q : ℕ) → i < s.clients → dealt_number s (suc i) q + p.slots < buffers_total p → owner (home (tag_at p (dealt_number s (suc i) q))) ≡ Some i
  owned i q c h =
      let n : ℕ = dealt_number s (suc i) q in
      let f : n < buffers_total p = omega arith in
      let m = split q s.clients i n c (omega arith) in
      (λ k. owner_of (tag_inside p n f k) (number_tag p n f k)) ∙ ap (λ (t : Bool). cond t (Some (n % s.clients)) None) (test_below (n + p.slots) (buffers_total p) h) ∙ ap Some m.1

  module _ (vs : List View) (seats : length vs ≡ s.clients) (vs_are : (i : ℕ) (v : View) → nth vs i ≡ Some v → v ≡ start_view s keys i) where
    starts : (i : ℕ) → i < s.clients → Starts (mem_of p ws) (bindings_from 0 keys) owner i (start_view s keys i)
    starts i c = record {
      stock = dealt_each s (suc i) _ (buffers_total p) 0 (λ q h.
          let n = dealt_number s (suc i) q in
          (owned i q c h, ap gen (next_at (home (tag_at p n)) Current tt) ∙ sym (tag_young p n (omega arith))));
      apart = dealt_once s (suc i) (buffers_total p) 0;
      names = prefix_self (bindings_from 0 keys);
      most = omega arith;
      nothing = refl;
    }

    held : (b i : ℕ) → owner b ≡ Some i → (v : View) × (nth vs i ≡ Some v) × (t : ℕ) × Within t v.pass.stock × (home t ≡ b)
    held b i e =
        let o = owner_is b i e in
        let n : ℕ = number_at p b in
        let y = s.some_client in
        let z = o.1 in
        let w = o.2 in
        let q : ℕ = n / s.clients in
        let c : i < s.clients = omega arith in
        let same : dealt_number s (suc i) q ≡ n = omega arith in
        let small : q < 0 + buffers_total p = (let k : q * 1 ≤ q * s.clients = mul-le-mul_left q y in omega arith) in
        let r = nth_some vs i (omega arith) in
        let there : Within (tag_at p (dealt_number s (suc i) q)) (dealt_from s (suc i) 0 (buffers_total p)) = within_dealt s (suc i) (buffers_total p) 0 q (omega arith) small (omega arith) in
        (r.0, r.1, tag_at p (dealt_number s (suc i) q), subst (λ (u : View). Within (tag_at p (dealt_number s (suc i) q)) u.pass.stock) (sym (vs_are i r.0 r.1)) there, ap (λ (m : ℕ). home (tag_at p m)) same ∙ (home_number p b o.0).1)

    role_is : (i : ℕ) (v : View) → nth vs i ≡ Some v → v.pass.role ≡ Client (suc i)
    role_is i v e = ap (λ (u : View). u.pass.role) (vs_are i v e)

    preset_views : PresetViews p keys (tomb p) owner (mem_of p ws) vs
    preset_views = record {
      starts = λ i v e. subst (Starts (mem_of p ws) (bindings_from 0 keys) owner i) (sym (vs_are i v e)) (starts i (let z = nth_within vs i v e in omega arith));
      off = λ b i e n h f.
          let o = owner_is b i e in
          let x = o.1 in
          let q = tomb_below n h in
          let z : number_at p b ≡ tombstone_number p n = ap (number_at p) (sym f) ∙ number_tag p (tombstone_number p n) q in
          omega arith;
      in_pool = λ b i e. (owner_is b i e).0;
      held = held;
      numbered = λ i j n v w e f g h. let z : Client (suc i) ≡ Client (suc j) = sym (role_is i v e) ∙ g ∙ sym h ∙ role_is j w f in let y : suc i ≡ suc j = cc in omega arith;
      some = let c = s.some_client in let r = nth_some vs 0 (omega arith) in (0, r.0, r.1);
      unserved = λ i v e f. absurd (let z : Client (suc i) ≡ Serving = sym (role_is i v e) ∙ f in cc);
    }

    pub preset_rule : Rule p finite.empty [] ws vs []
    preset_rule = preset_law p finite.empty ws vs keys (tomb p) owner sized decodes
        (λ i v e. let z = vs_are i v e in record { of_pool = ap (λ (u : View). u.pass.pool) z; from_map = ap (λ (u : View). u.pass.map) z; from_used = ap (λ (u : View). u.pass.used) z })
        (λ k. get-empty (slice_cmp nat_cmp) k)
        preset_words preset_keys preset_views

    pub preset_history : longest vs ≡ []
    preset_history = longest_law p finite.empty [] ws vs [] preset_rule

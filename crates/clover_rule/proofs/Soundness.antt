-- Each image of a cut is sound.
use Rattle.std.proofs.Common.{◌≡◌, ℕ, zero, suc, ◌+◌, ◌<◌, ◌≤◌, ◌⊎◌, List, [], ◌∷◌, Bool, true, false, ltb, refl, sym, ap, ◌∙◌, inl, inr, ⊎_elim, arith, subst}
use Rattle.std.specs.Prelude.{Option, Some, None}
use Rattle.clover_words.specs.Tag.{home}
use Rattle.clover_map.specs.declared.bytes.Value.{Value}
use Rattle.clover_map.specs.declared.call.Entry.{Entry}
use Rattle.clover_map.specs.Tagged.{Tagged}
use Rattle.clover_rule.specs.Content.{content, InRange, Spells, Fits}
use Rattle.clover_rule.specs.History.{Version, ends, kept}
use Rattle.clover_rule.specs.Image.{Image, IsImage, Chain, missing, sift, tags}
use Rattle.clover_rule.specs.Lists.{nth}
use Rattle.clover_rule.specs.Memory.{gen, link, Mem}
use Rattle.clover_rule.specs.Server.{Help, Whole}
use Rattle.clover_rule.specs.Sound.{versions_of, Sound}
use Rattle.clover_rule.specs.Story.{Place, Chained, Stocked, Free, Worn, Taken, Loose, Story, tag_in_version, tag_at, Core, only}
use Rattle.clover_rule.specs.declared.view.View.{View}
use Rattle.clover_words.specs.declared.pool.Pool.{Pool}
use Rattle.clover_rule.proofs.KeyMaps.{leads, shows}
use Rattle.clover_rule.proofs.Spelling.{one_key}
use Rattle.clover_rule.proofs.Standings.{tag_within, one_buffer, by_held}
use Rattle.std.specs.Prelude.{drop}
use Rattle.clover_rule.proofs.Cuts.{ends_drop, longer, map_left, Shown, shown, inside, up_to, nth_drop, cut_chain}

nth_tags : (ws : List Version) (i t : ℕ) → nth (tags ws) i ≡ Some t → (w : Version) × (nth ws i ≡ Some w) × (w.tag ≡ t)
nth_tags [] i t e = absurd cc
nth_tags (w ∷ ws) zero t e = (w, refl, cc)
nth_tags (w ∷ ws) (suc i) t e = nth_tags ws i t e

only_some : (b : Bool) (x : Option ℕ) (t : ℕ) → only b x ≡ Some t → x ≡ Some t
only_some true x t e = e
only_some false x t e = absurd cc

value_in : Option Version → Option Value
value_in None = None
value_in (Some w) = w.value

module _ (l : Pool) (m0 : Tagged) (used : List ℕ) (m : Mem) (vs : List View) (st : Story) (h : List Entry) (w : Whole l m0 used m vs st h) (im : Image) (is : IsImage m im) where
  abbrev c : Core m st
  c = w.basis.core

  abbrev p : Help l m st
  p = w.help

  -- where the image's root stands
  record Start (s t : ℕ) : Type 0 where
    at : ℕ
    tag : tag_at st s at ≡ Some t
    late : st.gone s ≤ at
    early : at < st.sure s

  lead_start : (s t i : ℕ) → tag_at st s i ≡ Some t → st.gone s ≤ i → i ≤ st.lead s → Start s t
  lead_start s t i e g q = let a = tag_within st s i t e in let b = c.rooted s (omega arith) in record { at = i; tag = e; late = g; early = omega arith }

  start : (s t : ℕ) → im.root s ≡ Some t → Start s t
  start s t e = let d = c.led s in
      ⊎_elim (λ q. lead_start s t (st.lead s) (sym (c.root s) ∙ sym q ∙ e) (omega arith) (omega arith))
      (λ q. ⊎_elim (λ f. lead_start s t (st.flead s) (sym f ∙ sym q ∙ e) (omega arith) (omega arith)) (λ f. absurd (cc (f.empty, q, e))) (c.froot s)) (is.root s)

  -- a slot with a root is bound
  pub bound_root : (s t : ℕ) → im.root s ≡ Some t → (k : List ℕ) × (st.keys s ≡ Some k)
  bound_root s t e = go (st.keys s) refl
    where
      go : (x : Option (List ℕ)) → st.keys s ≡ x → (k : List ℕ) × (st.keys s ≡ Some k)
      go (Some k) q = (k, q)
      go None q = let a = start s t e in let b = tag_within st s a.at t a.tag in let d = p.keyed.bare s q in absurd (omega arith)

  pub spelled : (s : ℕ) (k : List ℕ) → st.keys s ≡ Some k → Spells (im.key s) k
  spelled s k e j x q = ⊎_elim (λ a. a ∙ p.keyed.current s k e j x q) (λ a. a ∙ p.keyed.flushed s k e j x q) (is.key s j)

  lost_list : ℕ → List Version
  lost_list s = sift (missing st im) (st.log s)

  chain_from : (s : ℕ) (x : Option ℕ) → im.root s ≡ x → List ℕ
  chain_from s None e = []
  chain_from s (Some t) e = tags (drop (start s t e).at (lost_list s))

  walk_from : (s : ℕ) (x : Option ℕ) (e : im.root s ≡ x) → Chain im x (chain_from s x e)
  unfolding chain_from lost_list
  walk_from s None e = tt
  walk_from s (Some t) e = let a = start s t e in subst (λ (x : Option ℕ). Chain im x (tags (drop a.at (sift (missing st im) (st.log s))))) a.tag (cut_chain m st c im is s a.at a.late a.early)

  -- a tag of the chain stands in the log
  record OnLog (s i t q : ℕ) : Type 0 where
    version : Version
    there : nth (st.log s) (q + i) ≡ Some version
    tag : version.tag ≡ t
    late : st.gone s ≤ q + i

  on_log : (s i t q : ℕ) → st.gone s ≤ q → nth (tags (drop q (lost_list s))) i ≡ Some t → OnLog s i t q
  unfolding lost_list
  on_log s i t q g e =
      let z = nth_tags (drop q (sift (missing st im) (st.log s))) i t e in
      let n = (shown m st c im is s).0 in
      let f : Shown m st c im is s n = (shown m st c im is s).1 in
      let a : nth (sift (missing st im) (st.log s)) (q + i) ≡ Some z.0 = sym (nth_drop q i (sift (missing st im) (st.log s))) ∙ z.1 in
      let b = sym (f.sifted (q + i)) ∙ a in
      let d : q + i < n = inside (q + i) n (nth (st.log s) (q + i)) z.0 b in
      record { version = z.0; there = up_to (q + i) n (nth (st.log s) (q + i)) d ∙ b; tag = z.2; late = omega arith }

  from_of : (s : ℕ) (x : Option ℕ) (e : im.root s ≡ x) → ℕ
  from_of s None e = 0
  from_of s (Some t) e = (start s t e).at

  on_chain : (s : ℕ) (x : Option ℕ) (e : im.root s ≡ x) (i t : ℕ) → nth (chain_from s x e) i ≡ Some t → OnLog s i t (from_of s x e)
  unfolding chain_from from_of
  on_chain s None e i t f = absurd cc
  on_chain s (Some u) e i t f = on_log s i t (start s u e).at (start s u e).late f

  abbrev chain : ℕ → List ℕ
  chain s = chain_from s (im.root s) refl

  abbrev from : ℕ → ℕ
  from s = from_of s (im.root s) refl

  place_cases : (b t : ℕ) (q : Place) → st.place b ≡ q → (link (m.next b) ≡ Some t) ⊎ (link (m.fnext b) ≡ Some t) → InRange l t
  place_cases b t (Chained s) e f =
      let a = c.chained b s e in let x = c.standing s a.0 a.1 a.2 a.3 in
      p.ranged.tags s (suc a.0) t (⊎_elim (λ g. sym (ap link (ap m.next (sym a.4) ∙ x.now)) ∙ g) (λ g. only_some (ltb (suc a.0) (st.sure s)) (tag_at st s (suc a.0)) t (sym (ap link (ap m.fnext (sym a.4) ∙ x.safe)) ∙ g)) f)
  place_cases b t Taken e f = by_held l m st (λ T. InRange l t) st.task b p.stage.here (p.stage.holds b e) (λ bind n q a. ⊎_elim (λ g1. absurd (cc (ap m.next q, ap link a.now, ap link (ap m.next q), g1))) (λ g1. absurd (cc (ap link (ap m.fnext q), ap link a.safe, g1))) f)
      (λ cycle q a. ⊎_elim (λ g1. absurd (cc (ap link (ap m.next q), ap link a.now, g1)))
      (λ g1. let u : cycle.next ≡ t = let u1 : Some cycle.next ≡ Some t = sym (ap link a.safe) ∙ ap link (ap m.fnext q) ∙ g1 in cc in p.ranged.tags cycle.slot (st.gone cycle.slot) t (a.root ∙ ap Some u)) f)
  place_cases b t (Stocked i) e f = absurd (let o = c.loose b (subst Loose (sym e) tt) in ⊎_elim (λ g. cc (o.0, g)) (λ g. cc (o.0, ap link o.1, g)) f)
  place_cases b t Free e f = absurd (let o = c.loose b (subst Loose (sym e) tt) in ⊎_elim (λ g. cc (o.0, g)) (λ g. cc (o.0, ap link o.1, g)) f)
  place_cases b t Worn e f = absurd (let o = c.loose b (subst Loose (sym e) tt) in ⊎_elim (λ g. cc (o.0, g)) (λ g. cc (o.0, ap link o.1, g)) f)

  pub cut_sound : Sound l im
  unfolding value_in
  cut_sound = record {
    own = λ b. ⊎_elim (λ q. let a = ap gen q in let d = p.ranged.own b in omega arith) (λ q. let a = ap gen q in let d = p.ranged.own b in let f = p.ranged.below b in omega arith) (is.next b);
    target = λ b t e. place_cases b t (st.place b) refl (⊎_elim (λ q. inl (sym (ap link q) ∙ e)) (λ q. inr (sym (ap link q) ∙ e)) (is.next b));
    root = λ s t e. let a = start s t e in p.ranged.tags s a.at t a.tag;
    key = λ s t e. let a = bound_root s t e in (a.0, p.keyed.valid s a.0 a.1, spelled s a.0 a.1);
    same = λ s1 s2 t1 t2 k e1 e2 ik q1 q2. let a = bound_root s1 t1 e1 in let b = bound_root s2 t2 e2 in w.basis.keyed s2 s1 k (b.1 ∙ ap Some (one_key (im.key s2) b.0 k (p.keyed.valid s2 b.0 b.1) ik (spelled s2 b.0 b.1) q2)) (a.1 ∙ ap Some (one_key (im.key s1) a.0 k (p.keyed.valid s1 a.0 a.1) ik (spelled s1 a.0 a.1) q1));
    chain = chain;
    walk = λ s. walk_from s (im.root s) refl;
    once = λ s1 s2 i1 i2 t1 t2 e1 e2 q. let a = on_chain s1 (im.root s1) refl i1 t1 e1 in let b = on_chain s2 (im.root s2) refl i2 t2 e2 in
        let o = one_buffer m st c s1 (from s1 + i1) t1 s2 (from s2 + i2) t2 (ap tag_in_version a.there ∙ ap Some a.tag) a.late (ap tag_in_version b.there ∙ ap Some b.tag) b.late q in
        (o.0, let f : from s2 ≡ from s1 = ap from o.0 in let g = o.1 in omega arith);
    value = λ s i. value_in (nth (st.log s) (from s + i));
    inside = λ s t e. let a = bound_root s t e in p.keyed.slots s a.0 a.1;
    contents = λ s i t e. let a = on_chain s (im.root s) refl i t e in let va : value_in (nth (st.log s) (from s + i)) ≡ a.version.value = ap value_in a.there in (
      subst (Fits l) (sym va) (p.ranged.fits s (from s + i) a.version a.there),
      λ j y q. let b = w.basis.bodies s (from s + i) a.version a.there a.late j y (ap (λ (x : Option Value). nth (content x) j) (sym va) ∙ q) in ap (λ (x : ℕ). im.body (home x) j) (sym a.tag) ∙ ⊎_elim (λ f. f ∙ b.0) (λ f. f ∙ b.1) (is.body (home a.version.tag) j),
    );
  }

  -- a tag of the image's chain stands in its buffer
  pub chain_placed : (s i t : ℕ) → nth (cut_sound.chain s) i ≡ Some t → st.place (home t) ≡ Chained s
  unfolding cut_sound
  chain_placed s i t e = let a = on_chain s (im.root s) refl i t e in (c.standing s (from s + i) t (ap tag_in_version a.there ∙ ap Some a.tag) a.late).placed

  listed : (ws : List Version) (f : ℕ → Option Value) → ((i : ℕ) (y : Version) → nth ws i ≡ Some y → f i ≡ y.value) → versions_of (tags ws) f ≡ ws
  listed [] f e = refl
  listed (y ∷ ws) f e = let a = e zero y refl in cc (ap (λ (o : Option Value). version_of y.tag o) a, listed ws (λ (i : ℕ). f (suc i)) (λ i z q. e (suc i) z q))
    where
      version_of : ℕ → Option Value → Version
      version_of t o = record { tag = t; value = o }

  -- the chain of a bound slot with a root ends in what the history that is left leads to
  ends_at : (s : ℕ) (k : List ℕ) (x : Option ℕ) (e : im.root s ≡ x) (t : ℕ) → x ≡ Some t → st.keys s ≡ Some k → ends None (versions_of (chain_from s x e) (λ (i : ℕ). value_in (nth (st.log s) (from_of s x e + i)))) ≡ leads (shows m0) (kept (missing st im) h) k
  unfolding chain_from from_of lost_list value_in
  ends_at s k None e t z key = absurd cc
  ends_at s k (Some u) e t z key =
      let a = start s u e in
      let L : List Version = sift (missing st im) (st.log s) in
      let n = (shown m st c im is s).0 in
      let f : Shown m st c im is s n = (shown m st c im is s).1 in
      let values : (i : ℕ) (y : Version) → nth (drop a.at L) i ≡ Some y → value_in (nth (st.log s) (a.at + i)) ≡ y.value =
      λ i y q. let z : nth L (a.at + i) ≡ Some y = sym (nth_drop a.at i L) ∙ q in
      let b = sym (f.sifted (a.at + i)) ∙ z in
      let d : a.at + i < n = inside (a.at + i) n (nth (st.log s) (a.at + i)) y b in
      ap value_in (up_to (a.at + i) n (nth (st.log s) (a.at + i)) d ∙ b) in
      ap (ends None) (listed (drop a.at L) (λ (i : ℕ). value_in (nth (st.log s) (a.at + i))) values)
      ∙ ends_drop None None a.at L (longer m st c im is m0 used h w.basis.tale s a.at a.early) ∙ map_left m st c im is m0 used h w.basis.tale s k key

  pub cut_ends : (s t : ℕ) (k : List ℕ) → im.root s ≡ Some t → st.keys s ≡ Some k → ends None (versions_of (cut_sound.chain s) (cut_sound.value s)) ≡ leads (shows m0) (kept (missing st im) h) k
  unfolding cut_sound
  cut_ends s t k e key = ends_at s k (im.root s) refl t e key

-- the flushed copies alone are an image
abbrev pub flushed_image : Mem → Image
flushed_image m = record { next = m.fnext; root = m.froot; body = m.fbody; key = m.fkey }

pub flushed_is : (m : Mem) → IsImage m (flushed_image m)
flushed_is m = record { next = λ b. inr refl; root = λ s. inr refl; body = λ b j. inr refl; key = λ s j. inr refl }

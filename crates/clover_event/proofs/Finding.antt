-- What a call finds at any moment: from a durable tag that is live, and from the root, the chain of a named slot leads over some tags to a tail, which has a version; and from there the call ends, if it runs alone, in as many accesses as it costs.
use Prim.Native.Nat.{zero, suc}
use Rattle.std.proofs.Common.{◌≡◌, ◌≢◌, ℕ, ◌+◌, ◌-◌, ◌<◌, ◌≤◌, List, [], ◌∷◌, ◌++◌, length, Bool, true, false, refl, sym, ap, ◌∙◌, subst, arith, eqb-true}
use native.Mathlib.Decide.{dec_le}
use Rattle.std.specs.Prelude.{Option, Some, None, IfSome}
use Rattle.std.proofs.lemmas.Option.{IfSome_then}
use Rattle.clover_words.specs.declared.pool.Pool.{Pool}
use Rattle.clover_words.specs.declared.setup.Setup.{Setup}
use Rattle.clover_words.specs.declared.word.Side.TheVariants.{Current}
use Rattle.clover_words.specs.declared.word.Word.TheVariants.{Next as NextOf}
use Rattle.clover_words.specs.Tag.{TagParts, tag_number, home, age}
use Rattle.clover_words.specs.Version.{buffer_at}
use Rattle.clover_map.specs.Tagged.{Tagged}
use Rattle.clover_map.specs.History.{key_of}
use Rattle.clover_map.specs.declared.bytes.Value.{Value}
use Rattle.clover_map.specs.declared.call.Call.{Call}
use Rattle.clover_map.specs.declared.call.Entry.{Entry}
use Rattle.clover_rule.specs.Content.{Fits, InRange, content}
use Rattle.clover_rule.specs.History.{Version}
use Rattle.clover_rule.specs.Lists.{Each, nth, Within}
use Rattle.clover_rule.specs.Meets.{Meets}
use Rattle.clover_rule.specs.Memory.{Mem, word, gen, link}
use Rattle.clover_rule.specs.Chains.{Walk}
use Rattle.clover_rule.specs.Story.{Story, Chained, Stocked, Durable, tag_at, tag_in_version}
use Rattle.clover_rule.specs.Views.{Owned, ViewOk}
use Rattle.clover_rule.specs.Words.{mem_of, next_code}
use Rattle.clover_rule.specs.declared.view.View.{View}
use Rattle.clover_rule.proofs.Keeping.{read_next, read_body}
use Rattle.clover_rule.proofs.Standings.{tag_within}
use Rattle.clover_rule.proofs.Steps.{each_map, each_within, within_prefix}
use Rattle.clover_rule.proofs.Ties.{buffer_in}
use Rattle.clover_rule.proofs.Tools.{nth_none, nth_past, nth_within}
use Rattle.clover_rule.specs.Moves.{nobody}
use Rattle.clover_plain.specs.Plain.{Plain, Running, history, view_at}
use Rattle.clover_plain.specs.Preset.{tag_at as dealt_tag}
use Rattle.clover_plain.proofs.Seating.{at_front}
use Rattle.clover_plain.proofs.Stepping.{nth_default}
use Rattle.clover_walk.specs.Alone.{Way, way_from, way_from_short, is_live, LeadsOver, ComesBy, HasVersion}
use Rattle.clover_walk.specs.Standing.{number_of}
use Rattle.clover_walk.specs.Walking.{made_walk}
use Rattle.clover_walk.specs.declared.start.Start.TheVariants.{FromCursor, FromShort, FromRoot}
use Rattle.clover_walk.proofs.Alone.{content_words}
use Rattle.clover_call.specs.declared.under.Underway.{Underway}
use Rattle.clover_words.specs.declared.bytes.ValueBuf.{ValueBuf}
use Rattle.clover_call.specs.Caller.{IsCursor}
use Rattle.clover_call.specs.Beginning.{IsBegun, size_of}
use Rattle.clover_event.proofs.Starting.{value_fits, dead_fits}

-- a content has no more words than a buffer
content_fits : (p : Pool) (x : Option Value) → Fits p x → length (content x) ≤ p.words + 1
content_fits p None f = let e = content_words None in let k = dead_fits p in omega arith
content_fits p (Some x) f = let e = content_words (Some x) in let k = value_fits p x f.1 in omega arith

module _ (p : Pool) (first : Tagged) (used : List ℕ) (ws : List ℕ) (vs : List View) (st : Story) (h : List Entry) (r : Meets p first used ws vs st h) where
  abbrev m : Mem
  m = mem_of p ws

  -- what a walk of the slot that goes on from there comes to: the tags on its way and the tail, each in a buffer of the slot's chain, and the tail's version
  pub record Onward (s : ℕ) (from : Option ℕ) : Type 0 where
    pub tags : List ℕ
    pub tail : ℕ
    pub leads : LeadsOver p ws from tags tail
    pub version : Option Value
    pub has : HasVersion p ws tail version
    pub placed : Each (λ (t : ℕ). st.place (home t) ≡ Chained s) (tags ++ tail ∷ [])

  -- the version at a place that is not recycled stands on the slot's chain, and its link leads to the next place
  record Standing (s i : ℕ) (w : Version) : Type 0 where
    pub tag : tag_at st s i ≡ Some w.tag
    pub range : InRange p w.tag
    pub now : m.next (home w.tag) ≡ word (age w.tag) (tag_at st s (suc i))
    pub placed : st.place (home w.tag) ≡ Chained s

  stands_at : (s i : ℕ) (w : Version) → nth (st.log s) i ≡ Some w → st.gone s ≤ i → Standing s i w
  stands_at s i w e gone =
      let tag : tag_at st s i ≡ Some w.tag = ap tag_in_version e in
      let z = r.whole.basis.core.standing s i w.tag tag gone in
      record { tag = tag; range = r.whole.help.ranged.tags s i w.tag tag; now = z.now; placed = z.placed }

  -- the last version's words are what its content and its unlinked tag say
  has_version : (s i : ℕ) (w : Version) → nth (st.log s) i ≡ Some w → suc i ≡ length (st.log s) → st.gone s ≤ i → HasVersion p ws w.tag w.value
  has_version s i w e whole gone = record {
    next = sym (r.decodes (NextOf (buffer_at (home w.tag))) Current (buffer_in p (home w.tag) z.range.0) tt) ∙ ap next_code (sym (read_next p ws (home w.tag) z.range.0) ∙ unlinked);
    fits = fits;
    words = λ j x q.
        let l = nth_within (content w.value) j x q in
        let k = content_fits p w.value fits in
        sym (read_body p ws (home w.tag) j z.range.0 (omega arith)) ∙ (r.whole.basis.bodies s i w e gone j x q).0;
  }
    where
      z : Standing s i w
      z = stands_at s i w e gone

      fits : Fits p w.value
      fits = r.whole.help.ranged.fits s i w e

      unlinked : m.next (home w.tag) ≡ word (age w.tag) None
      unlinked = z.now ∙ ap (λ (v : Option Version). word (age w.tag) (tag_in_version v)) (nth_none (st.log s) (suc i) (omega arith))

  ends_here : (s i : ℕ) → suc i ≡ length (st.log s) → st.gone s ≤ i → (v : Option Version) → nth (st.log s) i ≡ v → Onward s (tag_at st s i)
  ends_here s i whole gone None e = absurd (let l = nth_past (st.log s) i e in omega arith)
  ends_here s i whole gone (Some w) e =
      let z = stands_at s i w e gone in
      record {
        tags = [];
        tail = w.tag;
        leads = record { walk = (z.tag, ap gen z.now, ap link z.now ∙ ap tag_in_version (nth_none (st.log s) (suc i) (omega arith))); range = (z.range, tt) };
        version = w.value;
        has = has_version s i w e whole gone;
        placed = (z.placed, tt);
      }

  goes_on_here : (s i : ℕ) → i < length (st.log s) → st.gone s ≤ i → Onward s (tag_at st s (suc i)) → (v : Option Version) → nth (st.log s) i ≡ v → Onward s (tag_at st s i)
  goes_on_here s i inside gone rest None e = absurd (let l = nth_past (st.log s) i e in omega arith)
  goes_on_here s i inside gone rest (Some w) e =
      let z = stands_at s i w e gone in
      record {
        tags = w.tag ∷ rest.tags;
        tail = rest.tail;
        leads = record { walk = (z.tag, ap gen z.now, subst (λ (x : Option ℕ). Walk m x (rest.tags ++ rest.tail ∷ [])) (sym (ap link z.now)) rest.leads.walk); range = (z.range, rest.leads.range) };
        version = rest.version;
        has = rest.has;
        placed = (z.placed, rest.placed);
      }

  -- from a place that is not recycled, with n places behind it
  from_place : (s n i : ℕ) → suc (i + n) ≡ length (st.log s) → st.gone s ≤ i → Onward s (tag_at st s i)
  from_place s zero i whole gone = ends_here s i (omega arith) gone (nth (st.log s) i) refl
  from_place s (suc n) i whole gone = goes_on_here s i (omega arith) gone (from_place s n (suc i) (omega arith) (omega arith)) (nth (st.log s) i) refl

  onward : (s i : ℕ) → i < length (st.log s) → st.gone s ≤ i → Onward s (tag_at st s i)
  onward s i inside gone = from_place s (length (st.log s) - suc i) i (omega arith) gone

  -- from a durable tag that is live
  from_live : (s t : ℕ) → Durable st s t → is_live m t ≡ true → Onward s (Some t)
  from_live s t d live = go (dec_le (st.gone s) d.0)
    where
      go : Dec (st.gone s ≤ d.0) → Onward s (Some t)
      go (yes a) = subst (Onward s) d.1 (onward s d.0 (tag_within st s d.0 t d.1) a)
      go (no a) =
          let e : gen (m.next (home t)) ≡ age t = eqb-true (gen (m.next (home t))) (age t) live in
          let l = (r.whole.basis.core.passed s d.0 t d.1 (omega arith)).later in absurd (omega arith)

  -- from the root of a slot that has a key
  pub from_root : (s : ℕ) (k : List ℕ) → st.keys s ≡ Some k → Onward s (m.root s)
  from_root s k e =
      let c = r.whole.basis.core in
      let low = c.rooted s (r.whole.help.keyed.filled s k e) in
      let most = c.sure_most s in
      let led = c.led s in
      subst (Onward s) (sym (c.root s)) (onward s (st.lead s) (omega arith) (omega arith))

  pub durable_range : (s t : ℕ) → Durable st s t → InRange p t
  durable_range s t d = r.whole.help.ranged.tags s d.0 t d.1

  pub short_range : (s : ℕ) (x : Option ℕ) → m.short s ≡ x → IfSome x (InRange p)
  short_range s None e = tt
  short_range s (Some t) e = durable_range s t (r.whole.help.short s t e)

  -- a way with so many stale starts at most, and what it comes to
  pub record Comes (s n : ℕ) (y : Way) : Type 0 where
    pub few : y.stale ≤ n
    pub onward : Onward s y.from

  module _ (s : ℕ) (k : List ℕ) (key : st.keys s ≡ Some k) where
    abbrev at_root : ℕ → ℕ → Way
    at_root loads stale = record { loads = loads; stale = stale; start = FromRoot; from = m.root s }

    short_tag : (t : ℕ) → m.short s ≡ Some t → (b : Bool) → is_live m t ≡ b → Comes s 1 (way_from_short m s)
    short_tag t e true live = subst (Comes s 1) (let q : record { loads = 1; stale = 0; start = FromShort; from = Some t } ≡ way_from_short m s = rw (e, live) refl in q) (record { few = omega arith; onward = from_live s t (r.whole.help.short s t e) live })
    short_tag t e false stale = subst (Comes s 1) (let q : at_root 3 1 ≡ way_from_short m s = rw (e, stale) refl in q) (record { few = omega arith; onward = from_root s k key })

    short_comes : (x : Option ℕ) → m.short s ≡ x → Comes s 1 (way_from_short m s)
    short_comes None e = subst (Comes s 1) (let q : at_root 2 0 ≡ way_from_short m s = rw e refl in q) (record { few = omega arith; onward = from_root s k key })
    short_comes (Some t) e = short_tag t e (is_live m t) refl

    cursor_comes : (t : ℕ) → Durable st s t → (b : Bool) → is_live m t ≡ b → Comes s 2 (way_from m s (Some t))
    cursor_comes t d true live = subst (Comes s 2) (let q : record { loads = 0; stale = 0; start = FromCursor; from = Some t } ≡ way_from m s (Some t) = rw live refl in q) (record { few = omega arith; onward = from_live s t d live })
    cursor_comes t d false stale =
        let y : Way = way_from_short m s in
        let z = short_comes (m.short s) refl in
        subst (Comes s 2) (let q : record { loads = suc y.loads; stale = suc y.stale; start = y.start; from = y.from } ≡ way_from m s (Some t) = rw stale refl in q) (record { few = let l = z.few in omega arith; onward = z.onward })

    pub comes : (known : Option ℕ) → IfSome known (Durable st s) → Comes s 2 (way_from m s known)
    comes None d = let z = short_comes (m.short s) refl in record { few = let l = z.few in omega arith; onward = z.onward }
    comes (Some t) d = cursor_comes t d (is_live m t) refl

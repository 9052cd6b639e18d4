-- The map that a sound image stands for, entered slot by slot.
use Rattle.std.proofs.Common.{◌≡◌, ℕ, suc, ◌+◌, ◌<◌, List, [], ◌∷◌, Bool, true, false, refl, sym, ap, ◌∙◌, subst, arith}
use native.Mathlib.Decide.{ℕ_discrete}
use Rattle.std.specs.Prelude.{Option, Some, None}
use Rattle.std.specs.FinMap.{get, insert, empty, get-empty}
use Rattle.std.specs.Option.{option_map}
use Rattle.std.proofs.lemmas.Option.{same_Some}
use Rattle.std.specs.Ordering.{nat_cmp}
use Rattle.std.specs.Cmp.Lexicographic.{slice_cmp}
use Rattle.clover_words.specs.Tag.{TagParts, tag_number}
use Rattle.clover_map.specs.declared.bytes.Held.{Held}
use Rattle.clover_map.specs.declared.bytes.Value.{Value}
use Rattle.clover_map.specs.Does.{held}
use Rattle.clover_map.specs.Key.{IsKey}
use Rattle.clover_map.specs.Tagged.{Tagged}
use Rattle.clover_rule.specs.Content.{Spells}
use Rattle.clover_rule.specs.Cut.{IsSound, StandsFor}
use Rattle.clover_rule.specs.History.{Version, ends, pair_of}
use Rattle.clover_rule.specs.Lists.{nth}
use Rattle.clover_rule.specs.Sound.{versions_of}
use Rattle.clover_rule.proofs.KeyMaps.{Map, at_key, shows}
use Rattle.clover_rule.proofs.Keys.{at_key_else, at_key_same, key_discrete}
use Rattle.clover_rule.proofs.Spelling.{one_key}
use Rattle.clover_rule.proofs.TaggedMaps.{shows_insert}
use Rattle.clover_image.specs.Contents.{HasVersion}
use Rattle.clover_image.specs.Image.{PoolImage}
use Rattle.clover_image.specs.Reading.{decoded, is_value, last_of, tail_as, told_tail}
use Rattle.clover_image.proofs.Tails.{no_versions}

abbrev pair_in : Option Version → Option Held
pair_in None = None
pair_in (Some w) = pair_of w

-- what versions end in is the pair of their last one
ends_last : (x : Option Version) (ws : List Version) → ends (pair_in x) ws ≡ pair_in (last_of x ws)
ends_last x [] = refl
ends_last x (w ∷ ws) = ends_last (Some w) ws

ends_in : (ws : List Version) (o : Option Version) → last_of None ws ≡ o → ends None ws ≡ pair_in o
ends_in ws o e = ends_last None ws ∙ ap pair_in e

-- the last version stands at a place of the chain
last_place : (ts : List ℕ) (f : ℕ → Option Value) (w : Version) → last_of None (versions_of ts f) ≡ Some w → (i : ℕ) × (nth ts i ≡ Some w.tag) × (f i ≡ w.value)
last_place [] f w e = absurd (let z : None ≡ Some w = e in cc)
last_place (t ∷ []) f w e = let q : record { tag = t; value = f 0 } ≡ w = (let z : Some record { tag = t; value = f 0 } ≡ Some w = e in cc) in (0, ap (λ (v : Version). Some v.tag) q, ap (λ (v : Version). v.value) q)
last_place (t ∷ u ∷ ts) f w e = let r = last_place (u ∷ ts) (λ (i : ℕ). f (suc i)) w e in (suc r.0, r.1, r.2)

abbrev Told : Type 0
Told = ℕ × Bool

-- a tail that is a value is the last version
tail_live : (o : Option Version) (t : ℕ) → ◌≡◌ {A = Option Told} (Some (t, true)) (option_map tail_as o) → (v : Value) × (o ≡ Some record { tag = t; value = Some v })
tail_live None t e = absurd (cc)
tail_live (Some w) t e = let p : ◌≡◌ {A = Told} (t, true) (w.tag, is_value w.value) = same_Some {A = Told} (t, true) (w.tag, is_value w.value) e in
    go w.value refl (ap (λ (x : Told). x.0) p) (ap (λ (x : Told). x.1) p)
  where
    go : (x : Option Value) → w.value ≡ x → t ≡ w.tag → true ≡ is_value w.value → (v : Value) × (Some w ≡ Some record { tag = t; value = Some v })
    go None q f g = absurd (let k = g ∙ ap is_value q in cc)
    go (Some v) q f g = (v, λ i. Some record { tag = sym f i; value = q i })

-- where it is a tombstone, the versions end in nothing
tail_dead : (o : Option Version) (t : ℕ) → ◌≡◌ {A = Option Told} (Some (t, false)) (option_map tail_as o) → pair_in o ≡ None
tail_dead None t e = refl
tail_dead (Some w) t e = let p : ◌≡◌ {A = Told} (t, false) (w.tag, is_value w.value) = same_Some {A = Told} (t, false) (w.tag, is_value w.value) e in
    go w.value refl (ap (λ (x : Told). x.1) p)
  where
    go : (x : Option Value) → w.value ≡ x → false ≡ is_value w.value → pair_of w ≡ None
    go None q g = λ i. pair_of (record { tag = w.tag; value = q i })
    go (Some v) q g = absurd (let k = g ∙ ap is_value q in cc)

-- and where there is no tail
tail_none : (o : Option Version) → None ≡ option_map tail_as o → pair_in o ≡ None
tail_none None e = refl
tail_none (Some w) e = absurd (cc)

module _ (m : PoolImage) (sound : IsSound m.pool m.words) where
  abbrev s_chain : ℕ → List Version
  s_chain s = versions_of (sound.reads.chain s) (sound.reads.value s)

  -- the map has the pairs of the keys of the slots below this one
  pub record Enters (slot : ℕ) (n : Tagged) : Type 0 where
    pub bound : (s t : ℕ) (k : List ℕ) → s < slot → (decoded m).root s ≡ Some t → IsKey k → Spells ((decoded m).key s) k → get n k ≡ ends None (s_chain s)
    pub only : (k : List ℕ) (x : Held) → get n k ≡ Some x → (s : ℕ) × (t : ℕ) × (s < slot) × ((decoded m).root s ≡ Some t) × IsKey k × Spells ((decoded m).key s) k

  pub enters_none : Enters 0 empty
  enters_none = record {
    bound = λ s t k l e is sp. absurd (omega arith);
    only = λ k x e. absurd (let q = get-empty {X = Held} (slice_cmp nat_cmp) k in cc);
  }

  -- a key of a slot that is none of those below has no pair yet
  no_pair : (slot t : ℕ) (n : Tagged) (k : List ℕ) → Enters slot n → (decoded m).root slot ≡ Some t → IsKey k → Spells ((decoded m).key slot) k → get n k ≡ None
  no_pair slot t n k e root is sp = go (get n k) refl
    where
      go : (o : Option Held) → get n k ≡ o → get n k ≡ None
      go None q = q
      go (Some x) q = let h = e.only k x q in absurd (let same = sound.reads.same h.0 slot h.1 t k h.3 root is h.5 sp in let l = h.2 in omega arith)

  -- a slot whose versions end in nothing has no pair to enter
  pub enters_skip : (slot : ℕ) (n : Tagged) → Enters slot n → ends None (s_chain slot) ≡ None → Enters (slot + 1) n
  enters_skip slot n e dead = record {
    bound = λ s t k l root is sp. by s t k l root is sp (ℕ_discrete s slot);
    only = λ k x q. let h = e.only k x q in (h.0, h.1, (let l = h.2 in omega arith), h.3, h.4, h.5);
  }
    where
      by : (s t : ℕ) (k : List ℕ) → s < slot + 1 → (decoded m).root s ≡ Some t → IsKey k → Spells ((decoded m).key s) k → Dec (s ≡ slot) → get n k ≡ ends None (s_chain s)
      by s t k l root is sp (no d) = e.bound s t k (omega arith) root is sp
      by s t k l root is sp (yes d) =
          no_pair slot t n k e (ap (decoded m).root (sym d) ∙ root) is (subst (λ (z : ℕ). Spells ((decoded m).key z) k) d sp) ∙ sym (ap (λ (z : ℕ). ends None (s_chain z)) d ∙ dead)

  -- the pair of a slot whose versions end in a value
  pub enters_pair : (slot t : ℕ) (n : Tagged) (k : List ℕ) (x : Held) → Enters slot n → (decoded m).root slot ≡ Some t → IsKey k → Spells ((decoded m).key slot) k → ends None (s_chain slot) ≡ Some x → Enters (slot + 1) (insert n k x)
  enters_pair slot t n k x e root is sp live = record {
    bound = λ s t1 k1 l root1 is1 sp1. by s t1 k1 l root1 is1 sp1 (ℕ_discrete s slot);
    only = λ k1 x1 q. from k1 x1 q (key_discrete k1 k);
  }
    where
      shown : shows (insert n k x) ≡ at_key (shows n) k (Some x)
      shown = shows_insert n k x

      here : get (insert n k x) k ≡ Some x
      here = ap (λ (f : Map). f k) shown ∙ at_key_same (shows n) k (Some x)

      other : (j : List ℕ) → (j ≡ k → ⊥) → get (insert n k x) j ≡ get n j
      other j d = ap (λ (f : Map). f j) shown ∙ at_key_else (shows n) k j (Some x) d

      by : (s t1 : ℕ) (k1 : List ℕ) → s < slot + 1 → (decoded m).root s ≡ Some t1 → IsKey k1 → Spells ((decoded m).key s) k1 → Dec (s ≡ slot) → get (insert n k x) k1 ≡ ends None (s_chain s)
      by s t1 k1 l root1 is1 sp1 (yes d) =
          ap (get (insert n k x)) (one_key ((decoded m).key slot) k1 k is1 is (subst (λ (z : ℕ). Spells ((decoded m).key z) k1) d sp1) sp) ∙ here ∙ sym (ap (λ (z : ℕ). ends None (s_chain z)) d ∙ live)
      by s t1 k1 l root1 is1 sp1 (no d) =
          other k1 (λ q. d (sound.reads.same slot s t t1 k root root1 is sp (subst (Spells ((decoded m).key s)) q sp1))) ∙ e.bound s t1 k1 (omega arith) root1 is1 sp1

      from : (k1 : List ℕ) (x1 : Held) → get (insert n k x) k1 ≡ Some x1 → Dec (k1 ≡ k) → (s : ℕ) × (t1 : ℕ) × (s < slot + 1) × ((decoded m).root s ≡ Some t1) × IsKey k1 × Spells ((decoded m).key s) k1
      from k1 x1 q (yes d) = (slot, t, omega arith, root, subst IsKey (sym d) is, subst (Spells ((decoded m).key slot)) (sym d) sp)
      from k1 x1 q (no d) = let h = e.only k1 x1 (sym (other k1 d) ∙ q) in (h.0, h.1, (let l = h.2 in omega arith), h.3, h.4, h.5)

  -- once all slots are entered, the image stands for the map
  pub enters_all : (n : Tagged) → Enters m.pool.slots n → StandsFor m.pool (decoded m) sound.reads n
  enters_all n e = record {
    bound = λ s t k root is sp. e.bound s t k (sound.reads.inside s t root) root is sp;
    unbound = λ k never. go k never (get n k) refl;
    keys = λ k x q. (e.only k x q).4;
  }
    where
      go : (k : List ℕ) → ((s t : ℕ) → (decoded m).root s ≡ Some t → Spells ((decoded m).key s) k → ⊥) → (o : Option Held) → get n k ≡ o → get n k ≡ None
      go k never None q = q
      go k never (Some x) q = let h = e.only k x q in absurd (never h.0 h.1 h.3 h.5)

  -- a slot whose tail is a value has a root, a key, and that value
  pub record Live (slot : ℕ) (t : TagParts) : Type 0 where
    pub root_tag : ℕ
    pub root : (decoded m).root slot ≡ Some root_tag
    pub key : List ℕ
    pub is_key : IsKey key
    pub spells : Spells ((decoded m).key slot) key
    pub value : Value
    pub has : HasVersion m (tag_number t) (Some value)
    pub live : ends None (s_chain slot) ≡ Some (held (tag_number t) value)

  -- the tail of a slot, as it is told
  abbrev Tells : ℕ → Option (TagParts × Bool) → Type 0
  Tells slot r = option_map told_tail r ≡ option_map tail_as (last_of None (s_chain slot))

  pub live_slot : (slot : ℕ) (t : TagParts) (b : Bool) (r : Option (TagParts × Bool)) → Tells slot r → r ≡ Some (t, b) → b ≡ true → Live slot t
  live_slot slot t b r told is live = go ((decoded m).root slot) refl
    where
      e : ◌≡◌ {A = Option Told} (Some (tag_number t, true)) (option_map tail_as (last_of None (s_chain slot)))
      e = ap (λ (x : Bool). Some (tag_number t, x)) (sym live) ∙ ap (option_map told_tail) (sym is) ∙ told

      go : (o : Option ℕ) → (decoded m).root slot ≡ o → Live slot t
      go None q = absurd (let z = e ∙ ap (option_map tail_as) (no_versions (decoded m) ((decoded m).root slot) (sound.reads.chain slot) (sound.reads.value slot) q (sound.reads.walk slot)) in cc)
      go (Some t0) q =
          let l = tail_live (last_of None (s_chain slot)) (tag_number t) e in
          let p = last_place (sound.reads.chain slot) (sound.reads.value slot) (record { tag = tag_number t; value = Some l.0 }) l.1 in
          let said = sound.reads.contents slot p.0 (tag_number t) p.1 in
          let k = sound.reads.key slot t0 q in
          record {
            root_tag = t0;
            root = q;
            key = k.0;
            is_key = k.1;
            spells = k.2;
            value = l.0;
            has = subst (HasVersion m (tag_number t)) p.2 (record { fits = said.0; words = said.1 });
            live = live_end l.0 l.1;
          }
        where
          live_end : (v : Value) → last_of None (s_chain slot) ≡ Some record { tag = tag_number t; value = Some v } → ends None (s_chain slot) ≡ Some (held (tag_number t) v)
          live_end v q = ends_in (s_chain slot) (Some record { tag = tag_number t; value = Some v }) q

  -- any other slot's versions end in nothing
  pub dead_slot : (slot : ℕ) (t : TagParts) (b : Bool) (r : Option (TagParts × Bool)) → Tells slot r → r ≡ Some (t, b) → b ≡ false → ends None (s_chain slot) ≡ None
  dead_slot slot t b r told is never =
      let e : ◌≡◌ {A = Option Told} (Some (tag_number t, false)) (option_map tail_as (last_of None (s_chain slot))) = ap (λ (x : Bool). Some (tag_number t, x)) (sym never) ∙ ap (option_map told_tail) (sym is) ∙ told in
      ends_in (s_chain slot) (last_of None (s_chain slot)) refl ∙ tail_dead (last_of None (s_chain slot)) (tag_number t) e

  pub bare_slot : (slot : ℕ) (r : Option (TagParts × Bool)) → Tells slot r → r ≡ None → ends None (s_chain slot) ≡ None
  bare_slot slot r told is = ends_in (s_chain slot) (last_of None (s_chain slot)) refl ∙ tail_none (last_of None (s_chain slot)) (ap (option_map told_tail) (sym is) ∙ told)

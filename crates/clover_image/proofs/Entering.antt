-- The keys of slots, entered one by one into a tree.
use Rattle.std.proofs.Common.{◌≡◌, ◌≢◌, ℕ, ◌+◌, ◌<◌, List, Bool, true, false, refl, sym, ap, ◌∙◌, subst, arith}
use native.Mathlib.Decide.{ℕ_discrete}
use Rattle.std.specs.Prelude.{Option, Some, None}
use Rattle.std.specs.Option.{is_some, option_map}
use Rattle.std.specs.Ordering.{nat_cmp}
use Rattle.std.specs.Cmp.{Equal-is}
use Rattle.std.specs.Cmp.Lexicographic.{slice_cmp}
use Rattle.std.specs.BTreeMap.{BTreeMap, Updates, get, is_at}
use Rattle.clover_words.specs.Tag.{TagParts, tag_number}
use Rattle.clover_map.proofs.Kept.{exact_keys}
use Rattle.clover_map.specs.Key.{IsKey}
use Rattle.clover_rule.specs.Content.{Spells}
use Rattle.clover_rule.proofs.Keys.{key_discrete}
use Rattle.clover_rule.proofs.Spelling.{one_key}
use Rattle.clover_image.specs.Damage.{KeyHolds, SharesKey}
use Rattle.clover_image.specs.Image.{PoolImage}
use Rattle.clover_image.specs.Reading.{decoded}

abbrev Tree : Type 0
Tree = BTreeMap (List ℕ) ℕ

-- what the tree has at a key
abbrev pub at : Tree → List ℕ → Option ℕ
at tree k = get (slice_cmp nat_cmp) tree k

-- the keys of the slots below this one hold, and the tree has each of them with its slot
pub record KeysEntered (m : PoolImage) (slot : ℕ) (tree : Tree) : Type 0 where
  pub hold : (s : ℕ) → s < slot → KeyHolds m s
  pub entered : (s t : ℕ) (k : List ℕ) → s < slot → (decoded m).root s ≡ Some t → IsKey k → Spells ((decoded m).key s) k → at tree k ≡ Some s
  pub only : (k : List ℕ) (s : ℕ) → at tree k ≡ Some s → (t : ℕ) × (s < slot) × ((decoded m).root s ≡ Some t) × IsKey k × Spells ((decoded m).key s) k

ne_at : (k q : List ℕ) → q ≢ k → is_at (slice_cmp nat_cmp k) q ≡ false
ne_at k q d = go (is_at (slice_cmp nat_cmp k) q) refl
  where
    go : (b : Bool) → is_at (slice_cmp nat_cmp k) q ≡ b → is_at (slice_cmp nat_cmp k) q ≡ false
    go false e = e
    go true e = absurd (d (sym (exact_keys k q ((Equal-is (slice_cmp nat_cmp k q)).0 e))))

-- a slot's root by its tag, where it has one
pub root_there : (r : Option ℕ) (o : Option TagParts) → r ≡ option_map tag_number o → is_some o ≡ true → (t : ℕ) × (r ≡ Some t)
root_there r None e h = absurd (let z : false ≡ true = h in cc)
root_there r (Some t) e h = (tag_number t, e)

pub root_gone : (r : Option ℕ) (o : Option TagParts) → r ≡ option_map tag_number o → is_some o ≡ false → r ≡ None
root_gone r None e h = e
root_gone r (Some t) e h = absurd (let z : true ≡ false = h in cc)

module _ (m : PoolImage) (slot : ℕ) (old : Tree) (before : KeysEntered m slot old) where
  -- a slot with no root has no key to enter
  pub keys_skip : (decoded m).root slot ≡ None → KeysEntered m (slot + 1) old
  keys_skip none = record {
    hold = λ s h. by s h (ℕ_discrete s slot);
    entered = λ s t k h e is sp. entered s t k h e is sp (ℕ_discrete s slot);
    only = λ k s e. let o = before.only k s e in (o.0, (let l = o.1 in omega arith), o.2, o.3, o.4);
  }
    where
      rootless : (s t : ℕ) → s ≡ slot → (decoded m).root s ≡ Some t → ⊥
      rootless s t d e = let q : None ≡ Some t = sym none ∙ ap (decoded m).root (sym d) ∙ e in cc

      by : (s : ℕ) → s < slot + 1 → Dec (s ≡ slot) → KeyHolds m s
      by s h (no d) = before.hold s (omega arith)
      by s h (yes d) = record { own = λ t e. absurd (rootless s t d e); new = λ s1 t1 t k l e f is a b. rootless s t d f }

      entered : (s t : ℕ) (k : List ℕ) → s < slot + 1 → (decoded m).root s ≡ Some t → IsKey k → Spells ((decoded m).key s) k → Dec (s ≡ slot) → at old k ≡ Some s
      entered s t k h e is sp (no d) = before.entered s t k (omega arith) e is sp
      entered s t k h e is sp (yes d) = absurd (rootless s t d e)

  module _ (t : ℕ) (root : (decoded m).root slot ≡ Some t) (k : List ℕ) (is : IsKey k) (sp : Spells ((decoded m).key slot) k) where
    -- a key that the tree has is that of an earlier slot
    pub keys_shared : (s : ℕ) → at old k ≡ Some s → SharesKey m slot
    keys_shared s e = let o = before.only k s e in record {
      tag = t;
      root = root;
      earlier = s;
      before = o.1;
      earlier_tag = o.0;
      earlier_root = o.2;
      key = k;
      is_key = is;
      its = o.4;
      own = sp;
    }

    -- one that it lacks is new
    module _ (new : Tree) (lacks : at old k ≡ None) (update : Updates (slice_cmp nat_cmp) old new k (Some slot)) where
      fresh : (s t1 : ℕ) (k1 : List ℕ) → s < slot → (decoded m).root s ≡ Some t1 → IsKey k1 → Spells ((decoded m).key s) k1 → k1 ≢ k
      fresh s t1 k1 l e is1 sp1 d = let q : None ≡ Some s = sym lacks ∙ ap (at old) (sym d) ∙ before.entered s t1 k1 l e is1 sp1 in cc

      other : (q : List ℕ) → q ≢ k → at new q ≡ at old q
      other q d = update.2 q (ne_at k q d)

      pub keys_more : KeysEntered m (slot + 1) new
      keys_more = record {
        hold = λ s h. by s h (ℕ_discrete s slot);
        entered = λ s t1 k1 h e is1 sp1. entered s t1 k1 h e is1 sp1 (ℕ_discrete s slot);
        only = λ k1 s e. from k1 s e (key_discrete k1 k);
      }
        where
          here : KeyHolds m slot
          here = record {
            own = λ t1 e. (k, is, sp);
            new = λ s1 t1 t2 k1 l e f is1 a b. fresh s1 t1 k1 l e is1 a (one_key ((decoded m).key slot) k1 k is1 is b sp);
          }

          by : (s : ℕ) → s < slot + 1 → Dec (s ≡ slot) → KeyHolds m s
          by s h (no d) = before.hold s (omega arith)
          by s h (yes d) = subst (KeyHolds m) (sym d) here

          entered : (s t1 : ℕ) (k1 : List ℕ) → s < slot + 1 → (decoded m).root s ≡ Some t1 → IsKey k1 → Spells ((decoded m).key s) k1 → Dec (s ≡ slot) → at new k1 ≡ Some s
          entered s t1 k1 h e is1 sp1 (no d) = other k1 (fresh s t1 k1 (omega arith) e is1 sp1) ∙ before.entered s t1 k1 (omega arith) e is1 sp1
          entered s t1 k1 h e is1 sp1 (yes d) =
              ap (at new) (one_key ((decoded m).key slot) k1 k is1 is (subst (λ (n : ℕ). Spells ((decoded m).key n) k1) d sp1) sp) ∙ update.1 ∙ ap Some (sym d)

          from : (k1 : List ℕ) (s : ℕ) → at new k1 ≡ Some s → Dec (k1 ≡ k) → (t1 : ℕ) × (s < slot + 1) × ((decoded m).root s ≡ Some t1) × IsKey k1 × Spells ((decoded m).key s) k1
          from k1 s e (yes d) =
              let q : slot ≡ s = (let z : Some slot ≡ Some s = sym update.1 ∙ ap (at new) (sym d) ∙ e in cc) in
              (t, omega arith, ap (decoded m).root (sym q) ∙ root, subst IsKey (sym d) is, subst (λ (n : ℕ). Spells ((decoded m).key n) k1) q (subst (Spells ((decoded m).key slot)) (sym d) sp))
          from k1 s e (no d) = let o = before.only k1 s (sym (other k1 d) ∙ e) in (o.0, (let l = o.1 in omega arith), o.2, o.3, o.4)

-- The slot that a list of bindings has for a key, against whether the key stands there.
use Rattle.std.proofs.Common.{◌≡◌, ◌≢◌, ℕ, List, [], ◌∷◌, ◌++◌, Bool, true, false, cond, inl, inr, refl, sym, ap, ◌∙◌}
use Rattle.std.specs.Prelude.{Option, Some, None}
use Rattle.std.proofs.lemmas.Option.{same_Some}
use Rattle.std.proofs.lemmas.Slice.Eq.{bytes_eq-Decides}
use Rattle.std.specs.Str.{bytes_eq}
use Rattle.clover_dir.specs.Names.{IsNew}
use Rattle.clover_rule.specs.Lists.{Within, nth}
use Rattle.clover_rule.specs.Names.{KeysOnce}
use Rattle.clover_rule.proofs.Snocs.{within_nth}
use Rattle.clover_run.specs.Wanting.{slot_for}

-- one binding in front of a list: its key is this one, or it is not
module _ (key : List ℕ) (q : ℕ × List ℕ) (rest : Option ℕ) where
  abbrev first : Bool → Option ℕ
  first b = cond b (Some q.0) rest

  found_by : {A : Type 0} (s : ℕ) (b : Bool) → bytes_eq q.1 key ≡ b → first b ≡ Some s → (q ≡ (s, key) → A) → (rest ≡ Some s → A) → A
  found_by s true t e f g = f (λ i. (same_Some q.0 s e i, (bytes_eq-Decides q.1 key).0 t i))
  found_by s false t e f g = g e

  none_by : {A : Type 0} (b : Bool) → bytes_eq q.1 key ≡ b → first b ≡ None → (q.1 ≢ key → rest ≡ None → A) → A
  none_by true t e f = absurd (let z : Some q.0 ≡ None = e in cc)
  none_by false t e f = f (λ k. let z : true ≡ false = sym ((bytes_eq-Decides q.1 key).1 k) ∙ t in cc) e

  here_by : (b : Bool) → bytes_eq q.1 key ≡ b → q.1 ≡ key → first b ≡ Some q.0
  here_by true t k = refl
  here_by false t k = absurd (let z : true ≡ false = sym ((bytes_eq-Decides q.1 key).1 k) ∙ t in cc)

  past_by : (b : Bool) → bytes_eq q.1 key ≡ b → q.1 ≢ key → first b ≡ rest
  past_by true t k = absurd (k ((bytes_eq-Decides q.1 key).0 t))
  past_by false t k = refl

  some_by : (b : Bool) → (s : ℕ) × (rest ≡ Some s) → (s : ℕ) × (first b ≡ Some s)
  some_by true h = (q.0, refl)
  some_by false h = h

-- a slot that is found is the key's
pub slot_found : (key : List ℕ) (names : List (ℕ × List ℕ)) (s : ℕ) → slot_for key names ≡ Some s → Within (s, key) names
slot_found key [] s e = absurd (let z : ◌≡◌ {A = Option ℕ} None (Some s) = e in cc)
slot_found key (q ∷ qs) s e = found_by key q (slot_for key qs) s (bytes_eq q.1 key) refl e inl (λ h. inr (slot_found key qs s h))

-- none is found exactly where the key is new
pub slot_new : (key : List ℕ) (names : List (ℕ × List ℕ)) → slot_for key names ≡ None → IsNew key names
slot_new key [] e = λ s h. h
slot_new key (q ∷ qs) e = none_by key q (slot_for key qs) (bytes_eq q.1 key) refl e (λ ne h. both ne (slot_new key qs h))
  where
    both : q.1 ≢ key → IsNew key qs → IsNew key (q ∷ qs)
    both ne new s (inl k) = ne (ap (λ (r : ℕ × List ℕ). r.1) k)
    both ne new s (inr w) = new s w

pub slot_none : (key : List ℕ) (names : List (ℕ × List ℕ)) → IsNew key names → slot_for key names ≡ None
slot_none key [] new = refl
slot_none key (q ∷ qs) new = past_by key q (slot_for key qs) (bytes_eq q.1 key) refl (λ k. new q.0 (inl (λ i. (q.0, k i)))) ∙ slot_none key qs (λ s w. new s (inr w))

-- some slot is found for a key that stands there
pub slot_there : (key : List ℕ) (names : List (ℕ × List ℕ)) (s : ℕ) → Within (s, key) names → (s1 : ℕ) × (slot_for key names ≡ Some s1)
slot_there key [] s h = absurd h
slot_there key (q ∷ qs) s (inl e) = (q.0, here_by key q (slot_for key qs) (bytes_eq q.1 key) refl (ap (λ (r : ℕ × List ℕ). r.1) e))
slot_there key (q ∷ qs) s (inr w) = some_by key q (slot_for key qs) (bytes_eq q.1 key) (slot_there key qs s w)

-- the key's only one where no key stands twice
pub slot_only : (key : List ℕ) (names : List (ℕ × List ℕ)) (s : ℕ) → KeysOnce names → Within (s, key) names → slot_for key names ≡ Some s
slot_only key names s once w =
    let f = slot_there key names s w in
    let i = within_nth (f.0, key) names (slot_found key names f.0 f.1) in
    let j = within_nth (s, key) names w in
    let same : i.0 ≡ j.0 = once i.0 j.0 f.0 s key i.1 j.1 in
    let both : (f.0, key) ≡ (s, key) = same_Some (f.0, key) (s, key) (sym i.1 ∙ ap (nth names) same ∙ j.1) in
    f.1 ∙ ap (λ (r : ℕ × List ℕ). Some r.0) both

-- bindings that come behind change nothing for a key that is there
pub slot_front : (key : List ℕ) (names more : List (ℕ × List ℕ)) (s : ℕ) → slot_for key names ≡ Some s → slot_for key (names ++ more) ≡ Some s
slot_front key [] more s e = absurd (let z : ◌≡◌ {A = Option ℕ} None (Some s) = e in cc)
slot_front key (q ∷ qs) more s e = by (bytes_eq q.1 key) e (slot_front key qs more s)
  where
    by : (b : Bool) → first key q (slot_for key qs) b ≡ Some s → (slot_for key qs ≡ Some s → slot_for key (qs ++ more) ≡ Some s) → first key q (slot_for key (qs ++ more)) b ≡ Some s
    by true e f = e
    by false e f = f e

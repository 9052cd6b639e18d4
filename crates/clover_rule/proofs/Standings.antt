-- Facts on standing versions.
use Rattle.std.proofs.Common.{◌≡◌, ℕ, suc, ◌<◌, ◌≤◌, length, Bool, true, false, ltb, refl, sym, ap, ◌∙◌, arith}
use native.Mathlib.Decide.{dec_le}
use mathlib.Core.Logic.{dite}
use Rattle.std.specs.Prelude.{Option, Some, None}
use Rattle.std.proofs.lemmas.Bool.{le-ltb}
use Rattle.std.proofs.lemmas.Option.{same_Some}
use Rattle.clover_words.specs.declared.pool.Pool.{Pool}
use Rattle.clover_words.specs.Tag.{home, age}
use Rattle.clover_rule.specs.History.{Version}
use Rattle.clover_rule.specs.Lists.{nth}
use Rattle.clover_rule.specs.Memory.{Next, word, gen, link, Mem}
use Rattle.clover_rule.specs.Server.{IsStoring, IsExchanged, holding, AtStage}
use Rattle.clover_rule.specs.Story.{Story, tag_in_version, tag_at, only, Core}
use Rattle.clover_rule.specs.declared.view.NewBinding.{NewBinding}
use Rattle.clover_rule.specs.declared.view.Recycling.{Recycling}
use Rattle.clover_rule.specs.declared.view.ServerTask.{ServerTask}
use Rattle.clover_rule.specs.declared.view.ServerTask.TheVariants.{Idle, Storing, Rooted, Waiting, Loaded, Raised, Led, Both, Exchanged}
use Rattle.clover_rule.proofs.Tools.{nth_within, nth_past}

-- a tag at a place, of the version there
pub tag_there : (st : Story) (s i t : ℕ) → tag_at st s i ≡ Some t → (w : Version) × (nth (st.log s) i ≡ Some w) × (w.tag ≡ t)
tag_there st s i t e = go (nth (st.log s) i) refl e
  where
    go : (x : Option Version) → nth (st.log s) i ≡ x → tag_in_version x ≡ Some t → (w : Version) × (nth (st.log s) i ≡ Some w) × (w.tag ≡ t)
    go None p q = absurd cc
    go (Some w) p q = (w, p, cc)

pub tag_within : (st : Story) (s i t : ℕ) → tag_at st s i ≡ Some t → i < length (st.log s)
tag_within st s i t e = let h = tag_there st s i t e in nth_within (st.log s) i h.0 h.1

pub tag_past : (st : Story) (s i : ℕ) → tag_at st s i ≡ None → length (st.log s) ≤ i
tag_past st s i e = go (nth (st.log s) i) refl e
  where
    go : (x : Option Version) → nth (st.log s) i ≡ x → tag_in_version x ≡ None → length (st.log s) ≤ i
    go None p q = nth_past (st.log s) i p
    go (Some w) p q = absurd cc

pub same_tag : (t u : ℕ) → home t ≡ home u → age t ≡ age u → t ≡ u
unfolding home age
same_tag t u h a = omega arith

pub only_same : (a b : ℕ) (x y : Option ℕ) → (a < b → x ≡ y) → only (ltb a b) x ≡ only (ltb a b) y
only_same a b x y h = dite (dec_le (suc a) b) (λ d. ap (only (ltb a b)) (h d)) (λ d. rw (le-ltb a b (omega arith)) refl)

pub only_none : (a : Bool) → only a None ≡ None
only_none true = refl
only_none false = refl

pub word_is : (n : Next) (a : ℕ) (o : Option ℕ) → gen n ≡ a → link n ≡ o → n ≡ word a o
word_is (word b l) a o g h = cc

-- two standing versions in one buffer are one
pub one_buffer : (m : Mem) (st : Story) → Core m st → (s i t s' i' t' : ℕ) → tag_at st s i ≡ Some t → st.gone s ≤ i → tag_at st s' i' ≡ Some t' → st.gone s' ≤ i' → home t' ≡ home t → (s' ≡ s) × (i' ≡ i) × (t' ≡ t)
one_buffer m st c s i t s' i' t' e g e' g' h =
    let a = (c.standing s i t e g).now in
    let b = (c.standing s' i' t' e' g').now in
    let ages : age t' ≡ age t = cc (ap m.next h) in
    let same = same_tag t' t h ages in
    let x = c.spotted s i t e in
    let y = c.spotted s' i' t' e' in
    (cc, cc, same)

-- the content of an exchanged root version is of its tag
pub exchanged_tag : (l : Pool) (m : Mem) (st : Story) (cycle : Recycling) (a : IsExchanged l m st cycle) → a.body.0.tag ≡ cycle.root
exchanged_tag l m st cycle a = let z : Some a.body.0.tag ≡ Some cycle.root = sym (ap tag_in_version a.body.1) ∙ a.old.2 in cc

-- a held buffer is a new binding's or an exchanged root's
pub by_held : (l : Pool) (m : Mem) (st : Story) (P : ServerTask → Type 0) (T : ServerTask) (b : ℕ) → AtStage l m st T → holding T ≡ Some b
    → ((bind : NewBinding) (n : ℕ) → home bind.tag ≡ b → IsStoring l m st bind n → P (Storing bind n)) → ((cycle : Recycling) → home cycle.root ≡ b → IsExchanged l m st cycle → P (Exchanged cycle)) → P T
by_held l m st P (Storing bind n) b a e f g = f bind n (same_Some (home bind.tag) b e) a
by_held l m st P (Exchanged cycle) b a e f g = g cycle (same_Some (home cycle.root) b e) a
by_held l m st P Idle b a e f g = absurd cc
by_held l m st P (Rooted bind) b a e f g = absurd cc
by_held l m st P (Waiting bind) b a e f g = absurd cc
by_held l m st P (Loaded cycle) b a e f g = absurd cc
by_held l m st P (Raised cycle) b a e f g = absurd cc
by_held l m st P (Led cycle) b a e f g = absurd cc
by_held l m st P (Both cycle) b a e f g = absurd cc

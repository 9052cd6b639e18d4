-- The law of the split of a grant.
use Rattle.std.proofs.Common.{◌≡◌, ℕ, ◌≢◌, List, [], ◌∷◌, refl, sym, ap, ◌∙◌, subst}
use native.Mathlib.Decide.{ℕ_discrete}
use mathlib.Core.Logic.{dite}
use Rattle.clover_words.specs.Tag.{home}
use Rattle.clover_rule.specs.Lists.{Each, upd}
use Rattle.clover_rule.specs.Memory.{Mem}
use Rattle.clover_rule.specs.Story.{Place, Chained, Loose, Story, Core}
use Rattle.clover_rule.specs.Views.{batch_at}
use Rattle.clover_rule.proofs.Tools.{upd_same, upd_else}
use Rattle.clover_rule.proofs.Steps.{each_map}
use Rattle.clover_rule.proofs.Roots.{handed_core}

pub away : (f : ℕ → Place) (ts : List ℕ) (q : Place) (b : ℕ) → Each (λ (t : ℕ). home t ≢ b) ts → batch_at f ts q b ≡ f b
away f [] q b h = refl
away f (t ∷ ts) q b h = away (upd f (home t) q) ts q b h.1 ∙ upd_else f (home t) b q (λ e. h.0 (sym e))

pub there : (f : ℕ → Place) (ts : List ℕ) (q : Place) (b : ℕ) → f b ≡ q → batch_at f ts q b ≡ q
there f [] q b h = h
there f (t ∷ ts) q b h = there (upd f (home t) q) ts q b (dite (ℕ_discrete b (home t)) (λ e. ap (upd f (home t) q) e ∙ upd_same f (home t) q) (λ n. upd_else f (home t) b q n ∙ h))

pub all_there : (f : ℕ → Place) (ts : List ℕ) (q : Place) (P : ℕ → Type 0) → Each P ts → Each (λ (t : ℕ). (batch_at f ts q (home t) ≡ q) × P t) ts
all_there f [] q P e = tt
all_there f (t ∷ ts) q P e = ((there (upd f (home t) q) ts q (home t) (upd_same f (home t) q), e.0), all_there (upd f (home t) q) ts q P e.1)

pub core_handed : (m : Mem) (st : Story) (ts : List ℕ) (q : Place) → Core m st → Loose q → ((s : ℕ) → q ≢ Chained s) → Each (λ (t : ℕ). Loose (st.place (home t))) ts → Core m (record st { place = batch_at st.place ts q })
core_handed m st [] q c l n h = c
core_handed m st (t ∷ ts) q c l n h = core_handed m (record st { place = upd st.place (home t) q }) ts q (handed_core m st (home t) q c h.0 n) l n (each_map still ts h.1)
  where
    still : (x : ℕ) → Loose (st.place (home x)) → Loose (upd st.place (home t) q (home x))
    still x y = dite (ℕ_discrete (home x) (home t)) (λ e. subst Loose (sym (ap (upd st.place (home t) q) e ∙ upd_same st.place (home t) q)) l) (λ d. subst Loose (sym (upd_else st.place (home t) (home x) q d)) y)

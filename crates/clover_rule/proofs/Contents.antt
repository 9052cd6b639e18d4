-- The stores of a binding before its root.
use Rattle.std.proofs.Common.{◌≡◌, ℕ, ◌≤◌, ◌≢◌, List, [], ◌++◌, refl, sym, ap, ◌∙◌, inl, inr, ⊎_elim, arith, subst}
use native.Mathlib.Decide.{ℕ_discrete}
use mathlib.Core.Logic.{dite}
use Rattle.std.specs.Prelude.{Option, Some, None}
use Rattle.clover_words.specs.Tag.{home}
use Rattle.clover_map.specs.declared.call.Entry.{Entry}
use Rattle.clover_map.specs.Tagged.{Tagged}
use Rattle.clover_rule.specs.History.{Version}
use Rattle.clover_rule.specs.Lists.{upd}
use Rattle.clover_rule.specs.Memory.{gen, link, Mem}
use Rattle.clover_rule.specs.Server.{Ready, moving, unnamed, holding, IsStoring, Stage, root_in, is_home, book_of, waiting_name, Serves, Whole}
use Rattle.clover_rule.specs.Story.{Place, Chained, Stocked, Taken, Story, tag_in_version, tag_at}
use Rattle.clover_rule.specs.Views.{find_book, book_at, book, Holds, Stands, Spent, Basis}
use Rattle.clover_rule.specs.declared.view.BookLine.{BookLine}
use Rattle.clover_rule.specs.declared.view.BufferState.TheVariants.{Out as IsOut}
use Rattle.clover_rule.specs.declared.view.NewBinding.{NewBinding}
use Rattle.clover_rule.specs.declared.view.Server.{Server}
use Rattle.clover_rule.specs.declared.view.ServerTask.{ServerTask}
use Rattle.clover_rule.specs.declared.view.ServerTask.TheVariants.{Storing}
use Rattle.clover_rule.specs.declared.view.View.{View}
use Rattle.clover_words.specs.declared.pool.Pool.{Pool}
use Rattle.clover_rule.proofs.Tools.{upd_same, upd_else}
use Rattle.clover_rule.proofs.Steps.{prefix_self}
use Rattle.clover_rule.proofs.ServerTools.{core_copy, Moves, book_same, tale_copy}
use Rattle.clover_rule.proofs.Roots.{hold_core}

module _ (l : Pool) (m0 : Tagged) (used : List ℕ) (m : Mem) (vs : List View) (st : Story) (h : List Entry) (w : Whole l m0 used m vs st h)
    (b0 : ℕ) (lone : link (m.next b0) ≡ None) (loose : (s : ℕ) → st.place b0 ≢ Chained s) (unstocked : (j : ℕ) → st.place b0 ≢ Stocked j)
    (B FB K FK : ℕ → ℕ → ℕ) (T' : ServerTask) (body_else : (b : ℕ) → b ≢ b0 → B b ≡ m.body b) (fbody_else : (b : ℕ) → b ≢ b0 → FB b ≡ m.fbody b)
    (key_else : (s : ℕ) (k : List ℕ) → st.keys s ≡ Some k → K s ≡ m.key s) (fkey_else : (s : ℕ) (k : List ℕ) → st.keys s ≡ Some k → FK s ≡ m.fkey s) where
  abbrev pub content_mem : Mem
  content_mem = record m { body = B; fbody = FB; key = K; fkey = FK }

  abbrev pub content_story : Story
  content_story = record st { place = upd st.place b0 Taken; task = T' }

  r : Basis m0 used m vs st h
  r = w.basis

  place_else : (b : ℕ) → b ≢ b0 → content_story.place b ≡ st.place b
  place_else b n = upd_else st.place b0 b Taken n

  holds_kept : (s i : ℕ) (x : Version) → Stands st s i x → st.gone s ≤ i → Holds content_mem x
  holds_kept s i x e g j y q =
      let a = r.bodies s i x e g j y q in
      let n : home x.tag ≢ b0 = λ z. loose s (ap st.place (sym z) ∙ (r.core.standing s i x.tag (ap tag_in_version e) g).placed) in
      (ap (λ (f : ℕ → ℕ). f j) (body_else (home x.tag) n) ∙ a.0, ap (λ (f : ℕ → ℕ). f j) (fbody_else (home x.tag) n) ∙ a.1)

  spent_kept : (y : ℕ) → Spent m st y → Spent content_mem content_story y
  spent_kept y (inl a) = inl a
  spent_kept y (inr a) = inr (a.0, place_else (home y) (λ q. loose a.0 (ap st.place (sym q) ∙ a.1)) ∙ a.1, a.2)

  module _ (stage : Stage l content_mem content_story T') where
    pub content_moves : Moves l m0 used m st h content_mem content_story
    content_moves = let p = w.help in record {
      core = core_copy m (record st { place = upd st.place b0 Taken }) (hold_core m st b0 r.core lone loose) B FB K FK m.short m.count st.keys st.first st.bindings T' st.slot_named;
      tale = tale_copy st m0 used h r.tale (upd st.place b0 Taken) st.gone st.lead st.flead st.named st.bindings T' st.slot_named;
      bodies = holds_kept;
      spent = spent_kept;
      bound = r.bound;
      keyed = r.keyed;
      grows = record { versions = λ s1 i1 w1 q. q; sure = λ j. omega arith; gone = λ j. omega arith; gens = λ b. omega arith; names = prefix_self st.bindings; count = omega arith; history = prefix_self h };
      leaves = λ j b e. let n : b ≢ b0 = λ q. unstocked j (ap st.place (sym q) ∙ e) in record { place = place_else b n ∙ e; next = refl; body = λ y. ap (λ (f : ℕ → ℕ). f y) (body_else b n); fbody = λ y. ap (λ (f : ℕ → ℕ). f y) (fbody_else b n) };
      help = record {
        ranged = let a = p.ranged in record {
          tags = a.tags;
          own = a.own;
          below = a.below;
          fits = a.fits;
          ready = λ b f. dite (ℕ_discrete b b0) (λ d. absurd (subst Ready (ap content_story.place d ∙ upd_same st.place b0 Taken) f)) (λ n. a.ready b (subst Ready (place_else b n) f));
          worn = λ b i f. dite (ℕ_discrete b b0) (λ d. absurd (cc (ap content_story.place d, upd_same st.place b0 Taken, f))) (λ n. a.worn b i (sym (place_else b n) ∙ f));
        };
        keyed = let a = p.keyed in record {
          valid = a.valid;
          bare = a.bare;
          nameless = a.nameless;
          filled = a.filled;
          slots = a.slots;
          current = λ s k e j x q. ap (λ (f : ℕ → ℕ). f j) (key_else s k e) ∙ a.current s k e j x q;
          flushed = λ s k e j x q. ap (λ (f : ℕ → ℕ). f j) (fkey_else s k e) ∙ a.flushed s k e j x q;
        };
        naming = let a = p.naming in record { counted = a.counted; found = a.found; listed = a.listed; waiting = a.waiting; once = a.once };
        stage = stage;
        short = p.short;
      };
      fgens = λ b. omega arith;
    }

abbrev storing_story : Story → NewBinding → ℕ → Story
storing_story st bind n = record st { place = upd st.place (home bind.tag) Taken; task = Storing bind n }

-- the stage of a binding after one of these stores
pub storing_stage : (l : Pool) (m m' : Mem) (st : Story) (T : ServerTask) (bind : NewBinding) (n : ℕ) → Stage l m st T → ((s1 : ℕ) → moving T ≢ Some s1) → unnamed T ≡ None → ((b : ℕ) → holding T ≡ Some b → b ≡ home bind.tag)
    → IsStoring l m' (record st { place = upd st.place (home bind.tag) Taken; task = Storing bind n }) bind n → Stage l m' (record st { place = upd st.place (home bind.tag) Taken; task = Storing bind n }) (Storing bind n)
storing_stage l m m' st T bind n g mv un ho is = record {
  settled = λ s1 q. g.settled s1 (mv s1);
  holds = λ b e. dite (ℕ_discrete b (home bind.tag)) (λ d. ap Some (sym d)) (λ d. absurd (d (ho b (g.holds b (sym (upd_else st.place (home bind.tag) b Taken d) ∙ e)))));
  names = λ s1 k1 e. ⊎_elim inl (λ q. absurd (cc (un, q))) (g.names s1 k1 e);
  here = is;
}

-- the books under a task that holds one buffer
pub storing_serves : (l : Pool) (m m' : Mem) (st : Story) (T : ServerTask) (bind : NewBinding) (n : ℕ) (sv : Server) → Serves l m st T sv → ((s1 : ℕ) → root_in T st s1 ≡ tag_at st s1 (st.gone s1)) → waiting_name T ≡ [] → ((b : ℕ) → st.place b ≡ Taken → b ≡ home bind.tag)
    → ((b : ℕ) → m'.next b ≡ m.next b) → (books : List BookLine) → ((b : ℕ) → b ≢ home bind.tag → find_book books b ≡ book_at sv b) → (find_book books (home bind.tag) ≡ book (gen (m.next (home bind.tag))) IsOut)
    → Serves l m' (record st { place = upd st.place (home bind.tag) Taken; task = Storing bind n }) (Storing bind n) (record sv { task = Storing bind n; books = books })
storing_serves l m m' st T bind n sv e ro wa he nx books el now = record {
  task_is = refl;
  directory = e.directory ∙ ap (λ (x : List (ℕ × List ℕ)). st.bindings ++ x) wa;
  roots = λ s1. e.roots s1 ∙ ro s1;
  books = λ b i. dite (ℕ_discrete b (home bind.tag))
      (λ d. ap (find_book books) d ∙ now ∙ ap (λ (x : ℕ). book x IsOut) (sym (ap gen (ap m'.next d ∙ nx (home bind.tag)))) ∙ sym (ap (λ (p : Place). book_of (Storing bind n) (storing_story st bind n) p (gen (m'.next b)) b) (ap (storing_story st bind n).place d ∙ upd_same st.place (home bind.tag) Taken)))
      (λ d. el b d ∙ e.books b i ∙ sym (ap (λ (g : ℕ). book_of T st (st.place b) g b) (ap gen (nx b))) ∙ sym (book_same T (Storing bind n) st (storing_story st bind n) (st.place b) (gen (m'.next b)) b (λ s1 q. ap (λ (x : Option ℕ). is_home x b) (sym (ro s1))) (λ q. absurd (d (he b q)))) ∙ sym (ap (λ (p : Place). book_of (Storing bind n) (storing_story st bind n) p (gen (m'.next b)) b) (upd_else st.place (home bind.tag) b Taken d)));
}
